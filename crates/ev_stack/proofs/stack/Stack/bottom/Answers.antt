use Rattle.std.proofs.Common.{◌≡◌, ◌∙◌, ap}
use Rattle.ev_stack.specs.LayerOrder.{bottom_in}
use Rattle.ev_stack.specs.Links.{order_of, id_or_none}
use Rattle.ev_stack.proofs.Walks.{bottom_in-next_in, ids_from-bottom_in}
use Rattle.ev_stack.proofs.stack.Stack.bottom.Goals as goal

pub returns : goal.returns
returns c =
    let lowest : c.id_or_none.result ≡ bottom_in (order_of c.args.self.now.chain) =
    c.id_or_none.ensures
    ∙ ap id_or_none (c.above.ensures ∙ c.requires.sound.above 0)
    ∙ bottom_in-next_in 0 (order_of c.args.self.now.chain) c.requires.sound.apart
    in
    record { bottom = lowest; all = rw lowest (ids_from-bottom_in (order_of c.args.self.now.chain)) }
