use Rattle.std.proofs.Common.{◌∙◌, ap, rules}
use Rattle.std.specs.Int.{w32}
use Rattle.std.specs.Int.RustNames.{FitsSigned}
use Rattle.std.proofs.lemmas.Int.{to_z-of_z}
use Rattle.ev_stack.specs.Links.{order_of, last_up_to}
use Rattle.ev_stack.proofs.Moves.{tops_layered}
use Rattle.ev_stack.proofs.Tops.{last_up_to-tops_of}
use Rattle.ev_stack.proofs.stack.Stack.top_place.Goals as goal

pub top_place-requires : goal.top_place-requires
top_place-requires c = tops_layered c.args.self.now c.requires.tops c.requires.layered

pub returns : goal.returns
returns c =
    let fits : FitsSigned w32 c.args.layer = search rules in
    (simp to_z-of_z at c.top_place.ensures)
    ∙ ap (λ ts. last_up_to 0 ts c.args.layer) c.requires.tops
    ∙ last_up_to-tops_of 0 (order_of c.args.self.now.chain) c.args.layer
