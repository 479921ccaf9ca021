use Rattle.std.proofs.Common.{◌≡◌, ◌∙◌, ap, sym, subst, None}
use Rattle.ev_stack.specs.LayerOrder.{IsApart, above_in}
use Rattle.ev_stack.specs.Links.{order_of, id_or_none}
use Rattle.ev_stack.proofs.Walks.{above_in-next_in, above_in-absent, ids_from-above_in}
use Rattle.ev_stack.proofs.stack.Stack.next_above.Goals as goal

pub returns-then-id-eq-END : goal.returns-then-id-eq-END
returns-then-id-eq-END c =
    let none : above_in (order_of c.args.self.now.chain) c.args.id ≡ None =
    above_in-absent (order_of c.args.self.now.chain) c.args.id (subst (λ n. IsApart n (order_of c.args.self.now.chain)) (sym c.if-id-eq-END.true) c.requires.sound.apart)
    in
    record { above = sym none; rest = rw none at (ids_from-above_in (order_of c.args.self.now.chain) c.args.id c.requires.sound.distinct) }

pub returns : goal.returns
returns c =
    let next : c.id_or_none.result ≡ above_in (order_of c.args.self.now.chain) c.args.id =
    c.id_or_none.ensures
    ∙ ap id_or_none (c.above.ensures ∙ c.requires.sound.above c.args.id)
    ∙ above_in-next_in 0 (order_of c.args.self.now.chain) c.args.id c.requires.sound.apart c.if-id-eq-END.false
    in
    record { above = next; rest = rw next (ids_from-above_in (order_of c.args.self.now.chain) c.args.id c.requires.sound.distinct) }
