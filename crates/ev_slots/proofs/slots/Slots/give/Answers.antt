use Rattle.std.proofs.Common.{nat_eq, [], ◌∷◌, ◌++◌, None, ap, ◌∙◌, arith}
use Rattle.std.specs.HashMap.{get}
use Rattle.slab.specs.Slab.{get as entry, slab_len}
use Rattle.ev_slots.specs.KeptPlaces.{thing_of}
use Rattle.ev_slots.proofs.Keeping.{more_given, given_as, one_more, are_given}
use Rattle.ev_slots.proofs.slots.Slots.give.Goals as goal

pub invariant_of-self : goal.invariant_of-self
invariant_of-self g c =
    let is = ap (λ s. s.slots) c.self.view_is in
    let n = given_as c.self.inside.given (get nat_eq c.self.inside.places) (entry c.self.inside.entries) (slab_len c.self.inside.entries) c.self.invariant c.args.self.now.slots is in let few = c.requires in
    more_given c.self.inside.given (get nat_eq c.self.inside.places) (entry c.self.inside.entries) (slab_len c.self.inside.entries) c.self.invariant (omega (arith, n, few))

pub returns-clause-slots : goal.returns-clause-slots
returns-clause-slots g c =
    one_more (thing_of (get nat_eq c.self.inside.places) (entry c.self.inside.entries)) c.self.inside.given (are_given c.self.inside.given (get nat_eq c.self.inside.places) (entry c.self.inside.entries) (slab_len c.self.inside.entries) c.self.invariant)
    ∙ ap (λ s. s.slots ++ None ∷ []) c.self.view_is
