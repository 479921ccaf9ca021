use Rattle.std.proofs.Common.{nat_eq, Some, ap, ◌∙◌}
use Rattle.std.specs.HashMap.{get}
use Rattle.slab.specs.Slab.{get as entry, slab_len}
use Rattle.ev_slots.specs.Slots.{of_id, put}
use Rattle.ev_slots.proofs.Keeping.{filled, list_filled, seen_high}
use Rattle.ev_slots.proofs.Seating.{sits_down}
use Rattle.ev_slots.proofs.slots.Slots.fill.Goals as goal

pub invariant_of-self : goal.invariant_of-self
invariant_of-self g c =
    let is = ap (λ s. s.slots) c.self.view_is in
    filled c.self.inside.given (get nat_eq c.self.inside.places) (entry c.self.inside.entries) (slab_len c.self.inside.entries) c.self.invariant c.args.id c.args.thing (get nat_eq c.enter-place.new.places) (entry c.enter-place.new.entries) (slab_len c.enter-place.new.entries) c.enter-place.ensures.enters
    c.requires.low (seen_high c.self.inside.given (get nat_eq c.self.inside.places) (entry c.self.inside.entries) (slab_len c.self.inside.entries) c.self.invariant c.args.self.now.slots c.args.id is c.requires.high) (ap (λ s. of_id s c.args.id) is ∙ c.requires.none)

pub returns-clause-slots : goal.returns-clause-slots
returns-clause-slots g c =
    let is = ap (λ s. s.slots) c.self.view_is in
    list_filled c.self.inside.given (get nat_eq c.self.inside.places) (entry c.self.inside.entries) (slab_len c.self.inside.entries) c.self.invariant c.args.id c.args.thing (get nat_eq c.enter-place.new.places) (entry c.enter-place.new.entries) (slab_len c.enter-place.new.entries) c.enter-place.ensures.enters
    c.requires.low (seen_high c.self.inside.given (get nat_eq c.self.inside.places) (entry c.self.inside.entries) (slab_len c.self.inside.entries) c.self.invariant c.args.self.now.slots c.args.id is c.requires.high) (ap (λ s. of_id s c.args.id) is ∙ c.requires.none)
    ∙ ap (λ s. put s c.args.id (Some c.args.thing)) is

pub returns-clause-seats : goal.returns-clause-seats
returns-clause-seats g c =
    rw (← c.self.view_is) (sits_down c.self.inside.entries.slots c.enter-place.new.entries.slots (get nat_eq c.self.inside.places) (get nat_eq c.enter-place.new.places) (slab_len c.self.inside.entries) (slab_len c.enter-place.new.entries) c.args.id c.args.thing c.enter-place.ensures.enters)
