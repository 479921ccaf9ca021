use Rattle.std.proofs.Common.{nat_eq, Some, [], ◌∷◌, ◌++◌, ◌+◌, ◌<◌, sym, ap, subst, ◌∙◌}
use Rattle.std.specs.HashMap.{get}
use Rattle.slab.specs.Slab.{get as entry, slab_len}
use Rattle.ev_slots.specs.Seats.{SitsDown}
use Rattle.ev_slots.specs.KeptPlaces.{seats_of, thing_of}
use Rattle.ev_slots.proofs.Keeping.{pushed, list_pushed, room_left, length_up_to}
use Rattle.ev_slots.proofs.Seating.{sits_down}
use Rattle.ev_slots.proofs.slots.Slots.push.Goals as goal

pub invariant_of-self : goal.invariant_of-self
invariant_of-self g c =
    let few = room_left c.self.inside.given _ (subst (λ n. 0 < n) (sym (ap (λ s. s.room) c.self.view_is)) c.requires) in
    pushed c.self.inside.given (get nat_eq c.self.inside.places) (entry c.self.inside.entries) (slab_len c.self.inside.entries) c.self.invariant few c.args.thing (get nat_eq c.enter-place.new.places) (entry c.enter-place.new.entries) (slab_len c.enter-place.new.entries) c.enter-place.ensures.enters

pub returns-clause-slots : goal.returns-clause-slots
returns-clause-slots g c =
    let few = room_left c.self.inside.given _ (subst (λ n. 0 < n) (sym (ap (λ s. s.room) c.self.view_is)) c.requires) in
    list_pushed c.self.inside.given (get nat_eq c.self.inside.places) (entry c.self.inside.entries) (slab_len c.self.inside.entries) c.self.invariant few c.args.thing (get nat_eq c.enter-place.new.places) (entry c.enter-place.new.entries) (slab_len c.enter-place.new.entries) c.enter-place.ensures.enters
    ∙ ap (λ s. s.slots ++ Some c.args.thing ∷ []) c.self.view_is

pub returns-clause-seats : goal.returns-clause-seats
returns-clause-seats g c =
    let sits = sits_down c.self.inside.entries.slots c.enter-place.new.entries.slots (get nat_eq c.self.inside.places) (get nat_eq c.enter-place.new.places) (slab_len c.self.inside.entries) (slab_len c.enter-place.new.entries) (c.self.inside.given + 1) c.args.thing c.enter-place.ensures.enters in
    subst (λ n. SitsDown c.args.self.now.seats (seats_of c.enter-place.new.entries.slots) n) (sym (length_up_to (thing_of (get nat_eq c.enter-place.new.places) (entry c.enter-place.new.entries)) (c.self.inside.given + 1))) (rw (← c.self.view_is) sits)
