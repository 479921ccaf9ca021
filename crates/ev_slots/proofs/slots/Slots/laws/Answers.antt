use Rattle.std.proofs.Common.{◌≤◌, nat_eq, length, subst}
use Rattle.std.specs.HashMap.{get}
use Rattle.slab.specs.Slab.{slab_len}
use Rattle.ev_slots.specs.Seats.{HavePlaces}
use Rattle.ev_slots.proofs.Seating.{have_places}
use Rattle.ev_slots.proofs.slots.Slots.laws.Goals as goal

pub returns : goal.returns
returns g c =
    let few = subst (λ n. length c.self.inside.entries.slots ≤ n) c.capacity.ensures.value c.capacity.ensures.slots in
    subst HavePlaces c.self.view_is (have_places c.self.inside.given (get nat_eq c.self.inside.places) c.self.inside.entries.slots (slab_len c.self.inside.entries) c.self.invariant c.self.inside.entries.capacity _ few)
