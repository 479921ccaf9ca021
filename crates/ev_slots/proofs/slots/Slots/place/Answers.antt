use Rattle.std.proofs.Common.{nat_eq}
use Rattle.std.specs.HashMap.{get}
use Rattle.slab.specs.Slab.{slab_len}
use Rattle.ev_slots.proofs.Seating.{leads_as}
use Rattle.ev_slots.proofs.slots.Slots.place.Goals as goal

pub returns : goal.returns
returns g c place =
    let both = leads_as c.self.inside.given (get nat_eq c.self.inside.places) c.self.inside.entries.slots (slab_len c.self.inside.entries) c.self.invariant place c.args.id in
    rw (← c.self.view_is, c.place_of.ensures) both
