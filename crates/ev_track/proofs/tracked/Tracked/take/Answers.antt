use Rattle.std.proofs.Common.{refl}
use Rattle.ev_track.proofs.Tracking.{taken_where_there}
use Rattle.ev_track.proofs.tracked.Tracked.take.Goals as goal

pub mark-requires : goal.mark-requires
mark-requires g c = c.self.invariant.seated c.in_ok-place.place c.args.id ((c.in_ok-place.ensures c.in_ok-place.place).0 refl)

pub invariant_of-self : goal.invariant_of-self
invariant_of-self g c =
    let sits = (c.in_ok-place.ensures c.in_ok-place.place).0 refl in
    taken_where_there c.self.inside.slots c.self.inside.was.items c.self.inside.marks c.self.invariant c.mark.new.self c.in_ok-place.place c.mark.ensures.marks c.mark.ensures.len c.laws.ensures c.args.id sits c.take.result c.take.new.self.slots c.take.new.self.seats c.take.ensures.value c.take.ensures.some c.take.ensures.left
