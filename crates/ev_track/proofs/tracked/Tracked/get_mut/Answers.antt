use Rattle.std.proofs.Common.{refl}
use Rattle.ev_track.proofs.Tracking.{written, only_marked}
use Rattle.ev_track.proofs.tracked.Tracked.get_mut.Goals as goal

pub mark-requires : goal.mark-requires
mark-requires g c = c.self.invariant.seated c.in_ok-place.place c.args.id ((c.in_ok-place.ensures c.in_ok-place.place).0 refl)

pub invariant_of-self-lent : goal.invariant_of-self-lent
invariant_of-self-lent g c =
    let sits = (c.in_ok-place.ensures c.in_ok-place.place).0 refl in
    λ lent. (
      λ w. written c.self.inside.slots c.self.inside.was.items c.self.inside.marks c.self.invariant c.mark.new.self c.in_ok-place.place c.mark.ensures.marks c.mark.ensures.len c.laws.ensures c.args.id sits _,
      only_marked c.self.inside.slots c.self.inside.was.items c.self.inside.marks c.self.invariant c.mark.new.self c.in_ok-place.place c.mark.ensures.marks c.mark.ensures.len,
    )
