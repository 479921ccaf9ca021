use Rattle.std.proofs.Common.{◌≡◌, ◌<◌, length, Some, refl, rules, ap, ◌∙◌}
use Rattle.ev_slots.specs.Slots.{seat}
use Rattle.ev_track.proofs.Tracking.{pushed, sits_at}
use Rattle.ev_track.proofs.tracked.Tracked.push.Goals as goal

pub invariant_of-self : goal.invariant_of-self
invariant_of-self g c =
    let inside : c.in-Some.place < length c.self.inside.marks = search rules in
    let id = length c.push.new.self.slots in
    let sits : seat c.push.new.self.seats c.in-Some.place ≡ Some id = (c.in-Some.ensures c.in-Some.place).0 refl ∙ ap Some c.given.ensures.value in
    pushed c.self.inside.slots c.self.inside.was.items c.self.inside.marks c.self.invariant c.mark.new.self c.in-Some.place c.mark.ensures.marks c.mark.ensures.len c.laws.ensures inside
    _ c.push.new.self.slots c.push.new.self.seats c.push.ensures.slots id (sits_at c.push.new.self c.self.inside.slots.seats id c.in-Some.place c.laws-2.ensures c.push.ensures.seats sits)
