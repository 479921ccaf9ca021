use Rattle.ev_areas.specs.Meeting.{AddsMeeting}
use Rattle.ev_areas.proofs.scan.push_each.Given as goal

abbrev pub invariant-loop-k : goal.invariant-loop-k
invariant-loop-k l = AddsMeeting l.areas l.bound l.from l.k l.initial.found.items l.found.items
