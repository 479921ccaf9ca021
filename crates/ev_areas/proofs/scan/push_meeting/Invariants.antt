use Rattle.std.proofs.Common.{◌-◌, ◌≤◌, length}
use Rattle.ev_areas.specs.Meeting.{AddsMeeting}
use Rattle.ev_areas.proofs.scan.push_meeting.Given as goal

abbrev pub invariant-loop-from : goal.invariant-loop-from
invariant-loop-from l = (l.from ≤ length l.areas) × AddsMeeting l.areas l.bound 0 l.from l.initial.found.items l.found.items

abbrev pub decreases-loop-from : goal.decreases-loop-from
decreases-loop-from l = length l.areas - l.from
