use Rattle.std.proofs.Common.{◌-◌, ◌≤◌, length}
use Rattle.ev_track.specs.Marked.{AreBare}
use Rattle.ev_track.proofs.marks.Marks.next.Given as goal

abbrev pub invariant-loop-place : goal.invariant-loop-place
invariant-loop-place l = (l.from ≤ l.place) × AreBare l.self-inside.places.items l.from l.place

abbrev pub decreases-loop-place : goal.decreases-loop-place
decreases-loop-place l = length l.self-inside.places.items - l.place
