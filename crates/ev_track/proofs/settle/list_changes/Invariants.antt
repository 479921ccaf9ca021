use Rattle.std.proofs.Common.{◌≡◌, ◌-◌, ◌≤◌, ◌<◌, ℕ, false, length}
use Rattle.ev_track.specs.Marked.{is_marked}
use Rattle.ev_track.specs.Settling.{is_listed, AreNow, AreInside}
use Rattle.ev_track.specs.Tracks.{state_in}
use Rattle.ev_track.proofs.settle.list_changes.Given as goal

abbrev pub invariant-loop-from : goal.invariant-loop-from
invariant-loop-from g l =
    (l.from ≤ length l.marks) × AreNow (state_in l.slots.slots l.slots.seats) l.changes.items × AreInside (length l.marks) l.changes.items
    × ((place : ℕ) → place < l.from → is_listed l.changes.items place ≡ false → is_marked l.marks place ≡ false)

abbrev pub decreases-loop-from : goal.decreases-loop-from
decreases-loop-from g l = length l.marks - l.from
