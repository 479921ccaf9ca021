use Rattle.std.proofs.Common.{ℕ, Option, length}
use Rattle.ev_state.specs.Held.{Held}
use Rattle.ev_track.specs.Settling.{AreNow, AreInside, HasElse}
use Rattle.ev_track.proofs.settle.put_all.Given as goal

abbrev pub invariant-loop-change : goal.invariant-loop-change
invariant-loop-change g l =
    AreInside (length l.was.items) l.changes.items
    × ((now : ℕ → Option (Held g.row.T.Denot)) → AreNow now l.fn.changes.items → HasElse now l.fn.changes.items l.fn.was.items
    → AreNow now l.changes.items × HasElse now l.changes.items l.was.items)

abbrev pub decreases-loop-change : goal.decreases-loop-change
decreases-loop-change g l = length l.changes.items
