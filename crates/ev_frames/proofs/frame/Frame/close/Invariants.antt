use Rattle.ev_frames.proofs.Closing.{IsReturning}
use Rattle.ev_frames.proofs.frame.Frame.close.Given as goal

abbrev pub invariant-loop-tile : goal.invariant-loop-tile
invariant-loop-tile l = IsReturning l.fn.self l.loan l.done.items l.painted

abbrev pub decreases-loop-tile : goal.decreases-loop-tile
decreases-loop-tile l = goal.left-loop-tile l
