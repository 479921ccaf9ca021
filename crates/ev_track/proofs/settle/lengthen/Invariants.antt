use Rattle.std.proofs.Common.{◌≡◌, ◌-◌, ◌≤◌, ℕ, None, get_or, length, vec_capacity}
use Rattle.ev_track.proofs.settle.lengthen.Given as goal

abbrev pub invariant-loop-was : goal.invariant-loop-was
invariant-loop-was g l = (l.len ≤ vec_capacity l.was) × ((place : ℕ) → get_or l.was.items place None ≡ get_or l.fn.was.items place None)

abbrev pub decreases-loop-was : goal.decreases-loop-was
decreases-loop-was g l = l.len - length l.was.items
