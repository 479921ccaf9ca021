use Rattle.std.proofs.Common.{◌≡◌, ◌++◌, map, take, drop}
use Rattle.ev_argb.specs.Argb.{tint}
use Rattle.ev_draw.proofs.span.tint_each.Given as goal

abbrev pub invariant-loop-i : goal.invariant-loop-i
invariant-loop-i l = l.row ≡ map (λ p. tint p l.color) (take l.i l.initial.row) ++ drop l.i l.initial.row
