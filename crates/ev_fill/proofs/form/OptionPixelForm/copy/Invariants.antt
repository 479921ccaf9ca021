use Rattle.std.proofs.Common.{◌≡◌, ◌++◌, Some, map, drop, take}
use Rattle.ev_fill.proofs.form.OptionPixelForm.copy.Given as goal

abbrev pub invariant-loop-k : goal.invariant-loop-k
invariant-loop-k l = l.into ≡ map (λ pixel. Some pixel) (take l.k l.from) ++ drop l.k l.fn.into
