use Rattle.std.proofs.Common.{◌≡◌, ◌*◌, ◌/◌, ◌++◌, map, drop}
use Rattle.std.specs.Prelude.{slice_get}
use Rattle.std.specs.List.{range_with_len}
use Rattle.ev_fill.proofs.run.stretch_run.Given as goal

abbrev pub invariant-loop-k : goal.invariant-loop-k
invariant-loop-k g l = l.into ≡ map (λ u. g.T.Form.form (slice_get l.middle (u * l.source / l.part))) (range_with_len l.from l.k) ++ drop l.k l.fn.into
