use Rattle.std.proofs.Common.{◌-◌, ◌≤◌}
use Rattle.ev_cmds.specs.Masks.{AddsRuns}
use Rattle.ev_cmds.proofs.mask.push_runs.Given as goal

abbrev pub invariant-loop-run : goal.invariant-loop-run
invariant-loop-run l = (l.from ≤ 64) × AddsRuns l.bits l.top l.bottom l.from l.initial.into.items l.into.items

abbrev pub decreases-loop-run : goal.decreases-loop-run
decreases-loop-run l = 64 - l.from
