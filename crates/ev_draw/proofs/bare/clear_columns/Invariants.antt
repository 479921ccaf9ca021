use Rattle.std.proofs.Common.{◌≤◌, ◌-◌}
use Rattle.ev_draw.specs.Making.{Paints, span, cleared_in, row_count}
use Rattle.ev_draw.proofs.bare.clear_columns.Given as goal

abbrev pub invariant-loop-run : goal.invariant-loop-run
invariant-loop-run l = (l.from ≤ 64) × Paints (span 0 l.y l.from) (cleared_in l.bits) (row_count l.bits l.from) l.initial.plane l.plane

abbrev pub decreases-loop-run : goal.decreases-loop-run
decreases-loop-run l = 64 - l.from
