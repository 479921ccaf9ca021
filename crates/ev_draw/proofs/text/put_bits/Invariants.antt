use Rattle.std.proofs.Common.{◌-◌, ◌≤◌, length}
use Rattle.ev_draw.specs.Making.{Paints, span, put_where}
use Rattle.ev_draw.proofs.text.put_bits.Given as goal

abbrev pub invariant-loop-from : goal.invariant-loop-from
invariant-loop-from l = (l.from ≤ length l.bits) × Paints (span l.x l.y l.from) (put_where l.bits l.op l.color l.x) l.from l.initial.plane l.plane

abbrev pub decreases-loop-from : goal.decreases-loop-from
decreases-loop-from l = length l.bits - l.from
