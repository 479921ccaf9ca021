use Rattle.std.proofs.Common.{◌-◌, ◌≤◌}
use Rattle.ev_argb.specs.Tile.{PutsRect, made}
use Rattle.ev_argb.proofs.rect.put_steps.Given as goal

abbrev pub invariant-loop-from : goal.invariant-loop-from
invariant-loop-from l = record {
  after : l.x ≤ l.from;
  within : l.from ≤ l.end;
  put : PutsRect l.across l.x l.y (l.from - l.x) l.h (made l.way l.pixel) l.fn.to l.to;
}

abbrev pub decreases-loop-from : goal.decreases-loop-from
decreases-loop-from l = l.end - l.from
