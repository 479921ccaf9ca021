use Rattle.std.proofs.Common.{◌-◌}
use Rattle.ev_argb.specs.Tile.{PutsRect, made}
use Rattle.ev_argb.proofs.rect.put_columns.Given as goal

abbrev pub invariant-loop-j : goal.invariant-loop-j
invariant-loop-j l = PutsRect l.across l.x l.y l.w (l.j - l.y) (made l.way l.pixel) l.fn.to l.to
