use Rattle.std.proofs.Common.{◌≡◌, ◌++◌, map, take, drop}
use Rattle.ev_argb.specs.Tile.{made}
use Rattle.ev_argb.proofs.rect.put_all.Given as goal

abbrev pub invariant-loop-i : goal.invariant-loop-i
invariant-loop-i l = l.to ≡ map (made l.way l.pixel) (take l.i l.fn.to) ++ drop l.i l.fn.to
