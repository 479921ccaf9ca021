use Rattle.std.proofs.Common.{◌≡◌, ℕ, pos, ◌&&◌, nat_lt, take}
use Rattle.ev_geom.specs.Bands.{has_pixel}
use Rattle.ev_cmds.specs.SeenEdges.{any_has}
use Rattle.ev_cmds.proofs.opening.edges_of.Given as goal

abbrev pub invariant-loop-rect : goal.invariant-loop-rect
invariant-loop-rect l = (x y : ℕ) → any_has l.found.items x y ≡ (has_pixel (take l.rect-index l.rect-items) (pos x) (pos y) && (nat_lt x l.w && nat_lt y l.h))
