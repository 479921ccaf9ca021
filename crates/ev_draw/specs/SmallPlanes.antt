-- Planes of tests.
use Rattle.std.specs.Prelude.{◌≡◌}
use Rattle.ev_argb.specs.Tile.{Tile}

-- a plane of 4 by 4
pub record IsSmallPlane (plane : Tile) : Type 0 where
  pub width : plane.w ≡ 4
  pub height : plane.h ≡ 4
