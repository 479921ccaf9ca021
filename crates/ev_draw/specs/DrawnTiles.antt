-- Tiles to be drawn.
use Rattle.std.specs.Prelude.{◌≡◌, ℕ, ◌/◌, ◌%◌, ◌<◌, ◌^◌, length, get_or}
use Rattle.ev_argb.specs.Grid.{side_of}
use Rattle.ev_argb.specs.Tile.{Tile}
use Rattle.ev_geom.specs.Tiles.{tiles_along}
use Rattle.ev_cmds.specs.Cuts.{Cut}
use Rattle.ev_cmds.specs.declared.tile.TileCommands.{TileCommands}

-- the k-th of the tiles that a frame draws, on this plane
pub record Job : Type 0 where
  pub cut : Cut
  pub k : ℕ
  pub plane : Tile

-- what is painted on the tile; the default stands for no tile
abbrev pub tile_of : Job → TileCommands → TileCommands
tile_of job d = get_or job.cut.jobs job.k d

-- the plane has the size of a tile, and its count has room for more than a frame paints there
pub record Takes (cut : Cut) (tile : TileCommands) (plane : Tile) : Type 0 where
  pub width : plane.w ≡ side_of cut.w (tile.tile % tiles_along cut.w)
  pub height : plane.h ≡ side_of cut.h (tile.tile / tiles_along cut.w)
  pub room : plane.painted < 2 ^ 63

-- there is such a tile, and the plane takes it
pub record IsJob (job : Job) : Type 0 where
  pub number : job.k < length job.cut.jobs
  pub takes : (d : TileCommands) → Takes job.cut (tile_of job d) job.plane
