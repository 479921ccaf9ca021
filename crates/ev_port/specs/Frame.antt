-- Frames as a screen shows them.
use Rattle.std.specs.Prelude.{ℕ, List}
use Rattle.std.specs.List.{flat_map, range_with_len}
use Rattle.ev_argb.specs.Argb.{Argb}
use Rattle.ev_argb.specs.Grid.{Grid, row_of}
use Rattle.ev_geom.specs.Area.{Area}

-- its number, its size, its updates, and its pixels row by row from the top
pub record Frame : Type 0 where
  pub number : ℕ
  pub w : ℕ
  pub h : ℕ
  pub updates : List Area
  pub pixels : List Argb

-- the pixels of a picture, row by row from the top
abbrev pub pixels_of : Grid → List Argb
pixels_of grid = flat_map (row_of grid) (range_with_len 0 grid.h)

-- a picture that is shown as a frame
abbrev pub frame_of : ℕ → List Area → Grid → Frame
frame_of n updates grid = record { number = n; w = grid.w; h = grid.h; updates = updates; pixels = pixels_of grid }
