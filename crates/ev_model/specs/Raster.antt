-- An image, as its size and its pixels.
use Rattle.std.specs.Prelude.{◌≡◌, ℕ, ◌+◌, ◌*◌, ◌≤◌, All, List, length, slice_range}
use Rattle.ev_argb.specs.Argb.{Argb, IsPremultiplied}

-- the pixels stand row by row from the top, and in a row from the left
pub record Raster : Type 0 where
  pub w : ℕ
  pub h : ℕ
  pub pixels : List Argb

-- each side is from 1 to 4096, and there is a pixel for each place
pub record IsRaster (image : Raster) : Type 0 where
  pub width_low : 1 ≤ image.w
  pub width_high : image.w ≤ 4096
  pub height_low : 1 ≤ image.h
  pub height_high : image.h ≤ 4096
  pub count : length image.pixels ≡ image.h * image.w

-- an image: a raster of premultiplied pixels
pub record IsImage (image : Raster) : Type 0 where
  pub raster : IsRaster image
  pub premultiplied : All IsPremultiplied image.pixels

-- the pixels of row y
abbrev pub row : Raster → ℕ → List Argb
row image y = slice_range image.pixels (y * image.w) (y * image.w + image.w)
