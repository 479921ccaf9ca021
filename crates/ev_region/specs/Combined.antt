-- Regions made of two sets of pixels.
use Rattle.std.specs.Prelude.{◌≡◌, ℕ, ◌<◌, Bool, List, [], ℤ, pos}
use Rattle.ev_geom.specs.Area.{Area}
use Rattle.ev_geom.specs.Bands.{has_pixel, Band, is_pixel, IsBands, rects_of, IsBanded}

-- a region's bands, and their rectangles
pub record IsRegion (bands : List Band) (rects : List Area) : Type 0 where
  pub canonical : IsBands 1000000 0 [] bands
  pub listed : rects ≡ rects_of bands

-- the rectangles have the pixels that `keeps` chooses by those of the bands a and b
pub record IsMerged (keeps : Bool → Bool → Bool) (a b : List Band) (rects : List Area) : Type 0 where
  pub banded : IsBanded rects
  pub pixels : (x y : ℕ) → has_pixel rects (pos x) (pos y) ≡ keeps (is_pixel a x y) (is_pixel b x y)

-- the rectangles have the pixels with x and y from 0 to 999,999 that `keeps` chooses by those of the sets a and b
pub record Combines (keeps : Bool → Bool → Bool) (a b : ℤ → ℤ → Bool) (rects : List Area) : Type 0 where
  pub banded : IsBanded rects
  pub pixels : (x y : ℕ) → x < 1000000 → y < 1000000 → has_pixel rects (pos x) (pos y) ≡ keeps (a (pos x) (pos y)) (b (pos x) (pos y))
