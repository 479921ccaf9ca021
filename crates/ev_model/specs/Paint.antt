-- What a captured scene looks like, pixel by pixel.
use Rattle.std.specs.Prelude.{◌≡◌, ℕ, ◌<◌, pos, ◌-ℤ◌, unsigned_abs, if◌then◌else◌, List, fold, flat_map, map, Option, Some, None}
use Rattle.std.specs.List.{range_with_len}
use Rattle.ev_argb.specs.Argb.{Argb, tint, over, clear}
use Rattle.ev_argb.specs.Grid.{Grid, IsWhole, pixel_at}
use Rattle.ev_geom.specs.Area.{holds}
use Rattle.ev_model.specs.Sample.{sample}
use Rattle.ev_model.specs.Look.{Look}
use Rattle.ev_model.specs.Capture.{Capture}
use Rattle.ev_model.specs.declared.object.Op.{Op}
use Rattle.ev_model.specs.declared.object.Op.TheVariants.{Blend, Copy}
use Rattle.ev_model.specs.declared.object.Object.{Object}

-- copy puts a pixel in place of the value, blend paints it over
abbrev pub put : Op → Argb → Argb → Argb
put Copy q value = q
put Blend q value = over q value

-- a sample, tinted and put; without one the value stays
abbrev pub put_sample : Op → Argb → Option Argb → Argb → Argb
put_sample op color None value = value
put_sample op color (Some q) value = put op (tint q color) value

-- the sample of an object at a place of the canvas that lies in it
abbrev pub sample_at : Object → ℕ → ℕ → Option Argb
sample_at o x y = sample o.content (unsigned_abs o.rect.w) (unsigned_abs o.rect.h) (unsigned_abs (pos x -ℤ o.rect.x)) (unsigned_abs (pos y -ℤ o.rect.y))

-- a value at a place, once a look was painted there
abbrev pub painted : Look → ℕ → ℕ → Argb → Argb
painted l x y value = if holds l.area (pos x) (pos y) then put_sample l.object.op l.color (sample_at l.object x y) value else value

-- the pixel at a place of a full redraw: clear, once all looks were painted there, the lowest first
abbrev pub paint : Capture → ℕ → ℕ → Argb
paint c x y = fold (λ value l. painted l x y value) clear c.looks

-- a whole picture of the capture's size, of which each pixel is painted
pub record IsRedrawn (c : Capture) (grid : Grid) : Type 0 where
  pub width : grid.w ≡ c.w
  pub height : grid.h ≡ c.h
  pub whole : IsWhole grid
  pub pixels : (x y : ℕ) → x < c.w → y < c.h → pixel_at grid x y ≡ paint c x y

-- the pixels of a full redraw, row by row from the top
abbrev pub redrawn : Capture → List Argb
redrawn c = flat_map (λ y. map (λ x. paint c x y) (range_with_len 0 c.w)) (range_with_len 0 c.h)
