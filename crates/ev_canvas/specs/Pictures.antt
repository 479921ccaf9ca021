-- Pictures of frames.
use Rattle.std.specs.Prelude.{◌≡◌, ℕ, ◌<◌, pos, false}
use Rattle.ev_argb.specs.Grid.{Grid, IsWhole, pixel_at}
use Rattle.ev_geom.specs.Bands.{has_pixel}
use Rattle.ev_model.specs.Paint.{paint}
use Rattle.ev_canvas.specs.Starts.{Entry}

-- A picture of a start's frame: whole, of the canvas's size, and each pixel that isn't hidden is what a full redraw paints. What is
-- hidden may have any pixel.
pub record IsPicture (entry : Entry) (picture : Grid) : Type 0 where
  pub width : picture.w ≡ entry.capture.w
  pub height : picture.h ≡ entry.capture.h
  pub whole : IsWhole picture
  pub pixels : (x y : ℕ) → x < entry.capture.w → y < entry.capture.h → has_pixel entry.hidden (pos x) (pos y) ≡ false → pixel_at picture x y ≡ paint entry.capture x y
