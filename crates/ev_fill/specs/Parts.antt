-- A row of an image, which fills a row of an object part by part.
use Rattle.std.specs.Prelude.{ℕ, ◌+◌, ◌-◌, ◌<◌, ◌≤◌, Bool, not, ◌&&◌, List, Option, None, option_map, option_and_then, slice_get, if◌then◌else◌}
use Rattle.ev_argb.specs.Argb.{Argb}
use Rattle.ev_model.specs.Axis.{phase, low_part, high_part, is_middle, source_at}
use Rattle.ev_model.specs.Raster.{Raster}
use Rattle.ev_model.specs.Sample.{rows_of}
use Rattle.ev_model.specs.declared.axis.Axis.{Axis}
use Rattle.ev_model.specs.declared.content.ImagePart.{ImagePart}
use Rattle.ev_fill.specs.declared.axes.ShownRow.{ShownRow}

-- the row of an image that row j of an object of height h shows, if there is one, and whether it is without its middle
abbrev pub shown_row : Raster → ImagePart → ℕ → ℕ → Option ShownRow
shown_row image part h j =
    let rows = rows_of part image h in
    option_map (λ y. record { y = y; hidden = not part.center && is_middle rows (phase rows j) }) (source_at rows (phase rows j))

-- the pixel of this row of the image at place u of the fill: with the middle hidden, nothing there
abbrev pub place_sample : List Argb → Axis → Bool → ℕ → Option Argb
place_sample row columns hidden u =
    if hidden && is_middle columns u then None
    else option_and_then (λ x. slice_get row x) (source_at columns u)

-- n places from place u on lie in one part of the fill: in one border, or between the borders
pub record StaysInPart (axis : Axis) (u n : ℕ) : Type 0 where
  pub low : u < low_part axis → u + n ≤ low_part axis
  pub middle : low_part axis ≤ u → u < axis.len - high_part axis → u + n ≤ axis.len - high_part axis
  pub high : u + n ≤ axis.len
