-- Rows of samples of an image object.
use Rattle.std.specs.Prelude.{ℕ, ◌<◌, List, map, Option, IfSome, option_and_then, unwrap_or}
use Rattle.std.specs.List.{range_with_len}
use Rattle.ev_argb.specs.Argb.{Argb, clear}
use Rattle.ev_model.specs.Sample.{sample}
use Rattle.ev_model.specs.declared.content.ImagePart.{ImagePart}
use Rattle.ev_model.specs.declared.content.Content.TheVariants.{Image}
use Rattle.ev_fill.specs.Parts as parts
use Rattle.ev_fill.specs.declared.axes.ShownRow.{ShownRow}

-- the samples at column i and the n - 1 columns after it, in row j of an image object of w by h
abbrev pub sample_row : ImagePart → ℕ → ℕ → ℕ → ℕ → ℕ → List (Option Argb)
sample_row part w h i j n = map (λ column. sample (Image part) w h column j) (range_with_len i n)

-- what is blended for a sample: for nothing, the pixel that changes nothing
abbrev pub blended : Option Argb → Argb
blended sample = unwrap_or sample clear

-- the same samples as they are blended
abbrev pub pixel_row : ImagePart → ℕ → ℕ → ℕ → ℕ → ℕ → List Argb
pixel_row part w h i j n = map (λ column. blended (sample (Image part) w h column j)) (range_with_len i n)

-- what row j of an image object of height h shows of its image, if there is something
abbrev pub shown_row : ImagePart → ℕ → ℕ → Option ShownRow
shown_row part h j = option_and_then (λ loaded. parts.shown_row loaded.value part h j) part.loaded

-- the image of an object has this row
abbrev pub HasRow : ImagePart → ShownRow → Type 0
HasRow part shown = IfSome part.loaded (λ loaded. shown.y < loaded.value.h)
