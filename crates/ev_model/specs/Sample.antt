-- What an object shows at one of its places.
use Rattle.std.specs.Prelude.{ℕ, ◌+◌, ◌*◌, pos, Bool, not, ◌&&◌, nat_lt, if◌then◌else◌, List, Option, Some, None, option_and_then, slice_get}
use Rattle.ev_argb.specs.Argb.{Argb}
use Rattle.ev_model.specs.Raster.{Raster}
use Rattle.ev_model.specs.Glyphs.{Glyphs, text_bit}
use Rattle.ev_model.specs.Axis.{phase, is_middle, source_at}
use Rattle.ev_model.specs.declared.axis.Axis.{Axis}
use Rattle.ev_model.specs.declared.content.Border.{Border}
use Rattle.ev_model.specs.declared.content.Fill.{Fill}
use Rattle.ev_model.specs.declared.content.Fill.TheVariants.{Filled, Area}
use Rattle.ev_model.specs.declared.content.ImagePart.{ImagePart}
use Rattle.ev_model.specs.declared.content.Content.{Content}
use Rattle.ev_model.specs.declared.content.Content.TheVariants as content

-- what a rectangle and a set bit of a text show
abbrev pub white : Argb
white = record { a = 255; r = 255; g = 255; b = 255 }

-- the columns of an image in an object of this width: it fills all of it, or repeats from a place on
abbrev pub filled_columns : Fill → Border → ℕ → ℕ → Axis
filled_columns Filled border source w = record { start = pos 0; len = w; source = source; low = border.l; high = border.r }
filled_columns (Area x y fw fh) border source w = record { start = x; len = fw; source = source; low = border.l; high = border.r }

abbrev pub columns_of : ImagePart → Raster → ℕ → Axis
columns_of part image w = filled_columns part.fill part.border image.w w

-- its rows in an object of this height
abbrev pub filled_rows : Fill → Border → ℕ → ℕ → Axis
filled_rows Filled border source h = record { start = pos 0; len = h; source = source; low = border.t; high = border.b }
filled_rows (Area x y fw fh) border source h = record { start = y; len = fh; source = source; low = border.t; high = border.b }

abbrev pub rows_of : ImagePart → Raster → ℕ → Axis
rows_of part image h = filled_rows part.fill part.border image.h h

-- the pixel at a column and a row of an image, if there are both
abbrev pub raster_at : Raster → Option ℕ → Option ℕ → Option Argb
raster_at image (Some x) (Some y) = slice_get image.pixels (y * image.w + x)
raster_at image (Some x) None = None
raster_at image None y = None

-- the pixel of an image at column i and row j of an object: with the centre off, nothing between the borders of both axes
abbrev pub axes_sample : Raster → Axis → Axis → Bool → ℕ → ℕ → Option Argb
axes_sample image columns rows center i j =
    if not center && is_middle columns (phase columns i) && is_middle rows (phase rows j) then None
    else raster_at image (source_at columns (phase columns i)) (source_at rows (phase rows j))

-- the same of an object of w by h; an image that fills an object without places shows nothing
abbrev pub image_sample : Raster → ImagePart → ℕ → ℕ → ℕ → ℕ → Option Argb
image_sample image part w h i j =
    let columns = columns_of part image w in
    let rows = rows_of part image h in
    if nat_lt 0 columns.len && nat_lt 0 rows.len then axes_sample image columns rows part.center i j else None

-- a text shows white where a bit of its font is set
abbrev pub text_sample : Glyphs → List ℕ → ℕ → ℕ → Option Argb
text_sample font text i j = if text_bit font text i j then Some white else None

-- the pixel at column i and row j of an object of w by h, if there is one; before a load, images and texts show nothing
abbrev pub sample : Content → ℕ → ℕ → ℕ → ℕ → Option Argb
sample content.Rect w h i j = Some white
sample content.Smart w h i j = None
sample (content.Image part) w h i j = option_and_then (λ loaded. image_sample loaded.value part w h i j) part.loaded
sample (content.Text part) w h i j = option_and_then (λ loaded. text_sample loaded.value part.text i j) part.loaded
