-- Which records replace everything in their area.
use Rattle.std.specs.Prelude.{ℕ, pos, Bool, true, false, ◌&&◌, ◌||◌, ◌==◌, nat_lt, unsigned_abs, if◌then◌else◌, Option, Some, None, List}
use Rattle.std.specs.List.{list_any}
use Rattle.ev_argb.specs.Argb.{Argb, are_opaque}
use Rattle.ev_geom.specs.Area.{Area, nowhere, holds}
use Rattle.ev_model.specs.Axis.{middle_source, middle_part}
use Rattle.ev_model.specs.Raster.{Raster, IsImage}
use Rattle.ev_model.specs.Sample.{columns_of, rows_of}
use Rattle.ev_model.specs.Loaded.{Loaded}
use Rattle.ev_model.specs.Look.{Look}
use Rattle.ev_model.specs.declared.axis.Axis.{Axis}
use Rattle.ev_model.specs.declared.content.ImagePart.{ImagePart}
use Rattle.ev_model.specs.declared.content.Content.{Content}
use Rattle.ev_model.specs.declared.content.Content.TheVariants as content
use Rattle.ev_model.specs.declared.object.Op.{Op}
use Rattle.ev_model.specs.declared.object.Op.TheVariants.{Blend, Copy}

-- the fill has nothing between the borders
abbrev pub has_no_middle : Axis → Bool
has_no_middle axis = middle_part axis == 0

-- each place of the fill has a place in the image
abbrev pub is_full_along : Axis → Bool
is_full_along axis = has_no_middle axis || nat_lt 0 (middle_source axis)

-- the middle of both axes is shown, or one of them has none
abbrev pub shows_middle : Bool → Axis → Axis → Bool
shows_middle center columns rows = center || has_no_middle columns || has_no_middle rows

-- each place has a pixel of the image; with the centre off, only where one axis has nothing between its borders
abbrev pub is_full : ImagePart → Raster → ℕ → ℕ → Bool
is_full part image w h =
    let columns = columns_of part image w in
    let rows = rows_of part image h in
    is_full_along columns && is_full_along rows && shows_middle part.center columns rows

-- a copy hides what lies below, a blend only where all that is put is opaque
abbrev pub hides : Op → Bool → Bool
hides Copy opaque = true
hides Blend opaque = opaque

-- an image hides what lies below where it has a pixel at each place
abbrev pub image_hides : Op → Argb → ImagePart → ℕ → ℕ → Option (Loaded Raster) → Bool
image_hides op color part w h None = false
image_hides op color part w h (Some loaded) =
    is_full part loaded.value w h && hides op (are_opaque loaded.value.pixels && color.a == 255)

-- a content that is put in this colour; texts and objects that hold others hide nothing
abbrev pub content_hides : Op → Argb → Content → ℕ → ℕ → Bool
content_hides op color content.Rect w h = hides op (color.a == 255)
content_hides op color content.Smart w h = false
content_hides op color (content.Image part) w h = image_hides op color part w h part.loaded
content_hides op color (content.Text part) w h = false

-- whether a look replaces everything in its area
abbrev pub replaces : Look → Bool
replaces l = content_hides l.object.op l.color l.object.content (unsigned_abs l.object.rect.w) (unsigned_abs l.object.rect.h)

-- the area in which a look replaces everything
abbrev pub opaque_area : Look → Area
opaque_area l = if replaces l then l.area else nowhere

-- whether one of these looks replaces everything at a place
abbrev pub is_hidden : List Look → ℕ → ℕ → Bool
is_hidden looks x y = list_any (λ l. holds (opaque_area l) (pos x) (pos y)) looks

-- an image that is loaded has all its pixels, and they are premultiplied
abbrev pub IsSoundImage : Option (Loaded Raster) → Type 0
IsSoundImage None = Unit {0}
IsSoundImage (Some loaded) = IsImage loaded.value

abbrev pub IsSoundContent : Content → Type 0
IsSoundContent (content.Image part) = IsSoundImage part.loaded
IsSoundContent content = Unit {0}
