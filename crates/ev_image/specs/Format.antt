-- The formats of stored images: which bytes stand for which image.
use Rattle.std.specs.Prelude.{◌≡◌, ℕ, ◌+◌, Bool, ◌==◌, ◌&&◌, List, [], ◌∷◌, ◌++◌, codes, IsTrue, if◌then◌else◌}
use Rattle.std.specs.List.{flat_map, list_all}
use Rattle.std.specs.Int.{w32, to_le_bytes}
use Rattle.ev_argb.specs.Argb.{Argb}
use Rattle.ev_model.specs.Raster.{Raster, IsImage}
use Rattle.ev_image.specs.declared.format.Format.{Format}
use Rattle.ev_image.specs.declared.format.Format.TheVariants.{Evi1, Evi2Argb, Evi2Alpha}

-- the bytes of a pixel's four channels, alpha first
abbrev pub channels : Argb → List ℕ
channels p = p.a ∷ p.r ∷ p.g ∷ p.b ∷ []

-- the pixel whose four channels are one number
abbrev pub even : ℕ → Argb
even n = record { a = n; r = n; g = n; b = n }

-- whether the four channels are equal
abbrev pub is_even : Argb → Bool
is_even p = (p.r == p.a) && (p.g == p.a) && (p.b == p.a)

-- whether each pixel has four equal channels
abbrev pub are_even : List Argb → Bool
are_even pixels = list_all is_even pixels

-- the first bytes: four characters, and in EVI2 the kind
abbrev pub magic : Format → List ℕ
magic Evi1 = codes "EVI1"
magic Evi2Argb = codes "EVI2" ++ 0 ∷ []
magic Evi2Alpha = codes "EVI2" ++ 1 ∷ []

-- where the width stands, and the height behind it
abbrev pub sides_place : Format → ℕ
sides_place Evi1 = 4
sides_place Evi2Argb = 5
sides_place Evi2Alpha = 5

-- how many bytes stand before the pixels
abbrev pub head_len : Format → ℕ
head_len format = sides_place format + 8

-- how many bytes stand for one pixel
abbrev pub pixel_len : Format → ℕ
pixel_len Evi1 = 4
pixel_len Evi2Argb = 4
pixel_len Evi2Alpha = 1

-- the bytes of one pixel
abbrev pub pixel : Format → Argb → List ℕ
pixel Evi1 p = channels p
pixel Evi2Argb p = channels p
pixel Evi2Alpha p = p.a ∷ []

-- an image in a format: the first bytes, width and height of four bytes each with the lowest first, and the pixels
abbrev pub spelling : Format → Raster → List ℕ
spelling format image = magic format ++ to_le_bytes w32 image.w ++ to_le_bytes w32 image.h ++ flat_map (pixel format) image.pixels

-- the format can spell this image: one byte a pixel is only for four equal channels
abbrev pub CanSpell : Format → Raster → Type 0
CanSpell Evi1 image = Unit {0}
CanSpell Evi2Argb image = Unit {0}
CanSpell Evi2Alpha image = IsTrue (are_even image.pixels)

-- the bytes stand for this image: they are its spelling in one of the formats
pub record Stands (bytes : List ℕ) (image : Raster) : Type 0 where
  pub valid : IsImage image
  pub format : Format
  pub can : CanSpell format image
  pub spelled : bytes ≡ spelling format image

-- the format of EVI2 in which an image is written: one byte a pixel wherever that can be
abbrev pub evi2 : Raster → Format
evi2 image = if are_even image.pixels then Evi2Alpha else Evi2Argb
