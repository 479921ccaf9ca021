-- What bytes say from left to right: an image, or their first fault.
use Rattle.std.specs.Prelude.{◌≡◌, ℕ, zero, suc, ◌+◌, ◌*◌, ◌≤◌, Bool, ◌&&◌, List, [], ◌∷◌, map, length, take, drop, codes, Option, Some, None, Result, Ok, Err, IsOk, nat_eq, nat_lt, nat_le, slice_index, slice_range, if◌then◌else◌}
use Rattle.std.specs.List.{starts_with}
use Rattle.std.specs.Int.{w32, from_le_bytes}
use Rattle.ev_argb.specs.Argb.{Argb}
use Rattle.ev_model.specs.Raster.{Raster}
use Rattle.ev_image.specs.Format.{even, sides_place, head_len, pixel_len}
use Rattle.ev_image.specs.declared.format.Format.{Format}
use Rattle.ev_image.specs.declared.format.Format.TheVariants.{Evi1, Evi2Argb, Evi2Alpha}
use Rattle.ev_image.specs.declared.fault.BadImage.{BadImage}
use Rattle.ev_image.specs.declared.fault.BadImage.TheVariants.{Magic, Kind, Size, Short, Long, Premul, NoMemory}

-- whether the first four bytes, or all where there are fewer, begin this word
abbrev pub begins : List ℕ → List ℕ → Bool
begins word bytes = starts_with nat_eq word (take 4 bytes)

-- the kind of pixels in EVI2
abbrev pub kind_of : ℕ → Result Format BadImage
kind_of zero = Ok Evi2Argb
kind_of (suc zero) = Ok Evi2Alpha
kind_of (suc (suc n)) = Err Kind

-- the format: the word is one of two, then all bytes before the pixels are there, then the kind is 0 or 1
unfoldable pub format_at : List ℕ → Result Format BadImage
format_at bytes =
    if begins (codes "EVI1") bytes then (if nat_lt (length bytes) (head_len Evi1) then Err (Short (length bytes)) else Ok Evi1)
    else if begins (codes "EVI2") bytes then (if nat_lt (length bytes) (head_len Evi2Argb) then Err (Short (length bytes)) else kind_of (slice_index bytes 4))
    else Err Magic

-- the number of four bytes from a place on, the lowest first
abbrev pub number_at : ℕ → List ℕ → ℕ
number_at at bytes = from_le_bytes w32 (slice_range bytes at (at + 4))

-- whether a side may be so long
abbrev pub is_side : ℕ → Bool
is_side n = nat_le 1 n && nat_le n 4096

-- both sides are from 1 to 4096
pub record AreSides (w h : ℕ) : Type 0 where
  pub width_low : 1 ≤ w
  pub width_high : w ≤ 4096
  pub height_low : 1 ≤ h
  pub height_high : h ≤ 4096

-- the width, which stands at this place, and the height behind it
unfoldable pub sides_at : ℕ → List ℕ → Result (ℕ × ℕ) BadImage
sides_at at bytes = if is_side (number_at at bytes) && is_side (number_at (at + 4) bytes) then Ok (number_at at bytes, number_at (at + 4) bytes) else Err (Size at)

-- whether no colour is above alpha
abbrev pub is_pixel : ℕ → ℕ → ℕ → ℕ → Bool
is_pixel a r g b = nat_le r a && nat_le g a && nat_le b a

-- the place of the first four bytes that are no pixel, where the first of all bytes stands at a place
abbrev pub bad_pixel : ℕ → List ℕ → Option ℕ
bad_pixel at (a ∷ r ∷ g ∷ b ∷ bytes) = if is_pixel a r g b then bad_pixel (at + 4) bytes else Some at
bad_pixel at bytes = None

-- the pixel of four channels, where no colour is above alpha
abbrev pub pixel_of : ℕ → ℕ → ℕ → ℕ → Option Argb
pixel_of a r g b = if is_pixel a r g b then Some (record { a = a; r = r; g = g; b = b }) else None

-- the pixels of four bytes each
abbrev pub pixels_of : List ℕ → List Argb
pixels_of (a ∷ r ∷ g ∷ b ∷ bytes) = record { a = a; r = r; g = g; b = b } ∷ pixels_of bytes
pixels_of bytes = []

-- the pixels of four bytes each, where none is bad
abbrev pub checked_pixels : List ℕ → Option ℕ → Result (List Argb) BadImage
checked_pixels bytes None = Ok (pixels_of bytes)
checked_pixels bytes (Some at) = Err (Premul at)

-- the pixels of these bytes, the first of which stands at a place
abbrev pub pixels_at : Format → ℕ → List ℕ → Result (List Argb) BadImage
pixels_at Evi1 at bytes = checked_pixels bytes (bad_pixel at bytes)
pixels_at Evi2Argb at bytes = checked_pixels bytes (bad_pixel at bytes)
pixels_at Evi2Alpha at bytes = Ok (map even bytes)

-- so many pixels: all are there, then nothing follows, then each is premultiplied
unfoldable pub body_at : Format → ℕ → List ℕ → Result (List Argb) BadImage
body_at format count bytes =
    if nat_lt (length bytes) (head_len format + pixel_len format * count) then Err (Short (length bytes))
    else if nat_lt (head_len format + pixel_len format * count) (length bytes) then Err (Long (head_len format + pixel_len format * count))
    else pixels_at format (head_len format) (drop (head_len format) bytes)

-- one step, and then the next with what it gave, unless it failed
infixl 10 ◌>>=◌
abbrev pub ◌>>=◌ : {A B : Type 0} → Result A BadImage → (A → Result B BadImage) → Result B BadImage
(Ok x) >>= f = f x
(Err e) >>= f = Err e

-- the image, or the first fault
unfoldable pub image_at : List ℕ → Result Raster BadImage
image_at bytes = do
  format ← format_at bytes
  sides ← sides_at (sides_place format) bytes
  pixels ← body_at format (sides.0 * sides.1) bytes
  Ok (record { w = sides.0; h = sides.1; pixels = pixels })

-- a fault of the bytes, and no want of memory
abbrev pub IsFault : BadImage → Type 0
IsFault NoMemory = ⊥
IsFault fault = Unit {0}

-- what may be answered where reading gives this: its fault, or want of memory where it has none
abbrev pub Fails : {Y : Type 0} → BadImage → Result Y BadImage → Type 0
Fails NoMemory read = IsOk read
Fails fault read = read ≡ Err fault

-- an answer, whose value is seen by `view`, is what reading gives, or want of memory where that has no fault
abbrev pub Gives : {X Y : Type 0} → (X → Y) → Result X BadImage → Result Y BadImage → Type 0
Gives view (Ok x) read = read ≡ Ok (view x)
Gives view (Err e) read = Fails e read
