-- What bytes say from left to right: a font, or their first fault.
use Rattle.std.specs.Prelude.{◌≡◌, ℕ, ◌+◌, ◌*◌, ◌^◌, Bool, not, ◌&&◌, List, [], ◌∷◌, length, take, drop, codes, Option, Some, None, Result, Ok, Err, IsOk, nat_eq, nat_lt, nat_le, slice_index, if◌then◌else◌}
use Rattle.std.specs.List.{starts_with, position, list_all}
use Rattle.std.specs.Int.{w32, from_le_bytes}
use Rattle.ev_model.specs.Glyphs.{Glyphs}
use Rattle.ev_text.specs.declared.fault.BadFont.{BadFont}
use Rattle.ev_text.specs.declared.fault.BadFont.TheVariants.{Magic, Height, Width, Short, Long, Bits, NoMemory}

-- whether the first four bytes, or all where there are fewer, begin this word
abbrev pub begins : List ℕ → List ℕ → Bool
begins word bytes = starts_with nat_eq word (take 4 bytes)

-- the height: the word is the format's, then all bytes before the rows are there, then the height is 1 to 32
unfoldable pub height_at : List ℕ → Result ℕ BadFont
height_at bytes =
    if not (begins (codes "EVF1") bytes) then Err Magic
    else if nat_lt (length bytes) 100 then Err (Short (length bytes))
    else if nat_le 1 (slice_index bytes 4) && nat_le (slice_index bytes 4) 32 then Ok (slice_index bytes 4)
    else Err Height

-- whether a glyph is too wide
abbrev pub is_wide : ℕ → Bool
is_wide width = nat_lt 32 width

-- the widths, if no glyph is too wide
abbrev pub checked_widths : List ℕ → Option ℕ → Result (List ℕ) BadFont
checked_widths widths None = Ok widths
checked_widths widths (Some glyph) = Err (Width glyph)

-- the widths, each 0 to 32
unfoldable pub widths_at : List ℕ → Result (List ℕ) BadFont
widths_at bytes = checked_widths (take 95 (drop 5 bytes)) (position is_wide (take 95 (drop 5 bytes)))

-- the rows of four bytes each, the lowest first
abbrev pub rows_of : List ℕ → List ℕ
rows_of (a ∷ b ∷ c ∷ d ∷ bytes) = from_le_bytes w32 (a ∷ b ∷ c ∷ d ∷ []) ∷ rows_of bytes
rows_of bytes = []

-- whether a row has no bit at or above the width
abbrev pub fits : ℕ → ℕ → Bool
fits width row = nat_lt row (2 ^ width)

-- the first glyph with a row that doesn't fit; the first of all has this number, and each has as many rows as the height says
abbrev pub bad_glyph : ℕ → ℕ → List ℕ → List ℕ → Option ℕ
bad_glyph glyph height [] rows = None
bad_glyph glyph height (width ∷ widths) rows = if list_all (fits width) (take height rows) then bad_glyph (glyph + 1) height widths (drop height rows) else Some glyph

-- the rows, if no glyph has a bit outside its width
abbrev pub checked_rows : List ℕ → Option ℕ → Result (List ℕ) BadFont
checked_rows rows None = Ok rows
checked_rows rows (Some glyph) = Err (Bits glyph)

-- the rows of 95 glyphs: all are there, then nothing follows, then no glyph has a bit outside its width
unfoldable pub rows_at : ℕ → List ℕ → List ℕ → Result (List ℕ) BadFont
rows_at height widths bytes =
    if nat_lt (length bytes) (100 + 380 * height) then Err (Short (length bytes))
    else if nat_lt (100 + 380 * height) (length bytes) then Err (Long (100 + 380 * height))
    else checked_rows (rows_of (drop 100 bytes)) (bad_glyph 0 height widths (rows_of (drop 100 bytes)))

-- one step, and then the next with what it gave, unless it failed
infixl 10 ◌>>=◌
abbrev pub ◌>>=◌ : {A B : Type 0} → Result A BadFont → (A → Result B BadFont) → Result B BadFont
(Ok x) >>= f = f x
(Err e) >>= f = Err e

-- the font, or the first fault
unfoldable pub font_at : List ℕ → Result Glyphs BadFont
font_at bytes = do
  height ← height_at bytes
  widths ← widths_at bytes
  rows ← rows_at height widths bytes
  Ok (record { height = height; widths = widths; rows = rows })

-- a fault of the bytes, and no want of memory
abbrev pub IsFault : BadFont → Type 0
IsFault NoMemory = ⊥
IsFault fault = Unit {0}

-- what may be answered where reading gives this: its fault, or want of memory where it has none
abbrev pub Fails : {Y : Type 0} → BadFont → Result Y BadFont → Type 0
Fails NoMemory read = IsOk read
Fails fault read = read ≡ Err fault

-- an answer, whose value is seen by `view`, is what reading gives, or want of memory where that has no fault
abbrev pub Gives : {X Y : Type 0} → (X → Y) → Result X BadFont → Result Y BadFont → Type 0
Gives view (Ok x) read = read ≡ Ok (view x)
Gives view (Err e) read = Fails e read
