-- Bitmap fonts for the characters 32 to 126, and texts in them.
use Rattle.std.specs.Prelude.{◌≡◌, ℕ, ◌+◌, ◌-◌, ◌*◌, ◌^◌, ◌<◌, ◌≤◌, Bool, false, ◌&&◌, ◌==◌, nat_lt, if◌then◌else◌, List, [], ◌∷◌, length, take, drop, slice_index, sum_by}
use Rattle.std.specs.List.{All, AllByRecursion}
use Rattle.std.specs.Int.{bit_at}

-- the widths of the glyphs, and the rows of each glyph from its top; bit k of a row is column k
pub record Glyphs : Type 0 where
  pub height : ℕ
  pub widths : List ℕ
  pub rows : List ℕ

-- no row has a bit at or above its glyph's width: as many rows for each width as the height says
abbrev pub RowsFit : ℕ → List ℕ → List ℕ → Type 0
RowsFit height [] rows = Unit {0}
RowsFit height (width ∷ widths) rows = AllByRecursion (λ row. row < 2 ^ width) (take height rows) × RowsFit height widths (drop height rows)

-- there are 95 glyphs, each at most 32 by 32
pub record IsFont (font : Glyphs) : Type 0 where
  pub height_low : 1 ≤ font.height
  pub height_high : font.height ≤ 32
  pub count : length font.widths ≡ 95
  pub widths : AllByRecursion (λ width. width ≤ 32) font.widths
  pub rows_count : length font.rows ≡ 95 * font.height
  pub rows_fit : RowsFit font.height font.widths font.rows

-- the characters that have a glyph
pub record IsCharacter (c : ℕ) : Type 0 where
  pub low : 32 ≤ c
  pub high : c ≤ 126

-- at most 1,024 of them
pub record IsText (text : List ℕ) : Type 0 where
  pub len : length text ≤ 1024
  pub characters : All IsCharacter text

-- how wide the glyph of a character is
abbrev pub width_of : Glyphs → ℕ → ℕ
width_of font c = slice_index font.widths (c - 32)

-- row y of the glyph of a character
abbrev pub row_of : Glyphs → ℕ → ℕ → ℕ
row_of font c y = slice_index font.rows ((c - 32) * font.height + y)

-- the bit at column x and row y of a glyph, which has none outside its width and its height
abbrev pub glyph_bit : Glyphs → ℕ → ℕ → ℕ → Bool
glyph_bit font c x y = nat_lt x (width_of font c) && nat_lt y font.height && (bit_at (row_of font c y) x == 1)

-- the bit at column x and row y of a text, whose glyphs stand one after the other from the left
abbrev pub text_bit : Glyphs → List ℕ → ℕ → ℕ → Bool
text_bit font [] x y = false
text_bit font (c ∷ text) x y = if nat_lt x (width_of font c) then glyph_bit font c x y else text_bit font text (x - width_of font c) y

-- the width of a text
abbrev pub text_width : Glyphs → List ℕ → ℕ
text_width font text = sum_by (width_of font) text
