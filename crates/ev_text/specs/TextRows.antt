-- Rows of samples of a text.
use Rattle.std.specs.Prelude.{ℕ, ◌<◌, Bool, List, [], ◌∷◌, map, Option, Some, None, is_some, unwrap_or, if◌then◌else◌}
use Rattle.std.specs.List.{range_with_len}
use Rattle.ev_argb.specs.Argb.{Argb, clear}
use Rattle.ev_model.specs.Glyphs.{Glyphs, width_of}
use Rattle.ev_model.specs.Sample.{white, text_sample}

-- what a bit of a text shows
abbrev pub bit_sample : Bool → Option Argb
bit_sample bit = if bit then Some white else None

-- whether there are samples at column x and the n - 1 columns after it, in row y of a text
abbrev pub text_row : Glyphs → List ℕ → ℕ → ℕ → ℕ → List Bool
text_row font text x y n = map (λ column. is_some (text_sample font text column y)) (range_with_len x n)

-- what is drawn for a sample: for nothing, the pixel that changes nothing
abbrev pub drawn : Option Argb → Argb
drawn sample = unwrap_or sample clear

-- the same samples as they are drawn
abbrev pub text_pixels : Glyphs → List ℕ → ℕ → ℕ → ℕ → List Argb
text_pixels font text x y n = map (λ column. drawn (text_sample font text column y)) (range_with_len x n)

-- a column of the first glyph, if there is one
abbrev pub IsInFirst : Glyphs → List ℕ → ℕ → Type 0
IsInFirst font [] x = Unit {0}
IsInFirst font (c ∷ text) x = x < width_of font c
