-- The format of bitmap fonts: which bytes stand for which font.
use Rattle.std.specs.Prelude.{◌≡◌, ℕ, List, [], ◌∷◌, ◌++◌, codes}
use Rattle.std.specs.List.{flat_map}
use Rattle.std.specs.Int.{w32, to_le_bytes}
use Rattle.ev_model.specs.Glyphs.{Glyphs, IsFont}

-- four characters, the height, the widths of the glyphs, and their rows of four bytes each with the lowest first
abbrev pub spelling : Glyphs → List ℕ
spelling font = codes "EVF1" ++ font.height ∷ [] ++ font.widths ++ flat_map (to_le_bytes w32) font.rows

-- the bytes stand for this font: they are its spelling
pub record Stands (bytes : List ℕ) (font : Glyphs) : Type 0 where
  pub valid : IsFont font
  pub spelled : bytes ≡ spelling font
