-- Parts of replies, as they are written.
use Rattle.std.specs.Prelude.{◌≡◌, ℕ, List, [], ◌∷◌, ◌++◌, Option, codes, nat_lt, if◌then◌else◌}
use Rattle.ev_argb.specs.Argb.{Argb}
use Rattle.ev_port.specs.Told.{GrowsBy}
use Rattle.ev_model.specs.Text.{spaced, place_text}

-- the first line of a frame that was shown
unfoldable pub heading_text : ℕ → ℕ → ℕ → ℕ → List ℕ
heading_text n w h updates = codes "shown" ++ spaced n ++ spaced w ++ spaced h ++ spaced updates ++ 10 ∷ []

-- the pixel in column x, with a space before it in all columns but the first
abbrev pub column_text : ℕ → Option Argb → List ℕ
column_text x p = if nat_lt 0 x then 32 ∷ place_text p else place_text p

-- a text of which a front was written, while the rest is laid out
pub record IsLaid (old new : Option (List ℕ)) (draft text : List ℕ) : Type 0 where
  pub sent : List ℕ
  pub grows : GrowsBy old new sent
  pub split : text ≡ sent ++ draft
