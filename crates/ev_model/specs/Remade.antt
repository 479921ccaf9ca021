-- Pictures that are made anew place by place, each pixel of the old one.
use Rattle.std.specs.Prelude.{◌≡◌, ◌≢◌, ℕ, ◌<◌, ◌≤◌}
use Rattle.ev_argb.specs.Argb.{Argb, clear}
use Rattle.ev_argb.specs.Grid.{Grid, IsWhole, pixel_at}

-- whatever was there, it is clear
abbrev pub cleared : ℕ → ℕ → Argb → Argb
cleared x y value = clear

-- a whole picture of the same size
pub record IsSameSize (old new : Grid) : Type 0 where
  pub width : new.w ≡ old.w
  pub height : new.h ≡ old.h
  pub whole : IsWhole new

-- each pixel is made anew
pub record Remakes (make : ℕ → ℕ → Argb → Argb) (old new : Grid) : Type 0 where
  pub size : IsSameSize old new
  pub pixels : (x y : ℕ) → x < old.w → y < old.h → pixel_at new x y ≡ make x y (pixel_at old x y)

-- the rows above row n are made anew, and those from there on are as they were
pub record RemakesRowsBelow (make : ℕ → ℕ → Argb → Argb) (old new : Grid) (n : ℕ) : Type 0 where
  pub size : IsSameSize old new
  pub done : (x y : ℕ) → x < old.w → y < old.h → y < n → pixel_at new x y ≡ make x y (pixel_at old x y)
  pub rest : (x y : ℕ) → x < old.w → y < old.h → n ≤ y → pixel_at new x y ≡ pixel_at old x y

-- row r is made anew, and all others are as they were
pub record RemakesRow (make : ℕ → ℕ → Argb → Argb) (old new : Grid) (r : ℕ) : Type 0 where
  pub size : IsSameSize old new
  pub row : (x : ℕ) → x < old.w → pixel_at new x r ≡ make x r (pixel_at old x r)
  pub others : (x y : ℕ) → x < old.w → y < old.h → y ≢ r → pixel_at new x y ≡ pixel_at old x y

-- the columns before column n of row r are made anew, and all else is as it was
pub record RemakesColumnsBelow (make : ℕ → ℕ → Argb → Argb) (old new : Grid) (r n : ℕ) : Type 0 where
  pub size : IsSameSize old new
  pub done : (x : ℕ) → x < old.w → x < n → pixel_at new x r ≡ make x r (pixel_at old x r)
  pub rest : (x : ℕ) → x < old.w → n ≤ x → pixel_at new x r ≡ pixel_at old x r
  pub others : (x y : ℕ) → x < old.w → y < old.h → y ≢ r → pixel_at new x y ≡ pixel_at old x y
