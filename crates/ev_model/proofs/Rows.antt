-- The rows of a picture of which each pixel is known.
use Rattle.std.proofs.Common.{◌≡◌, ℕ, suc, zero, ◌+◌, ◌<◌, List, ◌∷◌, ◌++◌, map, refl, ap, ap₂, ◌∙◌, arith}
use Rattle.std.specs.Prelude.{flat_map}
use Rattle.std.specs.List.{range_with_len}
use Rattle.ev_argb.specs.Grid.{Grid, pixel_at, row_of}
use Rattle.ev_model.specs.Capture.{Capture}
use Rattle.ev_model.specs.Paint.{IsRedrawn, paint, redrawn}

-- two functions that agree on a range
map_range : {A : Type 0} (f g : ℕ → A) (a n : ℕ) → ((i : ℕ) → i < a + n → f i ≡ g i) → map f (range_with_len a n) ≡ map g (range_with_len a n)
map_range f g a zero same = refl
map_range f g a (suc n) same = ap₂ ◌∷◌ (same a (omega arith)) (map_range f g (a + 1) n (λ i h. same i (omega arith)))

flat_map_range : {A : Type 0} (f g : ℕ → List A) (a n : ℕ) → ((i : ℕ) → i < a + n → f i ≡ g i) → flat_map f (range_with_len a n) ≡ flat_map g (range_with_len a n)
flat_map_range f g a zero same = refl
flat_map_range f g a (suc n) same = ap₂ ◌++◌ (same a (omega arith)) (flat_map_range f g (a + 1) n (λ i h. same i (omega arith)))

-- the rows of a picture that was drawn anew are those of a full redraw
pub redrawn_rows : (c : Capture) (grid : Grid) → IsRedrawn c grid → flat_map (row_of grid) (range_with_len 0 grid.h) ≡ redrawn c
redrawn_rows c grid is =
    ap (λ (h : ℕ). flat_map (row_of grid) (range_with_len 0 h)) is.height
    ∙ flat_map_range (row_of grid) (λ y. map (λ x. paint c x y) (range_with_len 0 c.w)) 0 c.h (λ y row.
    ap (λ (w : ℕ). map (λ x. pixel_at grid x y) (range_with_len 0 w)) is.width
    ∙ map_range (λ x. pixel_at grid x y) (λ x. paint c x y) 0 c.w (λ x column. is.pixels x y (omega arith) (omega arith)))
