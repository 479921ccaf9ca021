-- How many pixels a set has.
use Rattle.std.specs.Prelude.{◌≡◌, ℕ, zero, suc, ◌+◌, ◌≤◌, Bool, false, if◌then◌else◌, ℤ, pos}

-- the sum of f over the numbers below n
unfoldable pub sum_below : ℕ → (ℕ → ℕ) → ℕ
sum_below zero f = 0
sum_below (suc n) f = sum_below n f + f n

-- how many pixels of a canvas of w by h the set has: row by row, 1 for each pixel of the set
unfoldable pub pixels_within : ℕ → ℕ → (ℤ → ℤ → Bool) → ℕ
pixels_within w h set = sum_below h (λ y. sum_below w (λ x. if set (pos x) (pos y) then 1 else 0))

-- the set has no pixel right of this canvas or below it
pub record LiesWithin (w h : ℕ) (set : ℤ → ℤ → Bool) : Type 0 where
  pub right : (x y : ℕ) → w ≤ x → set (pos x) (pos y) ≡ false
  pub below : (x y : ℕ) → h ≤ y → set (pos x) (pos y) ≡ false
