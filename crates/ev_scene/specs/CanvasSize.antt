-- How large a canvas is.
use Rattle.std.specs.Prelude.{ℕ, ◌≤◌}

-- a canvas has 1 to 4096 columns and rows
pub record IsCanvas (w h : ℕ) : Type 0 where
  pub w_low : 1 ≤ w
  pub w_high : w ≤ 4096
  pub h_low : 1 ≤ h
  pub h_high : h ≤ 4096
