-- Marks of places.
use Rattle.std.specs.Prelude.{◌≡◌, ℕ, ◌≤◌, ◌<◌, ◌/◌, ◌*◌, Bool, true, false, List, length, get_or, Option, Some, None}

-- whether a place has a mark
abbrev pub is_marked : List Bool → ℕ → Bool
is_marked marks place = get_or marks place false

-- no place from here on and before another has a mark
abbrev pub AreBare : List Bool → ℕ → ℕ → Type 0
AreBare marks from to = (place : ℕ) → from ≤ place → place < to → is_marked marks place ≡ false

-- a place has the first mark from here on
pub record IsFirst (marks : List Bool) (from found : ℕ) : Type 0 where
  pub high : from ≤ found
  pub inside : found < length marks
  pub marked : is_marked marks found ≡ true
  pub before : AreBare marks from found

-- the first place with a mark from here on, or none
abbrev pub Finds : List Bool → ℕ → Option ℕ → Type 0
Finds marks from None = (place : ℕ) → from ≤ place → is_marked marks place ≡ false
Finds marks from (Some found) = IsFirst marks from found

-- each place lies in a group of 64, and a group with a mark is known as one
pub record Covers (marks groups : List Bool) : Type 0 where
  pub enough : length marks ≤ length groups * 64
  pub known : (place : ℕ) → is_marked marks place ≡ true → is_marked groups (place / 64) ≡ true
