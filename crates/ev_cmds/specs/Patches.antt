-- Rectangles of a tile, and sets of its places.
use Rattle.std.specs.Prelude.{ℕ, ◌+◌, ◌-◌, ◌*◌, ◌<◌, ◌≤◌, Bool, ◌&&◌, nat_le, nat_lt, if◌then◌else◌, List, [], ◌∷◌}
use Rattle.ev_cmds.specs.declared.patch.Patch.{Patch}

-- whether a place lies from `from` on and before `to`
abbrev pub lies : ℕ → ℕ → ℕ → Bool
lies from to at = nat_le from at && nat_lt at to

-- whether a patch holds column x of row y
abbrev pub has_place : Patch → ℕ → ℕ → Bool
has_place p x y = nat_le p.left x && nat_lt x p.right && (nat_le p.top y && nat_lt y p.bottom)

-- it has a place, and none outside of 64 by 64
pub record IsPatch (p : Patch) : Type 0 where
  pub wide : p.left < p.right
  pub right : p.right ≤ 64
  pub tall : p.top < p.bottom
  pub bottom : p.bottom ≤ 64

-- how many places it holds
abbrev pub size_of : Patch → ℕ
size_of p = (p.right - p.left) * (p.bottom - p.top)

-- 1 where it is so
abbrev pub one : Bool → ℕ
one b = if b then 1 else 0

-- how many of the patches hold a place
abbrev pub times : List Patch → ℕ → ℕ → ℕ
times [] x y = 0
times (p ∷ ps) x y = one (has_place p x y) + times ps x y

-- how many places patches hold, where none overlap
abbrev pub total : List Patch → ℕ
total [] = 0
total (p ∷ ps) = size_of p + total ps
