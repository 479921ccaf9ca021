-- What a tile sees of edges.
use Rattle.std.specs.Prelude.{◌≡◌, ℕ, ◌+◌, ◌<◌, ◌≤◌, Bool, false, List, Option, Some, None}
use Rattle.std.specs.List.{list_any}
use Rattle.ev_areas.specs.Edges.{has_pixel_at}
use Rattle.ev_areas.specs.declared.edges.Edges.{Edges}
use Rattle.ev_cmds.specs.declared.patch.Patch.{Patch}
use Rattle.ev_cmds.specs.Patches.{has_place, IsPatch}

-- a patch is what the tile at this place sees
pub record IsPatchOn (e : Edges) (x y : ℕ) (p : Patch) : Type 0 where
  pub patch : IsPatch p
  pub to_right : x + p.right ≤ e.right
  pub to_bottom : y + p.bottom ≤ e.bottom
  pub places : (i j : ℕ) → i < 64 → j < 64 → has_place p i j ≡ has_pixel_at e (x + i) (y + j)

-- what the tile at this place sees, if it sees a pixel
abbrev pub IsPartOn : Edges → ℕ → ℕ → Option Patch → Type 0
IsPartOn e x y None = (i j : ℕ) → i < 64 → j < 64 → has_pixel_at e (x + i) (y + j) ≡ false
IsPartOn e x y (Some p) = IsPatchOn e x y p

-- whether one of them has a pixel
abbrev pub any_has : List Edges → ℕ → ℕ → Bool
any_has es x y = list_any (λ e. has_pixel_at e x y) es
