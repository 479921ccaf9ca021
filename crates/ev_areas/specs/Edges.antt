-- Rectangles of a canvas by their edges.
use Rattle.std.specs.Prelude.{◌≡◌, ℕ, ◌<◌, ◌≤◌, Bool, ◌&&◌, nat_le, nat_lt, ℤ, pos, int_le, int_lt, min, max}
use Rattle.ev_geom.specs.Area.{Area, holds}
use Rattle.ev_areas.specs.declared.edges.Edges.{Edges}

-- whether the pixel in column x of row y lies between the edges
abbrev pub has_pixel_at : Edges → ℕ → ℕ → Bool
has_pixel_at e x y = nat_le e.left x && nat_lt x e.right && (nat_le e.top y && nat_lt y e.bottom)

-- the edges of what a rectangle has in common with a canvas of w by h
pub record AreEdgesOf (area : Area) (w h : ℕ) (e : Edges) : Type 0 where
  pub right : e.right ≤ w
  pub bottom : e.bottom ≤ h
  pub pixels : (x y : ℕ) → has_pixel_at e x y ≡ (holds area (pos x) (pos y) && (nat_lt x w && nat_lt y h))

-- edges between which both lie
abbrev pub join : Edges → Edges → Edges
join a b = record { left = min a.left b.left; right = max a.right b.right; top = min a.top b.top; bottom = max a.bottom b.bottom }

-- what two of them have in common
abbrev pub meet : Edges → Edges → Edges
meet a b = record { left = max a.left b.left; right = min a.right b.right; top = max a.top b.top; bottom = min a.bottom b.bottom }

-- the nearest place from 0 to a limit tells which places below the limit stand before it
pub record IsNearest (place : ℤ) (limit near : ℕ) : Type 0 where
  pub within : near ≤ limit
  pub at_or_after : (at : ℕ) → at < limit → nat_le near at ≡ int_le place (pos at)
  pub before : (at : ℕ) → at < limit → nat_lt at near ≡ int_lt (pos at) place
