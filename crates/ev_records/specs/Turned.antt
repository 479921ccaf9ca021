-- What places have in common that show the same as at the start before, in another order.
use Rattle.std.specs.Prelude.{◌≡◌, ℕ, zero, suc, nat_lt, ℤ, Bool, false, ◌&&◌, ◌||◌, if◌then◌else◌, List, length, All, Option, Some, None}
use Rattle.std.specs.List.{list_any}
use Rattle.ev_geom.specs.Area.{Area, holds}
use Rattle.ev_geom.specs.Bands.{has_pixel, FitsRegion}
use Rattle.ev_model.specs.Look.{Look}
use Rattle.ev_records.specs.Showing.{Showing, showing}
use Rattle.ev_records.specs.Changes.{is_same}
use Rattle.ev_records.specs.Standing.{Standings, rank}

-- whether two places changed their order
abbrev pub is_turned : Standings → ℕ → ℕ → Bool
is_turned st a b = (nat_lt (rank st.stood a) (rank st.stood b) && nat_lt (rank st.stands b) (rank st.stands a))
    || (nat_lt (rank st.stood b) (rank st.stood a) && nat_lt (rank st.stands a) (rank st.stands b))

-- the area of a place that shows the same as at the start before
abbrev pub still_area : Option Look → Option Look → Option Area
still_area None m = None
still_area (Some l) None = None
still_area (Some l) (Some m) = if is_same l m then Some l.area else None

abbrev pub still : Showing → Option Area
still s = still_area s.was s.now

-- whether the pixel lies in an area, if there is one
abbrev pub held_in : Option Area → ℤ → ℤ → Bool
held_in None x y = false
held_in (Some a) x y = holds a x y

-- whether the pixel lies in the areas of two places that show the same and changed their order
abbrev pub in_pair : List Showing → Standings → ℤ → ℤ → ℕ → ℕ → Bool
in_pair all st x y a b = is_turned st a b && (held_in (still (showing all b)) x y && held_in (still (showing all a)) x y)

-- whether one of the numbers below this one passes
abbrev pub any_below : (ℕ → Bool) → ℕ → Bool
any_below p zero = false
any_below p (suc n) = any_below p n || p n

-- whether the pixel lies in the areas of two such places, of which one is among these
abbrev pub in_turned : List Showing → Standings → List ℕ → ℤ → ℤ → Bool
in_turned all st moved x y = list_any (λ a. any_below (in_pair all st x y a) (length all)) moved

-- the new areas have the pixels of the old ones and these, and a region has room for them
pub record Gathers (more : ℤ → ℤ → Bool) (old new : List Area) : Type 0 where
  pub pixels : (x y : ℤ) → has_pixel new x y ≡ (has_pixel old x y || more x y)
  pub fits : All FitsRegion old → All FitsRegion new
