-- Where looks stand in another list.
use Rattle.std.specs.Prelude.{◌≡◌, ◌≢◌, ℕ, ◌<◌, ◌≤◌, ℤ, Bool, false, ◌&&◌, ◌||◌, ◌==◌, nat_eq, nat_lt, map, length, get_or, AllPairs, List, [], ◌∷◌, Option, Some, None, ⊤, option_map}
use Rattle.std.specs.HashMap.{HashMap, get}
use Rattle.std.specs.List.{list_any, position_from}
use Rattle.ev_geom.specs.Area.{Area, holds}
use Rattle.ev_geom.specs.Bands.{has_pixel, IsBanded}
use Rattle.ev_model.specs.Look.{Look}
use Rattle.ev_damage.specs.Same.{same_look}
use Rattle.ev_damage.specs.declared.turned.Placed.{Placed}

-- the ids of looks
abbrev pub look_ids : List Look → List ℕ
look_ids looks = map (λ l. l.id) looks

-- no two looks are of one object
pub record HaveOwnIds (looks : List Look) : Type 0 where
  pub differ : AllPairs (λ i j. i ≢ j) (look_ids looks)

-- where the object of an id stands
abbrev pub place_of_id : List Look → ℕ → Option ℕ
place_of_id looks id = position_from (λ l. l.id == id) 0 looks

-- the map has the place of each id
pub record IsIndex {S : Type 0} (index : HashMap ℕ ℕ S) (looks : List Look) : Type 0 where
  pub places : (id : ℕ) → get nat_eq index id ≡ place_of_id looks id

-- the map, if there is one, has the place of each id
abbrev pub MayBeIndex : {S : Type 0} → Option (HashMap ℕ ℕ S) → List Look → Type 0
MayBeIndex None looks = ⊤
MayBeIndex (Some index) looks = IsIndex index looks

-- where an equal look of the same object stands
abbrev pub place_of : List Look → Look → Option ℕ
place_of others l = position_from (λ m. m.id == l.id && same_look l m) 0 others

-- an area with its place, if there is one
abbrev pub placed_at : Area → Option ℕ → Option Placed
placed_at area place = option_map (λ at. record { at = at; area = area }) place

-- the area of a look, with that place
abbrev pub placed : List Look → Look → Option Placed
placed others l = placed_at l.area (place_of others l)

-- whether the pixel lies in the area of this one, and in that of one which is placed higher
abbrev pub in_higher : Placed → List Placed → ℤ → ℤ → Bool
in_higher q ps x y = list_any (λ p. nat_lt q.at p.at && (holds p.area x y && holds q.area x y)) ps

-- whether the pixel lies in the areas of two, of which the later is placed lower
abbrev pub in_turned : List Placed → ℤ → ℤ → Bool
in_turned [] x y = false
in_turned (p ∷ ps) x y = list_any (λ q. nat_lt q.at p.at && (holds p.area x y && holds q.area x y)) ps || in_turned ps x y

-- the new list of rectangles has the pixels of the old one and these
pub record Adds (more : ℤ → ℤ → Bool) (old new : List Area) : Type 0 where
  pub pixels : (x y : ℤ) → has_pixel new x y ≡ (has_pixel old x y || more x y)
  pub banded : IsBanded old → IsBanded new

-- the same ones, the lowest place first
pub record IsSortedOf (ps sorted : List Placed) : Type 0 where
  pub rising : AllPairs (λ p q. p.at < q.at) sorted
  pub same : (f : Placed → Bool) → list_any f sorted ≡ list_any f ps

-- one stands above the first n of these and below the rest
pub record StandsAt (sorted : List Placed) (at n : ℕ) : Type 0 where
  pub within : n ≤ length sorted
  pub below : (i : ℕ) (d : Placed) → i < n → (get_or sorted i d).at < at
  pub above : (i : ℕ) (d : Placed) → n ≤ i → i < length sorted → at < (get_or sorted i d).at
