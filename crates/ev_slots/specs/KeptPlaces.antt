-- How things are kept: ids lead to places, and a place has a thing with its id. No public clause cites this module.
use Rattle.std.specs.Prelude.{◌≡◌, ℕ, zero, suc, ◌+◌, ◌^◌, ◌≤◌, ◌==◌, List, [], ◌∷◌, ◌++◌, length, map, Option, Some, None, option_map, option_and_then, if◌then◌else◌}
use Rattle.ev_slots.specs.Slots.{live}
use Rattle.ev_slots.specs.declared.slots.Entry.{Entry}

module _ {T : Type 0} where
  -- the id and the thing of an entry, if there is one
  abbrev pub id_in : Option (Entry T) → Option ℕ
  id_in entry = option_map (λ e. e.id) entry

  abbrev pub thing_in : Option (Entry T) → Option T
  thing_in entry = option_map (λ e. e.thing) entry

  -- what stands for an id
  abbrev pub thing_of : (ℕ → Option ℕ) → (ℕ → Option (Entry T)) → ℕ → Option T
  thing_of place_of entry_at id = thing_in (option_and_then entry_at (place_of id))

  -- what stands for each of the ids from 1 to n
  abbrev pub up_to : (ℕ → Option T) → ℕ → List (Option T)
  up_to things zero = []
  up_to things (suc n) = up_to things n ++ things (suc n) ∷ []

  -- the ids in all places
  abbrev pub seats_of : List (Option (Entry T)) → List (Option ℕ)
  seats_of entries = map id_in entries

-- each id that was given and whose thing is there leads to the place of that thing, each thing to its id, and no other place is taken
pub record IsKept {T : Type 0} (given : ℕ) (place_of : ℕ → Option ℕ) (entry_at : ℕ → Option (Entry T)) (taken : ℕ) : Type 0 where
  pub few : given ≤ 2 ^ 62
  pub low : (id place : ℕ) → place_of id ≡ Some place → 1 ≤ id
  pub high : (id place : ℕ) → place_of id ≡ Some place → id ≤ given
  pub leads : (id place : ℕ) → place_of id ≡ Some place → id_in (entry_at place) ≡ Some id
  pub back : (place : ℕ) (e : Entry T) → entry_at place ≡ Some e → place_of e.id ≡ Some place
  pub count : taken ≡ length (live (up_to (thing_of place_of entry_at) given))

-- a thing is entered: its id leads to a place that was free, and nothing else changes
pub record Enters {T : Type 0} (place_of : ℕ → Option ℕ) (entry_at : ℕ → Option (Entry T)) (taken : ℕ) (id : ℕ) (thing : T) (place_of' : ℕ → Option ℕ) (entry_at' : ℕ → Option (Entry T)) (taken' : ℕ) : Type 0 where
  pub place : ℕ
  pub free : entry_at place ≡ None
  pub leads : (other : ℕ) → place_of' other ≡ (if other == id then Some place else place_of other)
  pub has : (other : ℕ) → entry_at' other ≡ (if other == place then Some (record { id = id; thing = thing }) else entry_at other)
  pub more : taken' ≡ taken + 1
