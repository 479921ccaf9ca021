-- Ids and the places in which they sit.
use Rattle.std.specs.Prelude.{◌≡◌, ℕ, ◌<◌, ◌==◌, true, is_some, List, Option, Some, None, if◌then◌else◌}
use Rattle.ev_slots.specs.Slots.{Slots, of_id, seat}

-- each id whose thing is there sits in one place, and no other id sits anywhere
pub record HavePlaces {T : Type 0} (s : Slots T) : Type 0 where
  pub there : (place id : ℕ) → seat s.seats place ≡ Some id → is_some (of_id s.slots id) ≡ true
  pub seated : (id : ℕ) → is_some (of_id s.slots id) ≡ true → (place : ℕ) × (seat s.seats place ≡ Some id)
  pub one : (i j id : ℕ) → seat s.seats i ≡ Some id → seat s.seats j ≡ Some id → i ≡ j
  pub inside : (place id : ℕ) → seat s.seats place ≡ Some id → place < s.places

-- another id, or none, sits in this place, and all else is as it was
abbrev pub IsSeated : List (Option ℕ) → List (Option ℕ) → ℕ → Option ℕ → Type 0
IsSeated old new place id = (other : ℕ) → seat new other ≡ (if other == place then id else seat old other)

-- an id sits down where nobody sat
pub record SitsDown (old new : List (Option ℕ)) (id : ℕ) : Type 0 where
  pub place : ℕ
  pub free : seat old place ≡ None
  pub seated : IsSeated old new place (Some id)

-- an id leaves its place
pub record StandsUp (old new : List (Option ℕ)) (id : ℕ) : Type 0 where
  pub place : ℕ
  pub sat : seat old place ≡ Some id
  pub seated : IsSeated old new place None
