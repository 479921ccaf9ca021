-- What stands in places, put where it is looked up later.
use Rattle.std.specs.Prelude.{◌≡◌, ℕ, ◌<◌, ◌==◌, Bool, false, All, List, Option, None, get_or}
use Rattle.std.specs.List.{list_any}
use Rattle.ev_state.specs.Held.{Held}
use Rattle.ev_track.specs.declared.settle.Change.{Change}

module _ {T : Type 0} where
  abbrev pub is_listed : List (Change T) → ℕ → Bool
  is_listed changes place = list_any (λ c. c.place == place) changes

  -- each of these has what stands in its place now
  abbrev pub AreNow : (ℕ → Option (Held T)) → List (Change T) → Type 0
  AreNow now changes = All (λ c. c.now ≡ now c.place) changes

  -- each is for one of so many places
  abbrev pub AreInside : ℕ → List (Change T) → Type 0
  AreInside n changes = All (λ c. c.place < n) changes

  -- a list has what stands in the places of now, but for those of these changes
  abbrev pub HasElse : (ℕ → Option (Held T)) → List (Change T) → List (Option (Held T)) → Type 0
  HasElse now changes was = (place : ℕ) → is_listed changes place ≡ false → get_or was place None ≡ now place
