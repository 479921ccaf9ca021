-- Looks that are kept by places, and the ids that sit in these places.
use Rattle.std.specs.Prelude.{◌≡◌, ℕ, ◌≤◌, true, is_some, List, length, Some}
use Rattle.ev_model.specs.Look.{Look}
use Rattle.ev_slots.specs.Slots.{Slots, of_id, seat}
use Rattle.ev_records.specs.Showing.{Showing, showing, Shows}

-- what a place shows or showed is of an id that was given, and whose thing, if it is there, sits in this place
pub record AreSeated {T : Type 0} (s : Slots T) (all : List Showing) : Type 0 where
  pub given : (place : ℕ) (l : Look) → Shows (showing all place) l → l.id ≤ length s.slots
  pub seated : (place : ℕ) (l : Look) → Shows (showing all place) l → is_some (of_id s.slots l.id) ≡ true → seat s.seats place ≡ Some l.id

-- no id that was given before sits where it didn't sit
pub record KeepsSeats {T U : Type 0} (old : Slots T) (new : Slots U) : Type 0 where
  pub more : length old.slots ≤ length new.slots
  pub same : (place id : ℕ) → id ≤ length old.slots → seat new.seats place ≡ Some id → seat old.seats place ≡ Some id
