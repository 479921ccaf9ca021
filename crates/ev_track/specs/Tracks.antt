-- Things by their ids, in places, and what stood in each place when the changes were last settled.
use Rattle.std.specs.Prelude.{◌≡◌, ℕ, ◌≤◌, ◌<◌, false, Bool, List, Option, Some, None, get_or, option_and_then, length, nat_le, if◌then◌else◌}
use Rattle.ev_state.specs.Held.{Held}
use Rattle.ev_slots.specs.Slots.{Slots, of_id, seat}
use Rattle.ev_track.specs.Marked.{is_marked}

pub record Tracks (T : Type 0) : Type 0 where
  -- the states by id
  pub slots : List (Option (Held T))
  -- the id in each place, how many places there are, and for how many more things there is room
  pub seats : List (Option ℕ)
  pub places : ℕ
  pub room : ℕ
  -- the state that stood in each place when the changes were last settled
  pub was : List (Option (Held T))

module _ {T : Type 0} where
  -- the states alone, without what stood in their places
  abbrev pub slots_in : Tracks T → Slots (Held T)
  slots_in t = record { slots = t.slots; seats = t.seats; places = t.places; room = t.room }

  -- what stands in a place
  abbrev pub state_in : List (Option (Held T)) → List (Option ℕ) → ℕ → Option (Held T)
  state_in slots seats place = option_and_then (of_id slots) (seat seats place)

  abbrev pub now_in : Tracks T → ℕ → Option (Held T)
  now_in t place = state_in t.slots t.seats place

  -- what stood in it when the changes were last settled
  abbrev pub was_in : Tracks T → ℕ → Option (Held T)
  was_in t place = get_or t.was place None

  -- what stands in the places from here on and before another one is what stood in them
  abbrev pub AreUnchanged : Tracks T → ℕ → ℕ → Type 0
  AreUnchanged t from to = (place : ℕ) → from ≤ place → place < to → now_in t place ≡ was_in t place

  -- in the places from here on, the first that may have changed is this one, or none has
  abbrev pub FindsChange : Tracks T → ℕ → Option ℕ → Type 0
  FindsChange t from None = (place : ℕ) → from ≤ place → now_in t place ≡ was_in t place
  FindsChange t from (Some found) = (from ≤ found) × AreUnchanged t from found

  -- each place that has no mark has what it had, and each place that is taken can be marked
  pub record IsTracked (slots : List (Option (Held T))) (seats : List (Option ℕ)) (was : List (Option (Held T))) (marks : List Bool) : Type 0 where
    pub seated : (place id : ℕ) → seat seats place ≡ Some id → place < length marks
    pub same : (place : ℕ) → is_marked marks place ≡ false → state_in slots seats place ≡ get_or was place None

-- for how many more things there is room, where each of their places can be marked
abbrev pub room_by : {T : Type 0} → Slots T → List Bool → ℕ
room_by slots marks = if nat_le slots.places (length marks) then slots.room else 0
