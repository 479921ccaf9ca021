-- What was given an id, the ids from 1 on: a list with what stands for each id, or nothing where that is gone.
use Rattle.std.specs.Prelude.{ℕ, ◌-◌, ◌==◌, List, filter_map, slice_get, slice_set, slice_index_or, Option, None, option_and_then, if◌then◌else◌}

-- the things by id; the id, or none, that sits in each place; how many places there are, the last of which may be missing in that list;
-- and for how many more things there is room
pub record Slots (T : Type 0) : Type 0 where
  pub slots : List (Option T)
  pub seats : List (Option ℕ)
  pub places : ℕ
  pub room : ℕ

-- the id that sits in a place
abbrev pub seat : List (Option ℕ) → ℕ → Option ℕ
seat seats place = slice_index_or seats place None

module _ {A : Type 0} where
  -- what an id stands for
  abbrev pub of_id : List (Option A) → ℕ → Option A
  of_id slots id = if id == 0 then None else option_and_then (λ slot. slot) (slice_get slots (id - 1))

  -- the list, with something else for an id
  abbrev pub put : List (Option A) → ℕ → Option A → List (Option A)
  put slots id slot = slice_set slots (id - 1) slot

  -- all that is there
  abbrev pub live : List (Option A) → List A
  live slots = filter_map (λ slot. slot) slots
