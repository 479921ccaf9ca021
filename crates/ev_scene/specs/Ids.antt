-- The objects of a scene by their ids.
pub use Rattle.ev_slots.specs.Slots.{of_id, put, live}
use Rattle.std.specs.Prelude.{List, [], ◌∷◌, Option, Some}
use Rattle.ev_state.specs.Held.{Held}
use Rattle.ev_model.specs.declared.object.Object.{Object}

-- the list, with objects at their ids. Where two have one id, the first is there in the end
abbrev pub spread : List Object → List (Option Object) → List (Option Object)
spread [] slots = slots
spread (o ∷ objects) slots = put (spread objects slots) o.id (Some o)

-- a state without its serial
abbrev pub value_of : {T : Type 0} → Held T → T
value_of state = state.value
