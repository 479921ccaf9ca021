-- States in places, and what is seen of them.
use Rattle.std.specs.Prelude.{◌≡◌, ℕ, List, map, filter_map, get_or, Option, Some, None, option_map}
use Rattle.std.specs.Option.{option_and_then}
use Rattle.ev_state.specs.Held.{Held}
use Rattle.ev_model.specs.Look.{Look, look}
use Rattle.ev_model.specs.Stage.{Stage}
use Rattle.ev_model.specs.Up.{with_id}
use Rattle.ev_model.specs.declared.object.Object.{Object}
use Rattle.ev_slots.specs.Slots.{of_id}
use Rattle.ev_records.specs.Showing.{Showing, showing}
use Rattle.ev_track.specs.Tracks.{Tracks}
use Rattle.ev_looks.specs.Reached.{HasEnd}

-- the state in a place
abbrev pub state_at : List (Option (Held Object)) → ℕ → Option (Held Object)
state_at states place = get_or states place None

-- the objects of these places
abbrev pub objects_in : List (Option (Held Object)) → List Object
objects_in states = filter_map (λ state. option_map (λ (s : Held Object). s.value) state) states

-- what stands in each place now
abbrev pub states_now : Tracks Object → List (Option (Held Object))
states_now t = map (λ id. option_and_then (of_id t.slots) id) t.seats

-- the objects of these places on a canvas of w by h. What is seen of them doesn't go by their order
abbrev pub stage_in : ℕ → ℕ → List (Option (Held Object)) → Stage
stage_in w h states = record { w = w; h = h; objects = objects_in states }

-- what is seen of a state, if there is one
abbrev pub seen : Stage → Option (Held Object) → Option Look
seen s state = option_and_then (λ (held : Held Object). look s held.value) state

-- each place shows what is seen of its state
abbrev pub ShowLooks : ℕ → ℕ → List (Option (Held Object)) → List Showing → Type 0
ShowLooks w h states all = (place : ℕ) → (showing all place).now ≡ seen (stage_in w h states) (state_at states place)

-- no object stands in two places
abbrev pub AreApart : List (Option (Held Object)) → Type 0
AreApart states = (i j : ℕ) (s r : Held Object) → state_at states i ≡ Some s → state_at states j ≡ Some r → s.value.id ≡ r.value.id → i ≡ j

-- each way up comes to an end
abbrev pub HaveEnds : List Object → Type 0
HaveEnds objects = (u : Object) → with_id objects u.id ≡ Some u → HasEnd objects u
