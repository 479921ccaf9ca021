-- The objects of a scene by id and by name.
use Rattle.std.specs.Prelude.{◌≡◌, ◌↔◌, ℕ, Bool, length, List, Option, Some, option_map}
use Rattle.std.specs.Map.{lookup}
use Rattle.std.specs.Str.{bytes_eq}
use Rattle.ev_state.specs.Held.{Held}
use Rattle.ev_model.specs.declared.object.Object.{Object}
use Rattle.ev_scene.specs.Ids.{of_id, live}
use Rattle.ev_scene.specs.declared.label.Label.{Label}

-- the states by id, how many were made, and for how many more there is room
pub record Entries : Type 0 where
  pub made : ℕ
  pub states : List (Option (Held Object))
  pub room : ℕ

abbrev pub same_label : Label → Label → Bool
same_label a b = bytes_eq a.name b.name

-- the id that a name has among these entries
abbrev pub id_in : List (Label × ℕ) → List ℕ → Option ℕ
id_in ids name = lookup (same_label (record { name = name })) ids

-- the name of what an id stands for
abbrev pub name_at : List (Option (Held Object)) → ℕ → Option (List ℕ)
name_at states id = option_map (λ s. s.value.name) (of_id states id)

-- each object has the id that it stands at, each name leads to the object that has it, and there are as many names as objects
pub record IsRoll (states : List (Option (Held Object))) (ids : List (Label × ℕ)) : Type 0 where
  pub own : (id : ℕ) (s : Held Object) → of_id states id ≡ Some s → s.value.id ≡ id
  pub leads : (name : List ℕ) (id : ℕ) → (id_in ids name ≡ Some id) ↔ (name_at states id ≡ Some name)
  pub size : length ids ≡ length (live states)

-- a state for the object of its id, which has its name
abbrev pub IsStateOf : List (Option (Held Object)) → Held Object → Type 0
IsStateOf states s = name_at states s.value.id ≡ Some s.value.name
