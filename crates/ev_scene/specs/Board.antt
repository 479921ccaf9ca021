-- A scene, as its edits see it.
use Rattle.std.specs.Prelude.{ℕ, ◌+◌, ◌≤◌, ℤ, Bool, List, ◌∷◌, map, filter_map, find, length, Option, Some, None, option_map}
use Rattle.std.specs.Str.{bytes_eq}
use Rattle.ev_state.specs.Held.{Held}
use Rattle.ev_model.specs.Order.{in_order}
use Rattle.ev_model.specs.Stage.{Stage}
use Rattle.ev_model.specs.declared.object.Object.{Object}
use Rattle.ev_groups.specs.Groups.{siblings}
use Rattle.ev_links.specs.Ties.{Ties}
use Rattle.ev_scene.specs.Ids.{of_id, live, value_of}
use Rattle.ev_scene.specs.ObjectTies.{ties_of}

pub record Board : Type 0 where
  -- the size of the canvas in pixels
  pub w : ℕ
  pub h : ℕ
  -- the object of each id that was given, or none where it was deleted
  pub objects : List (Option Object)
  -- who stand together, each id with its layer, from the bottom to the top: at place 0 those that stand in no object, at the place of an id the members of its object
  pub groups : List (List (ℕ × ℤ))

-- the same with shared states in place of objects, and the number of states that were made
pub record Kept : Type 0 where
  pub w : ℕ
  pub h : ℕ
  pub made : ℕ
  pub states : List (Option (Held Object))
  pub groups : List (List (ℕ × ℤ))

-- from one count of states to another at most so many were made
pub record MakesAtMost (few old new : ℕ) : Type 0 where
  pub grows : old ≤ new
  pub bound : new ≤ old + few

abbrev pub values_of : List (Option (Held Object)) → List (Option Object)
values_of states = map (λ slot. option_map value_of slot) states

-- without serials
abbrev pub board : Kept → Board
board kept = record { w = kept.w; h = kept.h; objects = values_of kept.states; groups = kept.groups }

abbrev pub is_named : List ℕ → Object → Bool
is_named name o = bytes_eq o.name name

-- the object of a name
abbrev pub named : List (Option Object) → List ℕ → Option Object
named objects name = find (is_named name) (live objects)

-- the ids of what stands in an object, or of all objects for none, in the order of painting. No object stands deeper than there are objects
abbrev pub ids_in : Board → Option ℕ → List ℕ
ids_in b parent = in_order (length (live b.objects)) (siblings b.groups) parent

-- the ids of an object and of all that stands inside it
abbrev pub inside : Board → ℕ → List ℕ
inside b id = id ∷ ids_in b (Some id)

-- what is painted of a scene: its objects in their order
abbrev pub stage_of : Board → Stage
stage_of b = record { w = b.w; h = b.h; objects = filter_map (of_id b.objects) (ids_in b None) }

-- the ties of all objects
abbrev pub ties_on : Board → Ties
ties_on b = ties_of (live b.objects)
