-- The areas of what changed since the start before.
use Rattle.std.specs.Prelude.{ℕ, Bool, ◌&&◌, ◌==◌, if◌then◌else◌, List, [], ◌∷◌, ◌++◌, Option, Some, None}
use Rattle.ev_geom.specs.Area.{Area}
use Rattle.ev_model.specs.Look.{Look}
use Rattle.ev_damage.specs.Same.{same_look}
use Rattle.ev_records.specs.Showing.{Showing, showing}

-- whether two looks are equal and of one object
abbrev pub is_same : Look → Look → Bool
is_same l m = m.id == l.id && same_look l m

-- the areas of two looks, each of which may be missing, unless they are equal and of one object
abbrev pub changed : Option Look → Option Look → List Area
changed None None = []
changed None (Some m) = m.area ∷ []
changed (Some l) None = l.area ∷ []
changed (Some l) (Some m) = if is_same l m then [] else l.area ∷ (m.area ∷ [])

abbrev pub changed_in : Showing → List Area
changed_in s = changed s.was s.now

-- those of these places
abbrev pub changes : List Showing → List ℕ → List Area
changes all [] = []
changes all (place ∷ places) = changed_in (showing all place) ++ changes all places
