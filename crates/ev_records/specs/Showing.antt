-- What stands in each place now, and stood there at the start before.
use Rattle.std.specs.Prelude.{◌≡◌, ℕ, ◌⊎◌, true, List, filter_map, get_or, slice_set, Option, Some, None}
use Rattle.ev_geom.specs.Area.{Area}
use Rattle.ev_model.specs.Capture.{IsInside}
use Rattle.ev_model.specs.Look.{Look}
use Rattle.ev_model.specs.Stage.{canvas_on}
use Rattle.ev_damage.specs.Marked.{is_marked}

-- what a place showed at the start before, and what it shows now
pub record Showing : Type 0 where
  pub was : Option Look
  pub now : Option Look

abbrev pub nothing : Showing
nothing = record { was = None; now = None }

-- what a place shows
abbrev pub showing : List Showing → ℕ → Showing
showing all place = get_or all place nothing

-- the looks now of the places in this order
abbrev pub looks_now : List Showing → List ℕ → List Look
looks_now all order = filter_map (λ place. (showing all place).now) order

-- and their looks at the start before
abbrev pub looks_before : List Showing → List ℕ → List Look
looks_before all order = filter_map (λ place. (showing all place).was) order

-- a place shows something else, or nothing
abbrev pub put : List Showing → ℕ → Option Look → List Showing
put all place l = slice_set all place (record { was = (showing all place).was; now = l })

-- what is shown now counts as shown at the start before
abbrev pub settled : Showing → Showing
settled s = record { was = s.now; now = s.now }

-- a place shows this look, or did so at the start before
abbrev pub Shows : Showing → Look → Type 0
Shows s l = (s.was ≡ Some l) ⊎ (s.now ≡ Some l)

-- an area lies on the greatest canvas
abbrev pub IsOnCanvas : Area → Type 0
IsOnCanvas area = IsInside (canvas_on 4096 4096) area

-- an object has no more than one place, and each area lies on the greatest canvas
pub record HavePlaces (all : List Showing) : Type 0 where
  pub one : (i j : ℕ) (l m : Look) → Shows (showing all i) l → Shows (showing all j) m → l.id ≡ m.id → i ≡ j
  pub inside : (i : ℕ) (l : Look) → Shows (showing all i) l → IsOnCanvas l.area

-- no other place shows the object of this look, or did so at the start before, and its area lies on the greatest canvas
pub record IsNewElsewhere (all : List Showing) (place : ℕ) (l : Look) : Type 0 where
  pub apart : (i : ℕ) (m : Look) → Shows (showing all i) m → m.id ≡ l.id → i ≡ place
  pub inside : IsOnCanvas l.area

-- each place that showed something at the start before stands in one order, and each that does so now in the other
pub record Have (before after : List ℕ) (all : List Showing) : Type 0 where
  pub was : (place : ℕ) (l : Look) → (showing all place).was ≡ Some l → is_marked before place ≡ true
  pub now : (place : ℕ) (l : Look) → (showing all place).now ≡ Some l → is_marked after place ≡ true
