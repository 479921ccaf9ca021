-- Which places have to be looked at, and what is shown once they were.
use Rattle.std.specs.Prelude.{◌≡◌, ◌≢◌, ℕ, ◌≤◌, ◌<◌, ◌⊎◌, List, length, Option, Some, None}
use Rattle.std.specs.Option.{option_and_then}
use Rattle.ev_state.specs.Held.{Held}
use Rattle.ev_model.specs.Up.{with_id}
use Rattle.ev_model.specs.declared.object.Object.{Object}
use Rattle.ev_slots.specs.Slots.{seat}
use Rattle.ev_records.specs.Showing.{Showing, showing}
use Rattle.ev_track.specs.Tracks.{Tracks, slots_in}
use Rattle.ev_looks.specs.Reached.{left_by}
use Rattle.ev_looks.specs.Seated.{AreSeated}
use Rattle.ev_looks.specs.WaysUp.{over}
use Rattle.ev_looks.specs.PlacedStates.{state_at, objects_in, states_now, seen}
use Rattle.ev_looks.specs.Grounds.{stage_on}
use Rattle.ev_looks.specs.declared.walk.Ground.{Ground}

-- what stands in a place is what stood in it
abbrev pub IsStill : Tracks Object → ℕ → Type 0
IsStill t place = state_at (states_now t) place ≡ state_at t.was place

-- no object has this one as its clipper, or as its parent without a clipper
abbrev pub HasNoneBelow : List Object → ℕ → Type 0
HasNoneBelow objects id = (u : Object) → with_id objects u.id ≡ Some u → over u ≢ Some id

-- the object that stood in a place left the same to those below it
pub record LeftSame (t : Tracks Object) (place : ℕ) (now : Object) : Type 0 where
  pub was : Held Object
  pub stood : state_at t.was place ≡ Some was
  pub id : was.value.id ≡ now.id
  pub left : left_by was.value ≡ left_by now

-- nothing stands below the object in a place that leaves something else than before
abbrev pub IsShallow : Tracks Object → ℕ → Type 0
IsShallow t place = (now : Held Object) → state_at (states_now t) place ≡ Some now → LeftSame t place now.value ⊎ HasNoneBelow (objects_in (states_now t)) now.value.id

-- a place shows what is seen of what stands in it
abbrev pub IsRight : Ground → List Showing → ℕ → Type 0
IsRight g all place = (showing all place).now ≡ seen (stage_on g) (state_at (states_now g.objects.now) place)

-- some places were looked at: each shows what is seen, or what it showed. What was shown at the start before stays, and looks stay
-- in the places of their ids
pub record LooksAt (g : Ground) (old new : List Showing) : Type 0 where
  pub len : length new ≡ length old
  pub was : (place : ℕ) → (showing new place).was ≡ (showing old place).was
  pub now : (place : ℕ) → IsRight g new place ⊎ ((showing new place).now ≡ (showing old place).now)
  pub seated : AreSeated (slots_in g.objects.now) new

-- the place of an id shows what is seen
abbrev pub IsRightOf : Ground → List Showing → Option ℕ → Type 0
IsRightOf g all id = (one place : ℕ) → id ≡ Some one → seat g.objects.now.seats place ≡ Some one → IsRight g all place

-- the clipper of what stands in a place
abbrev pub clipper_in : Option (Held Object) → Option ℕ
clipper_in state = option_and_then (λ (s : Held Object). s.value.clipper) state

-- a place shows what is seen, and so do those of its clippers, where another one clips it than before
pub record IsLookedAt (g : Ground) (all : List Showing) (place : ℕ) : Type 0 where
  pub own : IsRight g all place
  pub clippers : (clipper_in (state_at g.objects.now.was place) ≡ clipper_in (state_at (states_now g.objects.now) place))
      ⊎ (IsRightOf g all (clipper_in (state_at g.objects.now.was place)) × IsRightOf g all (clipper_in (state_at (states_now g.objects.now) place)))

-- what stands in the places from here on and before another one is what stood in them
abbrev pub AreStill : Tracks Object → ℕ → ℕ → Type 0
AreStill t from to = (place : ℕ) → from ≤ place → place < to → IsStill t place

-- this is the first place from here on and below so many that may have changed
pub record IsNext (t : Tracks Object) (from len found : ℕ) : Type 0 where
  pub high : from ≤ found
  pub inside : found < len
  pub still : AreStill t from found

-- the first place from here on and below so many that may have changed, or none
abbrev pub FindsNext : Tracks Object → ℕ → ℕ → Option ℕ → Type 0
FindsNext t from len None = AreStill t from len
FindsNext t from len (Some found) = IsNext t from len found
