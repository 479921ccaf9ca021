-- Looks that are kept, and the objects whose they are.
use Rattle.std.specs.Prelude.{◌≡◌, ◌⊎◌, ℕ, ◌≤◌, ◌<◌, Bool, false, List, length, None}
use Rattle.ev_model.specs.declared.object.Object.{Object}
use Rattle.ev_records.specs.Showing.{Showing}
use Rattle.ev_track.specs.Tracks.{Tracks, slots_in}
use Rattle.ev_looks.specs.Refreshes.{IsStill, IsShallow}
use Rattle.ev_looks.specs.Seated.{AreSeated}
use Rattle.ev_looks.specs.declared.walk.Ground.{Ground}
use Rattle.ev_looks.specs.PlacedStates.{state_at, objects_in, ShowLooks, AreApart, HaveEnds}

-- what each place shows and showed at the start before, the size of the canvas on which it was found, and whether it may be wrong
pub record Shown : Type 0 where
  pub all : List Showing
  pub w : ℕ
  pub h : ℕ
  pub stale : Bool

-- looks of objects: they stay in the places of their ids, and unless they may be wrong, each place shows what is seen of what stood
-- in it when the changes were last settled, among all that stood then
pub record AreLooksOf (k : Shown) (t : Tracks Object) : Type 0 where
  pub seated : AreSeated (slots_in t) k.all
  pub within : (place : ℕ) → length k.all ≤ place → state_at t.was place ≡ None
  pub apart : AreApart t.was
  pub ended : HaveEnds (objects_in t.was)
  pub looks : k.stale ≡ false → ShowLooks k.w k.h t.was k.all

-- looks that were found may be used on: none is wrong, the canvas has the size that it had, and no object that changed leaves
-- something else to one below it
pub record ServeOn (k : Shown) (g : Ground) : Type 0 where
  pub fresh : k.stale ≡ false
  pub width : k.w ≡ g.w
  pub height : k.h ≡ g.h
  pub shallow : (place : ℕ) → place < length k.all → IsStill g.objects.now place ⊎ IsShallow g.objects.now place
