-- What stands over the objects of a scene, as it is remembered while their records are made.
use Rattle.std.specs.Prelude.{◌≡◌, ℕ, All, IsTrue, option_map, ◌<◌, ◌≤◌, Bool, true, ◌&&◌, ◌==◌, nat_eq, fold, if◌then◌else◌, List, [], ◌∷◌, length, Option, Some, None, option_and_then}
use Rattle.std.specs.List.{list_all, list_any}
use Rattle.std.specs.Option.{option_or}
use Rattle.std.specs.HashMap.{HashMap, get}
use Rattle.std.specs.HashSet.{HashSet, contains}
use Rattle.ev_argb.specs.Argb.{Argb, tint}
use Rattle.ev_state.specs.Held.{Held}
use Rattle.ev_model.specs.Chain.{chain, ends}
use Rattle.ev_model.specs.Stage.{Stage, values, canvas}
use Rattle.ev_model.specs.Up.{with_id, next, up, cut, is_clipped_by}
use Rattle.ev_model.specs.Look.{Look}
use Rattle.ev_model.specs.declared.object.Object.{Object}
use Rattle.ev_slots.specs.Slots.{of_id}
use Rattle.ev_sights.specs.declared.ground.Ground.{Ground}
use Rattle.ev_sights.specs.declared.sights.Sight.{Sight}
use Rattle.ev_sights.specs.declared.sights.Seen.{Seen}

-- these are the objects whose states stand in the slots, by their ids
abbrev pub HasObjects : List (Option (Held Object)) → List Object → Type 0
HasObjects slots objects = (id : ℕ) → with_id objects id ≡ option_map (λ s. s.value) (of_id slots id)

-- each way up comes to an end
abbrev pub HaveEnds : List Object → Type 0
HaveEnds objects = All (λ o. IsTrue (ends (length objects) (next objects) (next objects o))) objects

-- ---- No public clause cites what follows.

-- the id of what stands over an object
abbrev pub over : Object → Option ℕ
over o = option_or o.clipper o.parent

-- the object of an id and all objects over it, or none where no object has the id
abbrev pub way : List Object → Option ℕ → List Object
way objects at = chain (length objects) (next objects) (option_and_then (with_id objects) at)

-- this way comes to an end
abbrev pub Ends : List Object → Option ℕ → Type 0
Ends objects at = ends (length objects) (next objects) (option_and_then (with_id objects) at) ≡ true

-- a colour, tinted by each of these objects in turn
abbrev pub tinted : Argb → List Object → Argb
tinted color us = fold (λ color u. tint color u.color) color us

-- the colour that changes nothing which it tints
abbrev pub is_white : Argb → Bool
is_white c = c.a == 255 && c.r == 255 && c.g == 255 && c.b == 255

-- a colour of four bytes
pub record IsColor (c : Argb) : Type 0 where
  pub a : c.a < 256
  pub r : c.r < 256
  pub g : c.g < 256
  pub b : c.b < 256

-- from `later` on, which is no longer, a way tints as from `at` on
pub record TintsAs (objects : List Object) (at later : Option ℕ) : Type 0 where
  pub ends : Ends objects later
  pub shorter : length (way objects later) ≤ length (way objects at)
  pub color : (c : Argb) → IsColor c → tinted c (way objects at) ≡ tinted c (way objects later)

-- a sight has the pixels of the canvas that all objects of a way leave, whether all of them are visible, and from where on they tint
pub record IsSight (s : Stage) (at : Option ℕ) (sight : Sight) : Type 0 where
  pub area : sight.area ≡ fold cut (canvas s) (way s.objects at)
  pub shown : sight.shown ≡ list_all (λ u. u.shown) (way s.objects at)
  pub tints : TintsAs s.objects at sight.tinted

-- the sight of a way without objects
abbrev pub bare : Stage → Sight
bare s = record { area = canvas s; shown = true; tinted = None }

-- the sight of a way that is longer by the object u of this id
abbrev pub lowered : Sight → ℕ → Object → Sight
lowered sight id u = record { area = cut sight.area u; shown = u.shown && sight.shown; tinted = if is_white u.color then sight.tinted else Some id }

-- what is remembered at the id of an object is the sight of the way from there on
abbrev pub AreSights : {S : Type 0} → Stage → HashMap ℕ Sight S → Type 0
AreSights s known = (id : ℕ) (sight : Sight) → get nat_eq known id ≡ Some sight → IsSight s (Some id) sight

-- u is the object of this id, and its way is u and all objects over it, the last of which has none over it
pub record IsStep (objects : List Object) (id : ℕ) (u : Object) : Type 0 where
  pub there : with_id objects id ≡ Some u
  pub ends : Ends objects (Some id)
  pub way : way objects (Some id) ≡ up objects u

-- a way that begins at `first` leads through these ids to `at`
abbrev pub Leads : List Object → Option ℕ → List ℕ → Option ℕ → Type 0
Leads objects first [] at = first ≡ at
Leads objects first (id ∷ ids) at = (first ≡ Some id) × ((u : Object) × IsStep objects id u × Leads objects (over u) ids at)

-- a way leads through these ids to where the sight is known
pub record IsClimbed (s : Stage) (first : Option ℕ) (ids : List ℕ) (sight : Sight) : Type 0 where
  pub at : Option ℕ
  pub leads : Leads s.objects first ids at
  pub known : IsSight s at sight

-- the ids of all objects that clip another
abbrev pub AreClippers : {S : Type 0} → List Object → HashSet ℕ S → Type 0
AreClippers objects clippers = (id : ℕ) → contains nat_eq clippers id ≡ list_any (is_clipped_by id) objects

-- the scene whose records are made
abbrev pub stage_on : Ground → Stage
stage_on ground = record { w = ground.w; h = ground.h; objects = values ground.objects.now }

-- its canvas is not too large, its objects are found by their ids, and those that clip another are known
pub record IsGround (ground : Ground) : Type 0 where
  pub width : ground.w ≤ 4096
  pub height : ground.h ≤ 4096
  pub found : HasObjects ground.slots.now.slots (values ground.objects.now)
  pub clippers : AreClippers (values ground.objects.now) ground.clippers

-- what is seen of an object, as a look
abbrev pub look_as : Object → Seen → Look
look_as o seen = record { id = o.id; area = seen.area; color = seen.color; object = o }
