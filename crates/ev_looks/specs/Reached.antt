-- What a change of objects reaches.
use Rattle.std.specs.Prelude.{◌≡◌, ℕ, IsTrue, Bool, List, length, Option, Some, None, option_map, if◌then◌else◌}
use Rattle.std.specs.Option.{option_or}
use Rattle.ev_argb.specs.Argb.{Argb}
use Rattle.ev_geom.specs.Area.{Area}
use Rattle.ev_model.specs.Chain.{ends}
use Rattle.ev_model.specs.Stage.{Stage}
use Rattle.ev_model.specs.Up.{with_id, next, is_smart, clips}
use Rattle.ev_model.specs.declared.object.Object.{Object}

-- what an object leaves to those below it: the area that cuts them, if it isn't smart, its colour, whether it is visible, and the id
-- of what stands over it
pub record Left : Type 0 where
  pub area : Option Area
  pub color : Argb
  pub shown : Bool
  pub over : Option ℕ

abbrev pub left_by : Object → Left
left_by u = record { area = if is_smart u then None else Some u.rect; color = u.color; shown = u.shown; over = option_or u.clipper u.parent }

-- what stands over any of these objects leaves what it left among those before
abbrev pub LeaveSame : List Object → List Object → Type 0
LeaveSame before now = (u : Object) (id : ℕ) → with_id now u.id ≡ Some u → (left_by u).over ≡ Some id
    → option_map left_by (with_id before id) ≡ option_map left_by (with_id now id)

-- the way up of an object comes to an end
abbrev pub HasEnd : List Object → Object → Type 0
HasEnd objects o = IsTrue (ends (length objects) (next objects) (next objects o))

-- an object of both scenes that nothing reaches in which they differ
pub record IsUnreached (before now : Stage) (o : Object) : Type 0 where
  pub width : before.w ≡ now.w
  pub height : before.h ≡ now.h
  pub there : with_id now.objects o.id ≡ Some o
  pub left : LeaveSame before.objects now.objects
  pub ended : HasEnd before.objects o
  pub ends : HasEnd now.objects o
  pub clips : clips before o ≡ clips now o
