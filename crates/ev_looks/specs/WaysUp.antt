-- The ways up, and what is seen at an object when its way was gone so far.
use Rattle.std.specs.Prelude.{◌≡◌, ℕ, true, ◌&&◌, fold, List, length, Option}
use Rattle.std.specs.List.{list_all}
use Rattle.std.specs.Option.{option_and_then, option_or}
use Rattle.ev_argb.specs.Argb.{tint}
use Rattle.ev_model.specs.Chain.{chain, ends}
use Rattle.ev_model.specs.Stage.{Stage}
use Rattle.ev_model.specs.Up.{with_id, next, cut, clip, colour, is_shown}
use Rattle.ev_model.specs.declared.object.Object.{Object}
use Rattle.ev_looks.specs.declared.walk.Sight.{Sight}

-- the id of what stands over an object
abbrev pub over : Object → Option ℕ
over o = option_or o.clipper o.parent

-- the object of an id and all objects over it, or none where no object has the id
abbrev pub way : List Object → Option ℕ → List Object
way objects at = chain (length objects) (next objects) (option_and_then (with_id objects) at)

-- this way comes to an end
abbrev pub Ends : List Object → Option ℕ → Type 0
Ends objects at = ends (length objects) (next objects) (option_and_then (with_id objects) at) ≡ true

-- a sight after one more object on the way
abbrev pub lowered : Sight → Object → Sight
lowered sight u = record { area = cut sight.area u; color = tint sight.color u.color; shown = sight.shown && u.shown }

-- with what the objects from `at` on leave of it, a sight is that of the whole way up of an object
pub record IsOnWay (s : Stage) (o : Object) (at : Option ℕ) (sight : Sight) : Type 0 where
  pub area : fold cut sight.area (way s.objects at) ≡ clip s o
  pub color : fold (λ color u. tint color u.color) sight.color (way s.objects at) ≡ colour s o
  pub shown : (sight.shown && list_all (λ u. u.shown) (way s.objects at)) ≡ is_shown s o

-- a sight is what all objects over an object leave of it
pub record IsSight (s : Stage) (o : Object) (sight : Sight) : Type 0 where
  pub area : sight.area ≡ clip s o
  pub color : sight.color ≡ colour s o
  pub shown : sight.shown ≡ is_shown s o
