-- What holds of each scene.
use Rattle.std.specs.Prelude.{◌≡◌, ℕ, ◌+◌, [], length, get_or, Some}
use Rattle.std.specs.FinMap.{get}
use Rattle.std.specs.Option.{option_map, option_and_then}
use Rattle.ev_model.specs.Limits.{IsObject}
use Rattle.ev_model.specs.declared.object.Object.{Object}
use Rattle.ev_stack.specs.LayerOrder.{layer_in}
use Rattle.ev_links.specs.Ties.{Ties}
use Rattle.ev_scene.specs.Ids.{of_id}
use Rattle.ev_scene.specs.Board.{Board}
use Rattle.ev_scene.specs.CanvasSize.{IsCanvas}
use Rattle.ev_scene.specs.ObjectTies.{tie_of, layer_at}

-- the canvas has its limits; each object stands under its id and keeps its limits; exactly the objects of a parent
-- stand in its group, each with its layer; and the ties are those of the objects
pub record IsWhole (scene : Board) (ties : Ties) : Type 0 where
  pub canvas : IsCanvas scene.w scene.h
  pub own : (id : ℕ) (o : Object) → of_id scene.objects id ≡ Some o → o.id ≡ id
  pub limits : (id : ℕ) (o : Object) → of_id scene.objects id ≡ Some o → IsObject o
  pub stands : (at id : ℕ) → layer_in (get_or scene.groups at []) id ≡ option_and_then (layer_at at) (of_id scene.objects id)
  pub grouped : length scene.groups ≡ length scene.objects + 1
  pub tied : (id : ℕ) → get ties id ≡ option_map tie_of (of_id scene.objects id)
