-- Scenes as they are captured.
use Rattle.std.specs.Prelude.{◌≡◌, ◌≢◌, ℕ, ℤ, All, AllPairs, List, map, Some, None}
use Rattle.ev_model.specs.Capture.{IsLookOn}
use Rattle.ev_model.specs.Limits.{AreObjects}
use Rattle.ev_model.specs.Look.{look_of, looks}
use Rattle.ev_model.specs.Stage.{stage}
use Rattle.ev_model.specs.declared.scene.Record.{Record}
use Rattle.ev_model.specs.declared.scene.Scene.{Scene}
use Rattle.ev_stack.specs.LayerOrder.{IsOrder}
use Rattle.ev_links.specs.Ties.{Has}
use Rattle.ev_groups.specs.Groups.{group}
use Rattle.ev_scene.specs.CanvasSize.{IsCanvas}
use Rattle.ev_scene.specs.Sound.{IsSound}

-- those that stand in no object are an order, and so are the members of each of these ids
pub record AreOrders (groups : List (List (ℕ × ℤ))) (ids : List ℕ) : Type 0 where
  pub top : IsOrder (group groups None)
  pub each : (id : ℕ) → Has id ids → IsOrder (group groups (Some id))

-- a scene with its records
pub record Shot : Type 0 where
  pub scene : Scene
  pub records : List Record

-- the scene keeps its limits and is sound, and the records are its looks in their order: their ids differ as well, and each is as a
-- redraw of the scene asks
pub record IsShot (shot : Shot) : Type 0 where
  pub canvas : IsCanvas shot.scene.w shot.scene.h
  pub objects : AreObjects shot.scene.objects
  pub sound : IsSound (stage shot.scene)
  pub looks : map look_of shot.records ≡ looks (stage shot.scene)
  pub apart : AllPairs (λ a b. a ≢ b) (map (λ l. l.id) (map look_of shot.records))
  pub on_canvas : All (λ r. IsLookOn shot.scene.w shot.scene.h (look_of r)) shot.records
