-- A scene of one object, for tests. No public clause cites this module.
use Rattle.std.specs.Prelude.{List, Option}
use Rattle.ev_state.specs.Held.{Held}
use Rattle.ev_model.specs.Stage.{values}
use Rattle.ev_model.specs.declared.object.Object.{Object}
use Rattle.ev_sights.specs.Sights.{HasObjects, HaveEnds}

-- the slots have the objects, and each way up comes to an end
pub record IsAlone (slots : List (Option (Held Object))) (objects : List (Held Object)) : Type 0 where
  pub found : HasObjects slots (values objects)
  pub ends : HaveEnds (values objects)
