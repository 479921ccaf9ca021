-- What a canvas keeps, but for its setup, serials and events: what the machine keeps of it too.
use Rattle.ev_preload.specs.Loads.{Loads}
use Rattle.ev_scene.specs.Board.{Board}
use Rattle.ev_canvas.specs.CanvasFrames.{Frames}

-- the scene, what stands of the frames, and the loads
pub record Now : Type 0 where
  pub scene : Board
  pub frames : Frames
  pub loads : Loads
