-- What is seen of a canvas.
use Rattle.std.specs.Prelude.{◌≡◌, ℕ, ◌≤◌, List, [], ◌∷◌}
use Rattle.ev_model.specs.declared.refusal.Refusal.{Refusal}
use Rattle.ev_preload.specs.Loads.{Loads}
use Rattle.ev_scene.specs.Board.{Kept, board}
use Rattle.ev_scene.specs.Edits.{IsLeft}
use Rattle.ev_canvas.specs.CanvasFrames.{Frames, fresh}
use Rattle.ev_canvas.specs.Drawings.{IsDrawing, latest_in}
use Rattle.ev_canvas.specs.Ledger.{HasLedger}
use Rattle.ev_canvas.specs.Loading.{HaveObjects}
use Rattle.ev_canvas.specs.Now.{Now}
use Rattle.ev_canvas.specs.declared.canvas.Setup.{Setup}
use Rattle.ev_canvas.specs.declared.event.Event.{Event}
use Rattle.ev_canvas.specs.declared.drawing.Drawing.{Drawing}

-- its setup, its scene with the states of objects and their serials, what stands of its frames, how many pixels were painted on its
-- buffers, its loads, and the events that nobody took yet
pub record Canvas : Type 0 where
  pub setup : Setup
  pub scene : Kept
  pub frames : Frames
  pub painted : ℕ
  pub loads : Loads
  pub events : List Event

-- what the machine keeps too: all but the setup, the serials, the count of pixels and the events
abbrev pub now_of : Canvas → Now
now_of c = record { scene = board c.scene; frames = c.frames; loads = c.loads }

-- a canvas of 320 by 240 pixels without objects, before the first start and the first load
abbrev pub opened : Setup → Canvas
opened setup = record {
  setup = setup;
  scene = record { w = 320; h = 240; made = 0; states = []; groups = [] ∷ [] };
  frames = fresh;
  painted = 0;
  loads = record { running = []; begun = 0 };
  events = [];
}

-- a refused edit leaves a canvas as it was, but for how many states were made where memory was wanting
pub record IsRefused (old : Canvas) (cause : Refusal) (new : Canvas) : Type 0 where
  pub scene : IsLeft old.scene cause new.scene
  pub alone : new ≡ record old { scene = new.scene }

-- ---- No public clause cites what follows.

-- What is always so of a canvas: the range of its cells, what holds of its frames and buffers, that each preload's object is there, and that
-- a ledger accounts for all that loads gave.
pub record IsCanvas (setup : Setup) (scene : Kept) (drawing : Drawing) (loads : Loads) : Type 0 where
  pub cell_low : 1 ≤ setup.cell
  pub cell_high : setup.cell ≤ 64
  pub frames : IsDrawing setup.buffers drawing
  pub objects : HaveObjects (board scene) loads.running
  pub ledger : HasLedger loads (board scene) (latest_in drawing)
