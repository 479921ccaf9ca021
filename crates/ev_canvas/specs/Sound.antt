-- What holds of each state that the machine reaches.
use Rattle.std.specs.Prelude.{◌≡◌, ◌-◌, false}
use Rattle.ev_canvas.specs.Starts.{newest_updates}
use Rattle.ev_canvas.specs.CanvasFrames.{IsDrawnLast, runs}
use Rattle.ev_canvas.specs.History.{AreStarts, AreComparable}
use Rattle.ev_canvas.specs.Ledger.{HasLedger}
use Rattle.ev_canvas.specs.Turns.{State, starts_of}
use Rattle.ev_canvas.specs.declared.canvas.Setup.{Setup}

-- Each start follows on the one before, all frames have ended and that of the newest start was drawn last. What the next buffer has missed
-- are the updates of the starts since its last use, one for each other buffer. Neighbouring starts can be compared, and a ledger
-- accounts for all that loads gave.
pub record IsSound (setup : Setup) (state : State) : Type 0 where
  pub chain : AreStarts setup.cell (starts_of state)
  pub idle : runs state.now.frames.newest ≡ false
  pub drawn : IsDrawnLast state.now.frames
  pub missed : state.now.frames.missed ≡ newest_updates (setup.buffers - 1) (starts_of state)
  pub comparable : AreComparable (starts_of state)
  pub ledger : HasLedger state.now.loads state.now.scene state.now.frames.newest
