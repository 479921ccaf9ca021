-- A whole script, from the opening state.
use Rattle.std.specs.Prelude.{◌≡◌, ℕ, ◌+◌, List, ◌∷◌, ◌++◌, length, map, Option}
use Rattle.ev_port.specs.Told.{GrowsBy, ShrinksBy, IsAtEnd}
use Rattle.ev_port.specs.Causes.{RoseBy}
use Rattle.ev_model.specs.Answer.{Answer}
use Rattle.ev_model.specs.Text.{text}
use Rattle.ev_lang.specs.declared.line.Line.{Line}
use Rattle.ev_lang.specs.Lines.{lines, line_of}
use Rattle.ev_canvas.specs.History.{Showing, Shows, AreReported}
use Rattle.ev_canvas.specs.Canvas.{Canvas, now_of}
use Rattle.ev_canvas.specs.Turns.{Setting, State, Turn, opening, starts_of}
use Rattle.ev_script.specs.Script.{Step, Plays, lost_frames, store_failures}
use Rattle.ev_script.specs.Outside.{Devices, Outside}
use Rattle.ev_script.specs.Session.{frames_of}

-- what the lines of a script say
abbrev pub script_lines : List ℕ → List Line
script_lines script = map line_of (lines script)

-- What the devices show of the starts and the replies up to a state. The screen has grown by the frames that were shown: each
-- is a full redraw of the scene at its start, outside of what is hidden, and reports in what it differs from the one before. The
-- screen failed at least once for each lost frame, and the store at least once for each load that is told as failed there.
pub record IsSeen (state : State) (replies : List Answer) (before after : Devices) : Type 0 where
  pub showings : List Showing
  pub shows : Shows (starts_of state) showings
  pub reported : AreReported showings
  pub screen_grows : GrowsBy before.frames after.frames (frames_of showings)
  pub losses : RoseBy (lost_frames replies) before.faults after.faults
  pub failures : RoseBy (store_failures replies) before.store_faults after.store_faults

-- the machine plays all lines of the script, and the log has grown by the bytes of its replies
pub record IsPlayed (setting : Setting) (script : List ℕ) (before after : Outside) : Type 0 where
  pub replies : List Answer
  pub final : State
  pub plays : Plays setting opening 1 (script_lines script) replies final
  pub log_grows : GrowsBy before.log after.log (text replies)
  pub seen : IsSeen final replies before.devices after.devices

-- the same on a canvas, which then keeps what the machine does
pub record IsPlayedOn (canvas : Canvas) (setting : Setting) (script : List ℕ) (before after : Outside) : Type 0 where
  pub played : IsPlayed setting script before after
  pub stands : now_of canvas ≡ played.final.now

-- The log failed within the replies to a line. The lines before it were played and answered whole; of the replies to this one,
-- which is carried out, only a front was written.
pub record IsStopped (setting : Setting) (script : List ℕ) (before after : Outside) : Type 0 where
  pub answered : List Line
  pub last : Line
  pub left : List Line
  pub split : script_lines script ≡ answered ++ last ∷ left
  pub replies : List Answer
  pub state : State
  pub plays : Plays setting opening 1 answered replies state
  pub turn : Turn
  pub step : Step setting state (length answered + 1) last turn
  pub written : List ℕ
  pub missing : List ℕ
  pub cut : text turn.replies ≡ written ++ missing
  pub log_grows : GrowsBy before.log after.log (text replies ++ written)
  pub seen : IsSeen turn.after (replies ++ turn.replies) before.devices after.devices

-- what the source had left was a script, all of which was read
pub record IsRead (left left' : Option (List ℕ)) (script : List ℕ) : Type 0 where
  pub read : ShrinksBy left left' script
  pub ended : IsAtEnd left'

-- a script was read, and this is so of it
pub record OfScript (Holds : List ℕ → Outside → Outside → Type 0) (left left' : Option (List ℕ)) (before after : Outside) : Type 0 where
  pub script : List ℕ
  pub is_read : IsRead left left' script
  pub holds : Holds script before after
