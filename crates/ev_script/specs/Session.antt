-- A line that is carried out on a canvas, and the turn of the machine that it takes.
use Rattle.std.specs.Prelude.{◌≡◌, ℕ, ◌+◌, ◌*◌, ◌^◌, ◌<◌, ◌≤◌, false, List, [], ◌++◌, map, reverse, Option, Result}
use Rattle.ev_port.specs.Told.{GrowsBy}
use Rattle.ev_port.specs.Causes.{RoseBy}
use Rattle.ev_port.specs.Frame.{Frame}
use Rattle.ev_port.specs.declared.file.StoredFile.{StoredFile}
use Rattle.ev_model.specs.Answer.{Answer}
use Rattle.ev_model.specs.Text.{text}
use Rattle.ev_model.specs.declared.command.Command.TheVariants as command
use Rattle.ev_lang.specs.declared.line.Line.{Line}
use Rattle.ev_lang.specs.declared.line.Line.TheVariants as says
use Rattle.ev_cmds.specs.Cuts.{most_painted}
use Rattle.ev_canvas.specs.Canvas.{Canvas, now_of}
use Rattle.ev_canvas.specs.History.{Showing, Shows}
use Rattle.ev_canvas.specs.CanvasFrames.{runs}
use Rattle.ev_canvas.specs.Turns.{Setting, State, starts_of}
use Rattle.ev_canvas.specs.Starts.{Latest, last_number}
use Rattle.ev_canvas.specs.declared.canvas.Setup.{Setup}
use Rattle.ev_script.specs.Script.{Step, lost_frames, store_failures}
use Rattle.ev_script.specs.Outside.{Devices, Writes}
use Rattle.ev_script.specs.LineReplies.{told}
use Rattle.ev_script.specs.declared.outcome.Outcome.{Outcome}

-- what a script is played on: a canvas set up so, and a store with these files, where it tells them
abbrev pub setting : Setup → Option (List StoredFile) → Setting
setting setup files = record { setup = setup; files = files }

-- the state for which a canvas stands, by the starts before its newest one
abbrev pub state_of : Canvas → List Latest → State
state_of canvas older = record { now = now_of canvas; older = older }

-- a canvas has begun fewer frames and loads than n, none of them runs, and its events were taken
pub record IsReady (canvas : Canvas) (n : ℕ) : Type 0 where
  pub frames : last_number canvas.frames.newest < n
  pub loads : canvas.loads.begun < n
  pub running : canvas.loads.running ≡ []
  pub events : canvas.events ≡ []
  pub idle : runs canvas.frames.newest ≡ false

-- these and what was shown earlier are all that was shown of the starts
abbrev pub ShowsMore : State → State → List Showing → Type 0
ShowsMore old new showings = (earlier : List Showing) → Shows (starts_of old) earlier → Shows (starts_of new) (showings ++ earlier)

-- the frames of what was shown, the newest last
abbrev pub frames_of : List Showing → List Frame
frames_of showings = map (λ s. s.frame) (reverse showings)

-- Line n takes the state for which the old canvas stands to one for which the new canvas does, with these
-- replies. The screen has grown by what the machine shows, and failed at least once for each lost frame;
-- the store failed at least once for each load that is told as failed there.
pub record TakesTurn (setting : Setting) (n : ℕ) (line : Line) (before after : Devices) (old new : Canvas) (older : List Latest) (replies : List Answer) : Type 0 where
  pub starts : List Latest
  pub step : Step setting (state_of old older) n line (record { replies = replies; after = state_of new starts })
  pub showings : List Showing
  pub shows_more : ShowsMore (state_of old older) (state_of new starts) showings
  pub screen_grows : GrowsBy before.frames after.frames (frames_of showings)
  pub losses : RoseBy (lost_frames replies) before.faults after.faults
  pub failures : RoseBy (store_failures replies) before.store_faults after.store_faults

-- how many pixels may count as painted by a start and its frame: those of new buffers, and those of all its tiles
abbrev pub most_of_frame : ℕ
most_of_frame = 2 ^ 26 + 4096 * most_painted

-- the same of a line, which renders a frame or paints nothing
abbrev pub most_by : Line → ℕ
most_by (says.Command command.Render) = most_of_frame
most_by other = 0

-- From each state for which the old canvas stands, and whatever the line's number, the line takes a turn
-- whose replies are told by the outcome. The canvas is ready for the next line, no more pixels were painted
-- than the line may, and its setup and the store's files are those that they were.
pub record Acts (line : Line) (before after : Devices) (old new : Canvas) (outcome : Outcome) : Type 0 where
  pub turns : (n : ℕ) (older : List Latest) → TakesTurn (setting old.setup before.files) n line before after old new older (told new n outcome)
  pub ready : (n : ℕ) → IsReady old n → IsReady new (n + 1)
  pub painted : new.painted ≤ old.painted + most_by line
  pub setup : new.setup ≡ old.setup
  pub files : after.files ≡ before.files

-- line n was carried out, and what it gave was told: as a whole, or as a front, where the sink failed
pub record CarriesOut {T E : Type 0} (n : ℕ) (line : Line) (log log' : Option (List ℕ)) (before after : Devices) (old new : Canvas) (result : Result T E) : Type 0 where
  pub outcome : Outcome
  pub acts : Acts line before after old new outcome
  pub writes : Writes log log' (text (told new n outcome)) result
