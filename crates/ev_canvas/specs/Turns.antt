-- The machine that commands drive: its state, and what one step tells and leaves.
use Rattle.std.specs.Prelude.{◌≡◌, ℕ, pos, Bool, List, [], ◌∷◌, ◌++◌, map, Option, Some, None, Result, Ok, Err, if◌then◌else◌}
use Rattle.std.specs.List.{range_with_len, flat_map}
use Rattle.ev_argb.specs.Argb.{Argb}
use Rattle.ev_geom.specs.Bands.{has_pixel}
use Rattle.ev_port.specs.declared.file.StoredFile.{StoredFile}
use Rattle.ev_model.specs.Answer.{Answer, Shown, Lost, DumpRow, Refused}
use Rattle.ev_model.specs.Paint.{paint}
use Rattle.ev_model.specs.declared.refusal.Refusal.{Refusal}
use Rattle.ev_model.specs.declared.refusal.Refusal.TheVariants.{Busy, NoFrame, NoMemory}
use Rattle.ev_preload.specs.Ends.{EndsBy, IsOfKind}
use Rattle.ev_preload.specs.Job.{Job}
use Rattle.ev_preload.specs.declared.end.LoadEnd.{LoadEnd}
use Rattle.ev_canvas.specs.Starts.{Entry, Latest, is_running}
use Rattle.ev_canvas.specs.CanvasFrames.{fresh}
use Rattle.ev_canvas.specs.Events.{told_event}
use Rattle.ev_canvas.specs.Now.{Now}
use Rattle.ev_canvas.specs.CanvasCalls.{MayStart, MayFlush, MayPreload, MayCollect, held}
use Rattle.ev_canvas.specs.Totals.{totals}
use Rattle.ev_canvas.specs.declared.canvas.Setup.{Setup}
use Rattle.ev_canvas.specs.declared.event.Event.{Event}
use Rattle.ev_canvas.specs.declared.flush.Flushed.{Flushed}
use Rattle.ev_canvas.specs.declared.flush.Flushed.TheVariants as flushed
use Rattle.ev_canvas.specs.declared.look.NoPicture.{NoPicture}
use Rattle.ev_canvas.specs.declared.look.NoPicture.TheVariants as no_picture
use Rattle.ev_canvas.specs.declared.start.Started.{Started}
use Rattle.ev_canvas.specs.declared.start.StartErr.{StartErr}
use Rattle.ev_canvas.specs.declared.start.StartErr.TheVariants as start_err

-- what a script is played on: a canvas set up so, and a store with these files, where it tells them
pub record Setting : Type 0 where
  pub setup : Setup
  pub files : Option (List StoredFile)

-- what the machine keeps: what a canvas keeps now, and the starts before the newest one, the newest of them first
pub record State : Type 0 where
  pub now : Now
  pub older : List Latest

-- the newest start before some older ones; before it there are none
abbrev pub starts_from : Option Latest → List Latest → List Latest
starts_from None older = []
starts_from (Some latest) older = latest ∷ older

-- all starts, the newest first
abbrev pub starts_of : State → List Latest
starts_of state = starts_from state.now.frames.newest state.older

-- before the first line: a canvas of 320 by 240 pixels without objects, and no starts
abbrev pub opening : State
opening = record {
  now = record {
    scene = record { w = 320; h = 240; objects = []; groups = [] ∷ [] };
    frames = fresh;
    loads = record { running = []; begun = 0 };
  };
  older = [];
}

-- what a command did: its replies, and the state after it
pub record Turn : Type 0 where
  pub replies : List Answer
  pub after : State

-- the state stays
abbrev pub stays : State → List Answer → Turn
stays old replies = record { replies = replies; after = old }

-- a call of the canvas: one of its answers is told, and what it may leave with it stands. No start is made
pub record Does {R : Type 0} (May : R → Now → Type 0) (told : R → List Answer) (old : State) (turn : Turn) : Type 0 where
  pub result : R
  pub call : May result turn.after.now
  pub tells : turn.replies ≡ told result
  pub older : turn.after.older ≡ old.older

-- ---- what is told of answers, at line n

-- an accepted call has no reply
abbrev pub told_result : ℕ → Result (Unit {0}) Refusal → List Answer
told_result n (Ok done) = []
told_result n (Err cause) = Refused cause n ∷ []

-- what an edit answers, and the events that it makes
pub record Edited : Type 0 where
  pub result : Result (Unit {0}) Refusal
  pub events : List Event

abbrev pub told_edit : ℕ → Edited → List Answer
told_edit n edited = told_result n edited.result ++ map told_event edited.events

-- the refusal of a start
abbrev pub start_refusal : StartErr → Refusal
start_refusal start_err.Busy = Busy
start_refusal start_err.NoMemory = NoMemory

-- what a flush tells of the frame of a start
abbrev pub told_frame : Flushed → Entry → Answer
told_frame flushed.Shown entry = Shown entry.number entry.capture.w entry.capture.h entry.updates
told_frame (flushed.Lost before after) entry = Lost entry.number

-- the same of the newest start
abbrev pub told_flush : Flushed → Option Latest → List Answer
told_flush flushed None = []
told_flush flushed (Some latest) = told_frame flushed latest.entry ∷ []

-- ---- renders

-- what follows on a start that a render made, or that was refused and changed nothing
abbrev pub EndsRender : State → ℕ → Result Started StartErr → Now → Turn → Type 0
EndsRender old n (Ok started) begun turn = (flushed : Flushed) × MayFlush begun flushed turn.after.now
    × (turn.replies ≡ told_flush flushed turn.after.now.frames.newest) × (turn.after.older ≡ starts_of old)
EndsRender old n (Err cause) begun turn = turn ≡ stays old (Refused (start_refusal cause) n ∷ [])

-- a start, and a flush of its frame
pub record Renders (setting : Setting) (old : State) (n : ℕ) (turn : Turn) : Type 0 where
  pub answer : Result Started StartErr
  pub begun : Now
  pub start : MayStart setting.setup old.now answer begun
  pub ends : EndsRender old n answer begun turn

-- ---- loads

-- a load that began: an end that the files allow is held and collected, and what that makes is told
pub record EndsLoad (files : Option (List StoredFile)) (old : State) (job : Job) (begun : Now) (turn : Turn) : Type 0 where
  pub end : LoadEnd
  pub by_files : EndsBy files job.key job.kind end
  pub of_kind : IsOfKind job.kind end
  pub taken : Bool
  pub events : List Event
  pub collects : MayCollect (held begun job.number end) job.number taken turn.after.now events
  pub tells : turn.replies ≡ map told_event events
  pub older : turn.after.older ≡ old.older

-- what follows on a preload that a load made, or that was refused and changed nothing
abbrev pub LoadsBy : Option (List StoredFile) → State → ℕ → Result Job Refusal → Now → Turn → Type 0
LoadsBy files old n (Ok job) begun turn = EndsLoad files old job begun turn
LoadsBy files old n (Err cause) begun turn = turn ≡ stays old (Refused cause n ∷ [])

-- a preload for the object of a name, and its end
pub record LoadsFile (setting : Setting) (old : State) (n : ℕ) (name : List ℕ) (turn : Turn) : Type 0 where
  pub answer : Result Job Refusal
  pub begun : Now
  pub preload : MayPreload old.now name answer begun
  pub ends : LoadsBy setting.files old n answer begun turn

-- ---- looks

-- the pixel of a start's frame at x, y, where it wasn't hidden
abbrev pub place : Entry → ℕ → ℕ → Option Argb
place entry x y = if has_pixel entry.hidden (pos x) (pos y) then None else Some (paint entry.capture x y)

-- row y of it, from the left
abbrev pub place_row : Entry → ℕ → List (Option Argb)
place_row entry y = map (λ x. place entry x y) (range_with_len 0 entry.capture.w)

-- its rows, from the top
abbrev pub rows : Entry → List Answer
rows entry = map (λ y. DumpRow (place_row entry y)) (range_with_len 0 entry.capture.h)

-- its totals, as one reply
abbrev pub sums : Entry → List Answer
sums entry = totals (flat_map (place_row entry) (range_with_len 0 entry.capture.h)) ∷ []

-- the refusal of a command that asks for a picture where there is none
abbrev pub picture_cause : NoPicture → Refusal
picture_cause no_picture.Busy = Busy
picture_cause no_picture.NoFrame = NoFrame

-- what a command of line n prints of the newest start: it is refused where there is none, and while its frame is running
abbrev pub printed : (Entry → List Answer) → ℕ → Option Latest → List Answer
printed print n None = Refused NoFrame n ∷ []
printed print n (Some latest) = if is_running latest.end then Refused Busy n ∷ [] else print latest.entry
