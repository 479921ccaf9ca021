-- The frames of a canvas: what stands of them, and what starts, flushes and looks do.
use Rattle.std.specs.Prelude.{◌≡◌, ℕ, ◌+◌, ◌-◌, ◌==◌, Bool, true, false, List, [], ◌∷◌, ◌++◌, take, Option, Some, None, option_map, Result, Ok, Err, if◌then◌else◌}
use Rattle.ev_argb.specs.Grid.{Grid}
use Rattle.ev_geom.specs.Area.{Area}
use Rattle.ev_port.specs.Causes.{Rose}
use Rattle.ev_port.specs.Frame.{Frame, frame_of}
use Rattle.ev_port.specs.Told.{GrowsBy}
use Rattle.ev_model.specs.Capture.{Capture}
use Rattle.ev_model.specs.declared.refusal.Refusal.{Refusal}
use Rattle.ev_model.specs.declared.refusal.Refusal.TheVariants.{Range, NoMemory}
use Rattle.ev_damage.specs.Places.{HaveOwnIds}
use Rattle.ev_canvas.specs.Starts.{Entry, Latest, Starts, is_running, last_number, has_size_of, repairs, tiles_in}
use Rattle.ev_canvas.specs.Pictures.{IsPicture}
use Rattle.ev_canvas.specs.declared.canvas.Setup.{Setup}
use Rattle.ev_canvas.specs.declared.newest.Drawn.{Drawn}
use Rattle.ev_canvas.specs.declared.newest.End.{End}
use Rattle.ev_canvas.specs.declared.newest.End.TheVariants as end
use Rattle.ev_canvas.specs.declared.look.NoPicture.{NoPicture}
use Rattle.ev_canvas.specs.declared.look.NoPicture.TheVariants as no_picture
use Rattle.ev_canvas.specs.declared.start.Started.{Started}
use Rattle.ev_canvas.specs.declared.start.StartErr.{StartErr}
use Rattle.ev_canvas.specs.declared.start.StartErr.TheVariants as start_err
use Rattle.ev_canvas.specs.declared.flush.Finish.{Finish}
use Rattle.ev_canvas.specs.declared.flush.Finish.TheVariants as finish
use Rattle.ev_canvas.specs.declared.flush.Flushed.{Flushed}
use Rattle.ev_canvas.specs.declared.flush.Flushed.TheVariants as flushed

-- What stands of the frames: the rectangles given since the newest start, the hidden rectangles in force, the newest start, how many
-- of its jobs are drawn while its frame is running, what the buffer that is drawn on next has missed, which are the updates of
-- the starts since its last use, the newest first, and the updates and hidden pixels of the frame drawn last, which was shown or lost.
pub record Frames : Type 0 where
  pub given : List Area
  pub areas : List Area
  pub newest : Option Latest
  pub own : ℕ
  pub missed : List (List Area)
  pub drawn : Drawn

-- the updates and hidden pixels of a start, or none before there is one
abbrev pub drawn_by : Option Latest → Drawn
drawn_by None = record { updates = []; hidden = [] }
drawn_by (Some latest) = record { updates = latest.entry.updates; hidden = latest.entry.hidden }

-- before the first start
abbrev pub fresh : Frames
fresh = record { given = []; areas = []; newest = None; own = 0; missed = []; drawn = drawn_by None }

-- whether the frame of this start is running
abbrev pub runs : Option Latest → Bool
runs None = false
runs (Some latest) = is_running latest.end

-- where no frame is running, that of the newest start was drawn last
abbrev pub IsDrawnLast : Frames → Type 0
IsDrawnLast f = runs f.newest ≡ false → f.drawn ≡ drawn_by f.newest

-- A rectangle is added to a list, or memory is wanting and the list stays. Where there is none, since its numbers leave their
-- ranges, that is told.
abbrev pub AddsRect : Option Area → List Area → Result (Unit {0}) Refusal → List Area → Type 0
AddsRect None old result new = (result ≡ Err Range) × (new ≡ old)
AddsRect (Some area) old (Ok done) new = new ≡ old ++ area ∷ []
AddsRect (Some area) old (Err cause) new = (cause ≡ NoMemory) × (new ≡ old)

-- what the buffer has missed on which a frame of this capture is drawn: nothing where it is a new one, since the size is new
abbrev pub missed_for : Option Latest → Capture → List (List Area) → List (List Area)
missed_for None now missed = []
missed_for (Some before) now missed = if has_size_of before.entry.capture now then missed else []

-- A start that was accepted: it captured this, where ids differ, and is the newest from now on. Its frame draws each tile that holds a
-- pixel of what it or one of the starts updates that its buffer has missed, and that isn't hidden. It is running with no job drawn, and
-- nothing is given since then; the hidden rectangles stay in force, and what was drawn last stays.
pub record Accepts (setup : Setup) (old : Frames) (now : Capture) (new : Frames) : Type 0 where
  pub entry : Entry
  pub starts : Starts setup.cell old.newest now old.given old.areas entry
  pub apart : HaveOwnIds entry.capture.looks
  pub tiles : entry.tiles ≡ tiles_in now (repairs (entry.updates ∷ missed_for old.newest now old.missed) entry.hidden)
  pub stands : new ≡ record old {
    given = [];
    newest = Some (record { entry = entry; end = end.Running });
    own = 0;
    missed = take (setup.buffers - 1) (entry.updates ∷ missed_for old.newest now old.missed);
  }

-- how many tiles the newest frame draws, each in one job
abbrev pub tiles_of : Option Latest → ℕ
tiles_of None = 0
tiles_of (Some latest) = latest.entry.tiles

-- the number of the newest start, and how many tiles its frame draws
abbrev pub started_of : Option Latest → Started
started_of newest = record { n = last_number newest; tiles = tiles_of newest }

-- a start of what is captured: it is refused where a frame is running, and may find no memory
abbrev pub IsStarted : Setup → Frames → Capture → Result Started StartErr → Frames → Type 0
IsStarted setup old now (Ok started) new = (runs old.newest ≡ false) × Accepts setup old now new × (started ≡ started_of new.newest)
IsStarted setup old now (Err start_err.Busy) new = (runs old.newest ≡ true) × (new ≡ old)
IsStarted setup old now (Err start_err.NoMemory) new = (runs old.newest ≡ false) × (new ≡ old)

-- how many jobs of the running frame are left; none where no frame is running
abbrev pub left_of : Frames → ℕ
left_of f = if runs f.newest then tiles_of f.newest - f.own else 0

-- so many more of its jobs are drawn
abbrev pub stepped : Frames → ℕ → Frames
stepped f drawn = record f { own = f.own + drawn }

-- what there is to flush: the frame of the newest start, where it is running and all its jobs are drawn
abbrev pub finishing : ℕ → Option Latest → Finish
finishing own None = finish.Idle
finishing own (Some latest) =
    if is_running latest.end
    then (if own == latest.entry.tiles then finish.Frame latest.entry.number else finish.Pending latest.entry.number own latest.entry.tiles)
    else finish.Idle

abbrev pub finish_of : Frames → Finish
finish_of f = finishing f.own f.newest

-- a frame can be flushed
abbrev pub IsFrame : Finish → Type 0
IsFrame (finish.Frame n) = Unit {0}
IsFrame other = ⊥

-- the newest frame ended like this, and is the one drawn last
abbrev pub ended : Frames → End → Frames
ended f e = record f { newest = option_map (λ (latest : Latest). record latest { end = e }) f.newest; own = 0; drawn = drawn_by f.newest }

abbrev pub end_of : Flushed → End
end_of flushed.Shown = end.Shown
end_of (flushed.Lost before after) = end.Lost

-- the screen has grown by the frame of a start: a picture of it, and its updates
pub record Presents (entry : Entry) (old new : Option (List Frame)) : Type 0 where
  pub picture : Grid
  pub drawn : IsPicture entry picture
  pub grows : GrowsBy old new (frame_of entry.number entry.updates picture ∷ [])

-- what a screen showed, and how often it failed
pub record Seen : Type 0 where
  pub shown : Option (List Frame)
  pub faults : ℕ

-- the frame of a start is shown; or it is lost, and nothing is shown and the screen's count of faults rose
abbrev pub IsFlushed : Entry → Seen → Flushed → Seen → Type 0
IsFlushed entry old flushed.Shown new = Presents entry old.shown new.shown
IsFlushed entry old (flushed.Lost before after) new = GrowsBy old.shown new.shown [] × (before ≡ old.faults) × (after ≡ new.faults) × Rose before after

-- why there is no picture, or none
abbrev pub picture_refusal : Option Latest → Option NoPicture
picture_refusal None = Some no_picture.NoFrame
picture_refusal (Some latest) = if is_running latest.end then Some no_picture.Busy else None

-- a picture of the frame drawn last: the newest start's, which ended
pub record IsPictureOf (f : Frames) (picture : Grid) : Type 0 where
  pub latest : Latest
  pub newest : f.newest ≡ Some latest
  pub ended : is_running latest.end ≡ false
  pub last : f.drawn ≡ drawn_by (Some latest)
  pub drawn : IsPicture latest.entry picture
