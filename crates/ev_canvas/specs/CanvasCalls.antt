-- The calls of a canvas: what each may answer and leave. Contracts of `Canvas` and steps of the machine cite them.
use Rattle.std.specs.Prelude.{◌≡◌, ℕ, ℤ, Bool, true, min, List, [], Option, is_some, Result}
use Rattle.ev_geom.specs.Area.{Area, limited}
use Rattle.ev_model.specs.Capture.{capture_of}
use Rattle.ev_model.specs.declared.command.Edit.{Edit}
use Rattle.ev_model.specs.declared.refusal.Refusal.{Refusal}
use Rattle.ev_preload.specs.Job.{Job}
use Rattle.ev_preload.specs.Loads.{after_begin, after_hold, after_collect, collected}
use Rattle.ev_preload.specs.declared.end.LoadEnd.{LoadEnd}
use Rattle.ev_scene.specs.Board.{named, stage_of}
use Rattle.ev_canvas.specs.CanvasFrames.{AddsRect, IsStarted, runs, left_of, stepped, ended, end_of}
use Rattle.ev_canvas.specs.Loading.{EditsUnless, Collects, is_waiting, kept, gone, asked, stopped, after_stop}
use Rattle.ev_canvas.specs.Now.{Now}
use Rattle.ev_canvas.specs.declared.canvas.Setup.{Setup}
use Rattle.ev_canvas.specs.declared.event.Event.{Event}
use Rattle.ev_canvas.specs.declared.flush.Flushed.{Flushed}
use Rattle.ev_canvas.specs.declared.start.Started.{Started}
use Rattle.ev_canvas.specs.declared.start.StartErr.{StartErr}

-- An edit: `file` and `font` are refused as loading where a preload for the object runs. The preloads of objects that are gone
-- are cancelled, each with an event.
pub record MayEdit (old : Now) (edit : Edit) (result : Result (Unit {0}) Refusal) (new : Now) (told : List Event) : Type 0 where
  pub scene : EditsUnless (is_waiting old.scene old.loads edit) old.scene edit result new.scene
  pub frames : new.frames ≡ old.frames
  pub loads : new.loads ≡ record old.loads { running = kept new.scene old.loads.running }
  pub events : told ≡ gone new.scene old.loads.running

-- the rectangle of these numbers, where they keep their ranges
abbrev pub area_of : ℤ → ℤ → ℤ → ℤ → Option Area
area_of x y w h = limited (record { x = x; y = y; w = w; h = h })

-- a rectangle is given, whose pixels the next start counts as touched
pub record MayDamage (old : Now) (area : Option Area) (result : Result (Unit {0}) Refusal) (new : Now) : Type 0 where
  pub adds : AddsRect area old.frames.given result new.frames.given
  pub alone : new ≡ record old { frames = record old.frames { given = new.frames.given } }

-- a rectangle is hidden from all further starts
pub record MayHide (old : Now) (area : Option Area) (result : Result (Unit {0}) Refusal) (new : Now) : Type 0 where
  pub adds : AddsRect area old.frames.areas result new.frames.areas
  pub alone : new ≡ record old { frames = record old.frames { areas = new.frames.areas } }

-- nothing is hidden any more from further starts
abbrev pub cleared : Now → Now
cleared old = record old { frames = record old.frames { areas = [] } }

-- a frame of the scene is started, on a canvas that is set up so
pub record MayStart (setup : Setup) (old : Now) (result : Result Started StartErr) (new : Now) : Type 0 where
  pub starts : IsStarted setup old.frames (capture_of (stage_of old.scene)) result new.frames
  pub alone : new ≡ record old { frames = new.frames }

-- so many jobs of the running frame are drawn, or as many as are left
pub record MayStep (old : Now) (most result : ℕ) (new : Now) : Type 0 where
  pub count : result ≡ min most (left_of old.frames)
  pub draws : new ≡ record old { frames = stepped old.frames result }

-- the running frame is shown or lost
pub record MayFlush (old : Now) (result : Flushed) (new : Now) : Type 0 where
  pub running : runs old.frames.newest ≡ true
  pub ends : new ≡ record old { frames = ended old.frames (end_of result) }

-- a preload begins for the object of a name, or is refused
pub record MayPreload (old : Now) (name : List ℕ) (result : Result Job Refusal) (new : Now) : Type 0 where
  pub answer : result ≡ asked old.loads (named old.scene.objects name)
  pub begins : new ≡ record old { loads = after_begin old.loads result }

-- the preload for the object of a name is cancelled, or that is refused
pub record MayCancel (old : Now) (name : List ℕ) (result : Result Job Refusal) (new : Now) : Type 0 where
  pub answer : result ≡ stopped old.loads (named old.scene.objects name)
  pub ends : new ≡ record old { loads = after_stop old.loads result }

-- an end is held for the preload of a number
abbrev pub held : Now → ℕ → LoadEnd → Now
held old number end = record old { loads = after_hold old.loads number end }

-- the end that is held for a number is taken, and makes its event; without one nothing changes
pub record MayCollect (old : Now) (number : ℕ) (result : Bool) (new : Now) (events : List Event) : Type 0 where
  pub answer : result ≡ is_some (collected old.loads.running number)
  pub scene : Collects (collected old.loads.running number) old.scene new.scene events
  pub frames : new.frames ≡ old.frames
  pub loads : new.loads ≡ after_collect old.loads number
