-- Frames that a render starts and flushes.
use Rattle.std.proofs.Common.{◌≡◌, ℕ, ◌+◌, ◌-◌, ◌*◌, ◌^◌, ◌<◌, ◌≤◌, ◌==◌, min, if◌then◌else◌, arith, Bool, true, false, List, [], ◌∷◌, ◌++◌, length, take, get_or, Option, Some, IfSome, Ok, Err, refl, ap, ap₂, subst, sym, ◌∙◌, length-append}
use Rattle.std.specs.List.{range_with_len, flat_map}
use Rattle.std.proofs.lemmas.Bool.Decides.{nat_tests}
use Rattle.std.proofs.lemmas.List.{length-take-le}
use Rattle.std.proofs.lemmas.List.Concat.{get_or-flat_map}
use Rattle.std.proofs.lemmas.List.FromFn.{get_or-map-range_with_len, length-map-range_with_len, get_or-range_with_len, length-range_with_len}
use Rattle.ev_argb.specs.Argb.{clear}
use Rattle.ev_argb.specs.Grid.{Grid, row_of, pixel_at}
use Rattle.ev_geom.specs.Area.{Area}
use Rattle.ev_port.specs.Causes.{RoseBy, rose_by_none}
use Rattle.ev_port.specs.Frame.{frame_of}
use Rattle.ev_port.specs.Told.{GrowsBy}
use Rattle.ev_port.specs.declared.file.StoredFile.{StoredFile}
use Rattle.ev_model.specs.declared.command.Command.TheVariants as command
use Rattle.ev_lang.specs.declared.line.Line.TheVariants as line
use Rattle.ev_canvas.specs.Pictures.{IsPicture}
use Rattle.ev_canvas.specs.CanvasCalls.{MayStart, MayStep, MayFlush}
use Rattle.ev_canvas.specs.Canvas.{Canvas, now_of}
use Rattle.ev_canvas.specs.History.{Showing, IsShowing, Shows, frame_pixel}
use Rattle.ev_canvas.specs.CanvasFrames.{Frames, Seen, IsFlushed, IsFrame, ended, end_of, finish_of, finishing, left_of, runs, tiles_of}
use Rattle.ev_canvas.specs.Turns.{starts_from, starts_of, start_refusal, told_flush, told_frame}
use Rattle.ev_canvas.specs.Now.{Now}
use Rattle.ev_canvas.specs.Starts.{Entry, Latest, is_running, last_number}
use Rattle.ev_cmds.specs.Cuts.{most_painted}
use Rattle.ev_canvas.specs.declared.canvas.Setup.{Setup}
use Rattle.ev_canvas.specs.declared.flush.Finish.TheVariants as finish
use Rattle.ev_canvas.specs.declared.flush.Flushed.{Flushed}
use Rattle.ev_canvas.specs.declared.flush.Flushed.TheVariants as flushes
use Rattle.ev_canvas.specs.declared.newest.End.TheVariants as end
use Rattle.ev_canvas.specs.declared.start.Started.{Started}
use Rattle.ev_canvas.specs.declared.start.StartErr.{StartErr}
use Rattle.ev_script.specs.Script.{lost_frames, store_failures}
use Rattle.ev_script.specs.Outside.{Devices, devices}
use Rattle.ev_script.specs.Session.{Acts, state_of, frames_of}
use Rattle.ev_script.specs.declared.outcome.Outcome.TheVariants as outcome
use Rattle.ev_script.proofs.Turns.{refused_acts}

-- as many pixels as these rows have
rows_length : (grid : Grid) (ys : List ℕ) → length (flat_map (row_of grid) ys) ≡ length ys * grid.w
rows_length grid [] = omega arith
rows_length grid (y ∷ ys) = omega (arith, length-append (row_of grid y) (flat_map (row_of grid) ys), length-map-range_with_len (λ x. pixel_at grid x y) 0 grid.w, rows_length grid ys)

-- the pixels of a picture, as a frame has them
frame_has : (n : ℕ) (updates : List Area) (grid : Grid) (x y : ℕ) → x < grid.w → y < grid.h → frame_pixel (frame_of n updates grid) x y ≡ pixel_at grid x y
frame_has n updates grid x y column row =
    let ys = range_with_len 0 grid.h in
    let high : length ys ≡ grid.h = length-range_with_len 0 grid.h in
    let here : get_or ys y y ≡ y = get_or-range_with_len 0 grid.h y y row ∙ omega arith in
    let wide : length (row_of grid (get_or ys y y)) ≡ grid.w = length-map-range_with_len (λ i. pixel_at grid i (get_or ys y y)) 0 grid.w in
    let before : length (flat_map (row_of grid) (take y ys)) ≡ y * grid.w = rows_length grid (take y ys) ∙ ap (λ k. k * grid.w) (length-take-le y ys (omega (arith, row, high))) in
    sym (ap (λ k. get_or (flat_map (row_of grid) ys) (k + x) clear) before)
    ∙ get_or-flat_map (row_of grid) ys y x y clear (omega (arith, row, high)) (omega (arith, column, wide))
    ∙ ap (λ j. get_or (row_of grid j) x clear) here
    ∙ get_or-map-range_with_len (λ i. pixel_at grid i y) 0 grid.w x x clear column (omega arith)

-- a picture of a start's frame is a showing of it
showing_of : (entry : Entry) (grid : Grid) → IsPicture entry grid → IsShowing entry (record { frame = frame_of entry.number entry.updates grid; hidden = entry.hidden })
showing_of entry grid drawn_so = record {
  number = refl;
  width = drawn_so.width;
  height = drawn_so.height;
  updates = refl;
  hidden = refl;
  size = rows_length grid (range_with_len 0 grid.h) ∙ ap₂ ◌*◌ (length-range_with_len 0 grid.h ∙ drawn_so.height) drawn_so.width;
  pixels = λ x y column row unhidden. frame_has entry.number entry.updates grid x y (omega (arith, column, drawn_so.width)) (omega (arith, row, drawn_so.height)) ∙ drawn_so.pixels x y column row unhidden;
}

-- a start, and steps that draw as many of its jobs as it has, leave a frame to be flushed
pub all_drawn : (setup : Setup) (old mid drawn : Now) (started : Started) (most count : ℕ) → started.tiles ≤ most → MayStart setup old (Ok started) mid → MayStep mid most count drawn → IsFrame (finish_of drawn.frames)
all_drawn setup old mid drawn started most count enough start step =
    let accepts = start.starts.1 in
    let entry = accepts.entry in
    let stands : mid.frames.newest ≡ Some (record { entry = entry; end = end.Running }) = ap (λ (f : Frames). f.newest) accepts.stands in
    let none : mid.frames.own ≡ 0 = ap (λ (f : Frames). f.own) accepts.stands in
    let tiles : started.tiles ≡ entry.tiles = ap (λ (s : Started). s.tiles) start.starts.2 ∙ ap tiles_of stands in
    let left : left_of mid.frames ≡ entry.tiles = ap (λ (l : Option Latest). if runs l then tiles_of l - mid.frames.own else 0) stands ∙ ap (λ (n : ℕ). entry.tiles - n) none ∙ omega arith in
    let all : count ≡ entry.tiles = step.count ∙ ap (min most) left ∙ omega (arith, enough, tiles) in
    let own : drawn.frames.own ≡ entry.tiles = ap (λ (now : Now). now.frames.own) step.draws ∙ omega (arith, none, all) in
    let newest : drawn.frames.newest ≡ Some (record { entry = entry; end = end.Running }) = ap (λ (now : Now). now.frames.newest) step.draws ∙ stands in
    let same : (drawn.frames.own == entry.tiles) ≡ true = grind (arith, nat_tests, own) in
    subst (λ (l : Option Latest). IsFrame (finishing drawn.frames.own l)) (sym newest)
    (subst (λ (t : Bool). IsFrame (if t then finish.Frame entry.number else finish.Pending entry.number drawn.frames.own entry.tiles)) (sym same) tt)

-- a start that was accepted, steps of its frame, and its flush
pub record Rendered (old mid drawn new : Canvas) (started : Started) (count : ℕ) (flushed : Flushed) (seen seen' : Seen) : Type 0 where
  pub start : MayStart old.setup (now_of old) (Ok started) (now_of mid)
  pub start_alone : mid ≡ record old { frames = mid.frames; painted = mid.painted }
  pub start_painted : mid.painted ≤ old.painted + 2 ^ 26
  pub most : ℕ
  pub step : MayStep (now_of mid) most count (now_of drawn)
  pub step_alone : drawn ≡ record mid { frames = drawn.frames }
  pub flush : MayFlush (now_of drawn) flushed (now_of new)
  pub flush_alone : new ≡ record drawn { frames = new.frames; painted = new.painted }
  pub flush_painted : new.painted ≤ drawn.painted + 4096 * most_painted
  pub shows : IfSome drawn.frames.newest (λ latest. IsFlushed latest.entry seen flushed seen')
  pub later : seen.faults ≤ seen'.faults

-- what was started
abbrev entry_of : {old mid drawn new : Canvas} {started : Started} {count : ℕ} {flushed : Flushed} {seen seen' : Seen} → Rendered old mid drawn new started count flushed seen seen' → Entry
entry_of rendered = rendered.start.starts.1.entry

module _ (old mid drawn new : Canvas) (started : Started) (count : ℕ) (flushed : Flushed) (seen seen' : Seen) (rendered : Rendered old mid drawn new started count flushed seen seen') where
  -- the flush is one of what was started
  flush_of_start : MayFlush (now_of mid) flushed (now_of new)
  flush_of_start =
      let runs_on : runs drawn.frames.newest ≡ runs mid.frames.newest = ap (λ (now : Now). runs now.frames.newest) rendered.step.draws in
      record {
        running = sym runs_on ∙ rendered.flush.running;
        ends = rendered.flush.ends ∙ ap (λ (now : Now). record now { frames = ended now.frames (end_of flushed) }) rendered.step.draws;
      }

  -- the newest start then, which is the one that was flushed
  newest_then : new.frames.newest ≡ Some (record { entry = entry_of rendered; end = end_of flushed })
  newest_then = ap (λ (now : Now). now.frames.newest) flush_of_start.ends ∙ ap (λ (f : Frames). (ended f (end_of flushed)).newest) rendered.start.starts.1.stands

  -- what the screen was given
  flush_of : IsFlushed (entry_of rendered) seen flushed seen'
  flush_of =
      let stood : drawn.frames.newest ≡ mid.frames.newest = ap (λ (now : Now). now.frames.newest) rendered.step.draws in
      subst (λ (f : Frames). IfSome f.newest (λ latest. IsFlushed latest.entry seen flushed seen')) rendered.start.starts.1.stands
      (subst (λ (l : Option Latest). IfSome l (λ latest. IsFlushed latest.entry seen flushed seen')) stood rendered.shows)

  -- nothing else changed
  all_alone : new ≡ record old { frames = new.frames; painted = new.painted }
  all_alone = rendered.flush_alone ∙ ap (λ (c : Canvas). record c { frames = new.frames; painted = new.painted }) rendered.step_alone
      ∙ ap (λ (c : Canvas). record c { frames = new.frames; painted = new.painted }) rendered.start_alone

-- what a flush of the frame of a start shows, and which failures are told of it
record Gives (entry : Entry) (flushed : Flushed) (seen seen' : Seen) : Type 0 where
  showings : List Showing
  shows_more : (older : List Latest) (earlier : List Showing) → Shows older earlier → Shows (record { entry = entry; end = end_of flushed } ∷ older) (showings ++ earlier)
  grows : GrowsBy seen.shown seen'.shown (frames_of showings)
  losses : RoseBy (lost_frames (told_frame flushed entry ∷ [])) seen.faults seen'.faults
  failures : store_failures (told_frame flushed entry ∷ []) ≡ 0

gives : (entry : Entry) (flushed : Flushed) (seen seen' : Seen) → IsFlushed entry seen flushed seen' → seen.faults ≤ seen'.faults → Gives entry flushed seen seen'
gives entry flushes.Shown seen seen' presents later =
    let showing : Showing = record { frame = frame_of entry.number entry.updates presents.picture; hidden = entry.hidden } in
    record {
      showings = showing ∷ [];
      shows_more = λ older earlier shows. (showing, earlier, shows, showing_of entry presents.picture presents.drawn, refl);
      grows = presents.grows;
      losses = rose_by_none seen.faults seen'.faults later;
      failures = refl;
    }
gives entry (flushes.Lost before after) seen seen' lost later = record {
  showings = [];
  shows_more = λ older earlier shows. shows;
  grows = lost.0;
  losses = subst (λ k. RoseBy 1 k seen'.faults) lost.1 (subst (λ k. RoseBy 1 before k) lost.2 lost.3);
  failures = refl;
}

-- a frame that was started, drawn and flushed
pub render_acts : (files : Option (List StoredFile)) (store_faults : ℕ) (seen seen' : Seen) (old mid drawn new : Canvas) (started : Started) (count : ℕ) (flushed : Flushed) (rendered : Rendered old mid drawn new started count flushed seen seen') → Acts (line.Command command.Render) (devices seen.shown seen.faults files store_faults) (devices seen'.shown seen'.faults files store_faults) old new (outcome.Flushed flushed)
render_acts files store_faults seen seen' old mid drawn new started count flushed rendered =
    let newest = newest_then old mid drawn new started count flushed seen seen' rendered in
    let alone = all_alone old mid drawn new started count flushed seen seen' rendered in
    let number : last_number new.frames.newest ≡ last_number old.frames.newest + 1 = ap last_number newest ∙ rendered.start.starts.1.starts.number in
    let given = gives (entry_of rendered) flushed seen seen' (flush_of old mid drawn new started count flushed seen seen' rendered) rendered.later in
    let told : told_flush flushed new.frames.newest ≡ told_frame flushed (entry_of rendered) ∷ [] = ap (told_flush flushed) newest in
    let stayed : drawn.painted ≡ mid.painted = ap (λ (c : Canvas). c.painted) rendered.step_alone in
    let flush = flush_of_start old mid drawn new started count flushed seen seen' rendered in
    record {
      turns = λ n older. record {
        starts = starts_of (state_of old older);
        step = record { answer = Ok started; begun = now_of mid; start = rendered.start; ends = (flushed, flush, refl, refl) };
        showings = given.showings;
        shows_more = λ earlier shows. subst (λ (o : Option Latest). Shows (starts_from o (starts_of (state_of old older))) (given.showings ++ earlier)) (sym newest) (given.shows_more (starts_of (state_of old older)) earlier shows);
        screen_grows = given.grows;
        losses = subst (λ rs. RoseBy (lost_frames rs) seen.faults seen'.faults) (sym told) given.losses;
        failures = subst (λ rs. RoseBy (store_failures rs) store_faults store_faults) (sym told) (subst (λ k. RoseBy k store_faults store_faults) (sym given.failures) (rose_by_none store_faults store_faults (omega arith)));
      };
      ready = λ n ready. record {
        frames = omega (arith, number, ready.frames);
        loads = omega (arith, ap (λ c. c.loads.begun) alone, ready.loads);
        running = ap (λ c. c.loads.running) alone ∙ ready.running;
        events = ap (λ c. c.events) alone ∙ ready.events;
        idle = ap runs newest ∙ has_ended flushed;
      };
      painted = let one = rendered.start_painted in let other = rendered.flush_painted in omega (arith, one, other, stayed);
      setup = ap (λ c. c.setup) alone;
      files = refl;
    }
  where
    has_ended : (flushed : Flushed) → is_running (end_of flushed) ≡ false
    has_ended flushes.Shown = refl
    has_ended (flushes.Lost before after) = refl

-- a start that was refused
pub unstarted_acts : (d : Devices) (cause : StartErr) (old new : Canvas) → MayStart old.setup (now_of old) (Err cause) (now_of new) → new ≡ old → Acts (line.Command command.Render) d d old new (outcome.Done (Err (start_refusal cause)))
unstarted_acts d cause old new start same =
    refused_acts (line.Command command.Render) d old new (start_refusal cause) same (λ n older. record { answer = Err cause; begun = now_of new; start = start; ends = refl })
