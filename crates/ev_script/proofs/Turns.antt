-- Turns of the machine, from what was done on a canvas.
use Rattle.std.proofs.Common.{◌≡◌, ◌⊎◌, inl, inr, ℕ, arith, ℤ, Bool, true, false, cond, List, [], ◌∷◌, ◌++◌, map, Option, Some, None, Result, Ok, Err, refl, ap, subst, sym, ◌∙◌}
use Rattle.std.proofs.lemmas.List.{append-nil}
use Rattle.ev_port.specs.Told.{grows_by_none}
use Rattle.ev_port.specs.Causes.{RoseBy, rose_by_none}
use Rattle.ev_model.specs.Answer.{Answer, Refused}
use Rattle.ev_model.specs.declared.command.Command.{Command}
use Rattle.ev_model.specs.declared.command.Command.TheVariants as command
use Rattle.ev_model.specs.declared.command.Edit.{Edit}
use Rattle.ev_model.specs.declared.refusal.BadLine.TheVariants as bad
use Rattle.ev_model.specs.declared.refusal.Refusal.{Refusal}
use Rattle.ev_model.specs.declared.refusal.Refusal.TheVariants.{Busy}
use Rattle.ev_lang.specs.declared.line.Line.{Line}
use Rattle.ev_lang.specs.declared.line.Line.TheVariants as line
use Rattle.ev_canvas.specs.CanvasCalls.{MayEdit}
use Rattle.ev_canvas.specs.Canvas.{Canvas, now_of}
use Rattle.ev_canvas.specs.History.{Shows}
use Rattle.ev_canvas.specs.Commands.{unbuilt}
use Rattle.ev_canvas.specs.Events.{told_event}
use Rattle.ev_canvas.specs.CanvasFrames.{runs}
use Rattle.ev_canvas.specs.Loading.{kept, gone}
use Rattle.ev_canvas.specs.Turns.{Setting, stays, starts_from, told_result, printed}
use Rattle.ev_canvas.specs.Starts.{Entry, Latest, is_running, last_number}
use Rattle.ev_script.specs.Script.{Step, lost_frames, store_failures}
use Rattle.ev_script.specs.Outside.{Devices}
use Rattle.ev_script.specs.Session.{Acts, setting, state_of}
use Rattle.ev_script.specs.LineReplies.{told}
use Rattle.ev_script.specs.declared.outcome.Outcome.{Outcome}
use Rattle.ev_script.specs.declared.outcome.Outcome.TheVariants as outcome

-- none of these replies tells of a failure
pub record AreQuiet (replies : List Answer) : Type 0 where
  pub losses : lost_frames replies ≡ 0
  pub failures : store_failures replies ≡ 0

-- a line that was carried out tells nothing, and a refusal of no failure
pub done_quietly : (n : ℕ) (result : Result (Unit {0}) Refusal) → AreQuiet (told_result n result)
done_quietly n (Ok done) = record { losses = refl; failures = refl }
done_quietly n (Err cause) = record { losses = refl; failures = refl }

-- nor does what is printed of a start, if that is so of all starts
pub printed_quietly : (print : Entry → List Answer) → ((entry : Entry) → AreQuiet (print entry)) → (n : ℕ) (newest : Option Latest) → AreQuiet (printed print n newest)
printed_quietly print quiet n None = record { losses = refl; failures = refl }
printed_quietly print quiet n (Some latest) = by (is_running latest.end)
  where
    by : (b : Bool) → AreQuiet (cond b (Refused Busy n ∷ []) (print latest.entry))
    by true = record { losses = refl; failures = refl }
    by false = quiet latest.entry

-- what a line keeps that starts no frame and begins no load
pub record Keeps (old new : Canvas) : Type 0 where
  pub setup : new.setup ≡ old.setup
  pub newest : new.frames.newest ≡ old.frames.newest
  pub painted : new.painted ≡ old.painted
  pub begun : new.loads.begun ≡ old.loads.begun
  pub running : old.loads.running ≡ [] → new.loads.running ≡ []
  pub events : old.loads.running ≡ [] → old.events ≡ [] → new.events ≡ []

-- such a line, of whose replies none tells of a failure
quiet_acts : (line : Line) (d : Devices) (old new : Canvas) (outcome : Outcome) → Keeps old new → ((n : ℕ) (older : List Latest) → Step (setting old.setup d.files) (state_of old older) n line (record { replies = told new n outcome; after = state_of new older })) → ((n : ℕ) → AreQuiet (told new n outcome)) → Acts line d d old new outcome
quiet_acts line d old new outcome keeps step quiet = record {
  turns = λ n older. record {
    starts = older;
    step = step n older;
    showings = [];
    shows_more = λ earlier shows. subst (λ newest. Shows (starts_from newest older) earlier) (sym keeps.newest) shows;
    screen_grows = grows_by_none d.frames;
    losses = subst (λ k. RoseBy k d.faults d.faults) (sym (quiet n).losses) (rose_by_none d.faults d.faults (omega arith));
    failures = subst (λ k. RoseBy k d.store_faults d.store_faults) (sym (quiet n).failures) (rose_by_none d.store_faults d.store_faults (omega arith));
  };
  ready = λ n ready. record {
    frames = omega (arith, ap last_number keeps.newest, ready.frames);
    loads = omega (arith, keeps.begun, ready.loads);
    running = keeps.running ready.running;
    events = keeps.events ready.running ready.events;
    idle = ap runs keeps.newest ∙ ready.idle;
  };
  painted = omega (arith, keeps.painted);
  setup = keeps.setup;
  files = refl;
}

-- a line that changes nothing
pub still_acts : (line : Line) (d : Devices) (canvas : Canvas) (outcome : Outcome) → ((n : ℕ) (older : List Latest) → Step (setting canvas.setup d.files) (state_of canvas older) n line (stays (state_of canvas older) (told canvas n outcome))) → ((n : ℕ) → AreQuiet (told canvas n outcome)) → Acts line d d canvas canvas outcome
still_acts line d canvas outcome step quiet = quiet_acts line d canvas canvas outcome (record { setup = refl; newest = refl; painted = refl; begun = refl; running = λ none. none; events = λ none taken. taken }) step quiet

-- a line that is refused, and leaves the canvas as it is
pub refused_acts : (line : Line) (d : Devices) (old new : Canvas) (cause : Refusal) → new ≡ old → ((n : ℕ) (older : List Latest) → Step (setting old.setup d.files) (state_of old older) n line (stays (state_of old older) (Refused cause n ∷ []))) → Acts line d d old new (outcome.Done (Err cause))
refused_acts line d old new cause same step = subst (λ c. Acts line d d old c (outcome.Done (Err cause))) (sym same) (still_acts line d old (outcome.Done (Err cause)) step (λ n. done_quietly n (Err cause)))

-- a line that changes frames and starts none, or is refused
pub frames_acts : (line : Line) (d : Devices) (old new : Canvas) (result : Result (Unit {0}) Refusal) → new ≡ record old { frames = new.frames } → new.frames.newest ≡ old.frames.newest
    → ((n : ℕ) (older : List Latest) → Step (setting old.setup d.files) (state_of old older) n line (record { replies = told_result n result; after = state_of new older })) → Acts line d d old new (outcome.Done result)
frames_acts line d old new result alone newest step = quiet_acts line d old new (outcome.Done result)
    (record {
      setup = ap (λ c. c.setup) alone;
      newest = newest;
      painted = ap (λ c. c.painted) alone;
      begun = ap (λ c. c.loads.begun) alone;
      running = λ none. ap (λ c. c.loads.running) alone ∙ none;
      events = λ none taken. ap (λ c. c.events) alone ∙ taken;
    })
    step (λ n. done_quietly n result)

-- an edit, where no load runs
pub edit_acts : (d : Devices) (edit : Edit) (old new : Canvas) (result : Result (Unit {0}) Refusal) → old.loads.running ≡ [] → MayEdit (now_of old) edit result (now_of new) new.events → new.setup ≡ old.setup → new.painted ≡ old.painted → Acts (line.Command (command.Edit edit)) d d old new (outcome.Done result)
edit_acts d edit old new result none edits setup painted = quiet_acts (line.Command (command.Edit edit)) d old new (outcome.Done result)
    (record {
      setup = setup;
      newest = ap (λ f. f.newest) edits.frames;
      painted = painted;
      begun = ap (λ ls. ls.begun) edits.loads;
      running = λ idle. ap (λ ls. ls.running) edits.loads ∙ ap (kept (now_of new).scene) idle;
      events = λ idle taken. edits.events ∙ ap (gone (now_of new).scene) idle;
    })
    (λ n older. record {
      result = record { result = result; events = new.events };
      call = edits;
      tells = sym (append-nil (told_result n result)) ∙ ap (λ events. told_result n result ++ map told_event events) (sym (edits.events ∙ ap (gone (now_of new).scene) none));
      older = refl;
    })
    (λ n. done_quietly n result)

-- one of the commands that aren't built yet
abbrev pub IsUnbuilt : Command → Type 0
IsUnbuilt said = ((name : List ℕ) × (said ≡ command.Preload name)) ⊎ (((name : List ℕ) × (said ≡ command.Cancel name)) ⊎ ((said ≡ command.Serve) ⊎ ((said ≡ command.Start)
    ⊎ (((k : ℤ) × (said ≡ command.Step k)) ⊎ ((said ≡ command.Poll) ⊎ ((said ≡ command.Wait) ⊎ (said ≡ command.Stats)))))))

pub unbuilt_acts : (d : Devices) (canvas : Canvas) (said : Command) → IsUnbuilt said → Acts (line.Command said) d d canvas canvas (outcome.Bad bad.Word)
unbuilt_acts d canvas said unbuilt_so = still_acts (line.Command said) d canvas (outcome.Bad bad.Word) (λ n older. is_bad (setting canvas.setup d.files) n older unbuilt_so) (λ n. record { losses = refl; failures = refl })
  where
    is_bad : (settled : Setting) (n : ℕ) (older : List Latest) → IsUnbuilt said → Step settled (state_of canvas older) n (line.Command said) (stays (state_of canvas older) (unbuilt n))
    is_bad settled n older (inl (name, is)) = rw is refl
    is_bad settled n older (inr (inl (name, is))) = rw is refl
    is_bad settled n older (inr (inr (inl is))) = rw is refl
    is_bad settled n older (inr (inr (inr (inl is)))) = rw is refl
    is_bad settled n older (inr (inr (inr (inr (inl (k, is)))))) = rw is refl
    is_bad settled n older (inr (inr (inr (inr (inr (inl is)))))) = rw is refl
    is_bad settled n older (inr (inr (inr (inr (inr (inr (inl is))))))) = rw is refl
    is_bad settled n older (inr (inr (inr (inr (inr (inr (inr is))))))) = rw is refl
