-- Loads that a line begins and ends.
use Rattle.std.proofs.Common.{◌≡◌, ℕ, ◌+◌, ◌≤◌, ◌⊎◌, inl, inr, arith, List, [], ◌∷◌, ◌++◌, map, Bool, true, ◌==◌, Option, Some, None, Ok, Err, refl, ap, subst, sym, ◌∙◌}
use Rattle.std.proofs.lemmas.Bool.Decides.{nat_tests}
use Rattle.std.proofs.lemmas.Option.{same_Some}
use Rattle.ev_port.specs.Told.{grows_by_none}
use Rattle.ev_port.specs.Causes.{RoseBy, rose_by_none}
use Rattle.ev_port.specs.Frame.{Frame}
use Rattle.ev_port.specs.declared.file.StoredFile.{StoredFile}
use Rattle.ev_image.specs.declared.fault.BadImage.{BadImage}
use Rattle.ev_image.specs.declared.fault.BadImage.TheVariants as image
use Rattle.ev_text.specs.declared.fault.BadFont.{BadFont}
use Rattle.ev_text.specs.declared.fault.BadFont.TheVariants as font
use Rattle.ev_model.specs.Answer.{Answer, PreloadFailed}
use Rattle.ev_model.specs.declared.command.Command.TheVariants as command
use Rattle.ev_model.specs.declared.refusal.LoadFault.{LoadFault}
use Rattle.ev_model.specs.declared.refusal.Refusal.{Refusal}
use Rattle.ev_lang.specs.declared.line.Line.TheVariants as line
use Rattle.ev_preload.specs.Job.{Job}
use Rattle.ev_preload.specs.Ends.{EndsBy, IsOfKind, HasCounts}
use Rattle.ev_preload.specs.Faults.{image_fault, font_fault, fault_of}
use Rattle.ev_preload.specs.Loads.{Loads, hold, collected, without, after_hold, after_collect}
use Rattle.ev_preload.specs.declared.preload.Preload.{Preload}
use Rattle.ev_preload.specs.declared.end.LoadEnd.{LoadEnd}
use Rattle.ev_preload.specs.declared.end.LoadEnd.TheVariants as ended
use Rattle.ev_canvas.specs.CanvasCalls.{MayPreload, MayCollect, held}
use Rattle.ev_canvas.specs.Canvas.{Canvas, now_of}
use Rattle.ev_canvas.specs.Events.{event_of, first_event, later_events, told_event}
use Rattle.ev_canvas.specs.CanvasFrames.{Frames, runs}
use Rattle.ev_canvas.specs.History.{Shows}
use Rattle.ev_canvas.specs.Turns.{starts_from}
use Rattle.ev_canvas.specs.Loading.{EndsSo, Collects}
use Rattle.ev_canvas.specs.Now.{Now}
use Rattle.ev_canvas.specs.Starts.{last_number}
use Rattle.ev_canvas.specs.declared.event.Event.{Event}
use Rattle.ev_script.specs.Script.{store_failures, lost_frames}
use Rattle.ev_script.specs.Outside.{Devices, devices}
use Rattle.ev_script.specs.Session.{Acts}
use Rattle.ev_script.specs.declared.outcome.Outcome.TheVariants as outcome
use Rattle.ev_script.proofs.Turns.{refused_acts}

-- what is told of an end
abbrev told_end : List ℕ → LoadEnd → List Answer
told_end name end = told_event (event_of name (fault_of end)) ∷ []

-- what is told of a fault of bytes is no failure of the store
image_counts_none : (name : List ℕ) (fault : BadImage) → store_failures (PreloadFailed name (image_fault fault) ∷ []) ≡ 0
image_counts_none name image.Magic = refl
image_counts_none name other = refl

font_counts_none : (name : List ℕ) (fault : BadFont) → store_failures (PreloadFailed name (font_fault fault) ∷ []) ≡ 0
font_counts_none name font.Magic = refl
font_counts_none name other = refl

-- where an end tells that the store failed, it did
fails_once : (name : List ℕ) (end : LoadEnd) (before now : ℕ) → before ≤ now → HasCounts before now end → RoseBy (store_failures (told_end name end)) before now
fails_once name (ended.BadImage fault) before now later counts = subst (λ k. RoseBy k before now) (sym (image_counts_none name fault)) (rose_by_none before now later)
fails_once name (ended.BadFont fault) before now later counts = subst (λ k. RoseBy k before now) (sym (font_counts_none name fault)) (rose_by_none before now later)
fails_once name (ended.Failed first last) before now later counts = counts.2
fails_once name other before now later counts = rose_by_none before now later

-- no end of a load tells of a lost frame
loses_none : (name : List ℕ) (fault : Option LoadFault) → lost_frames (told_event (event_of name fault) ∷ []) ≡ 0
loses_none name None = refl
loses_none name (Some fault) = refl

-- an end that was taken has the counts of the one that came, or is want of memory
counted : (before now : ℕ) (came end : LoadEnd) → (end ≡ came) ⊎ (end ≡ ended.NoMemory) → HasCounts before now came → HasCounts before now end
counted before now came end (inl is) counts = subst (λ e. HasCounts before now e) (sym is) counts
counted before now came end (inr is) counts = subst (λ e. HasCounts before now e) (sym is) tt

counted_so : (before now : ℕ) (came end : LoadEnd) → EndsSo came end → HasCounts before now came → HasCounts before now end
counted_so before now (ended.Done image) end is counts = counted before now (ended.Done image) end is counts
counted_so before now (ended.Font font) end is counts = counted before now (ended.Font font) end is counts
counted_so before now other end is counts = counted before now other end (inl is) counts

-- a load that was refused
pub load_refused : (d : Devices) (name : List ℕ) (cause : Refusal) (old new : Canvas) → MayPreload (now_of old) name (Err cause) (now_of new) → new ≡ record old { loads = new.loads } → Acts (line.Command (command.Load name)) d d old new (outcome.Done (Err cause))
load_refused d name cause old new preload alone =
    let same : new ≡ old = alone ∙ ap (λ ls. record old { loads = ls }) (ap (λ (now : Now). now.loads) preload.begins) in
    refused_acts (line.Command (command.Load name)) d old new cause same (λ n older. record { answer = Err cause; begun = now_of new; preload = preload; ends = refl })

-- a load that began where none ran, whose end was held and collected, and whose event was taken
pub record Ended (old begun holding done new : Canvas) (job : Job) (taken : Bool) (event : Event) (name : List ℕ) (end : LoadEnd) (files : Option (List StoredFile)) (before now : ℕ) : Type 0 where
  pub idle : old.loads.running ≡ []
  pub preload : MayPreload (now_of old) name (Ok job) (now_of begun)
  pub begun_alone : begun ≡ record old { loads = begun.loads }
  pub by_files : EndsBy files job.key job.kind end
  pub of_kind : IsOfKind job.kind end
  pub counts : HasCounts before now end
  pub later : before ≤ now
  pub holds : now_of holding ≡ held (now_of begun) job.number end
  pub held_alone : holding ≡ record begun { loads = holding.loads }
  pub collects : MayCollect (now_of holding) job.number taken (now_of done) done.events
  pub collected_setup : done.setup ≡ holding.setup
  pub collected_painted : done.painted ≡ holding.painted
  pub first : Some event ≡ first_event done.events
  pub rest : new ≡ record done { events = later_events done.events }

-- the end that comes for the only preload is held for it, and collected
pub record IsOne (job : Job) (end : LoadEnd) : Type 0 where
  pub held : hold (record { job = job; end = None } ∷ []) job.number end ≡ record { job = job; end = Some end } ∷ []
  pub found : collected (record { job = job; end = Some end } ∷ []) job.number ≡ Some (job, end)
  pub left : without (record { job = job; end = Some end } ∷ []) job.number ≡ []

only_one : (job : Job) (end : LoadEnd) → IsOne job end
only_one job end =
    let same : (job.number == job.number) ≡ true = grind (arith, nat_tests) in
    record { held = rw same refl; found = rw same refl; left = rw same refl }

-- what such a load tells and leaves
record Left (old done new : Canvas) (job : Job) (event : Event) (came : LoadEnd) : Type 0 where
  pub end : LoadEnd
  pub is : EndsSo came end
  pub told : told_event event ∷ [] ≡ told_end job.name end
  pub events : done.events ≡ event ∷ []
  pub frames : new.frames ≡ old.frames
  pub loads : new.loads ≡ record { running = []; begun = old.loads.begun + 1 }

left_by : (old begun holding done new : Canvas) (job : Job) (taken : Bool) (event : Event) (name : List ℕ) (end : LoadEnd) (files : Option (List StoredFile)) (before now : ℕ) → Ended old begun holding done new job taken event name end files before now → Left old done new job event end
left_by old begun holding done new job taken event name end files before now loading =
    let one = only_one job end in
    let loads : List Preload → Loads = λ running. record { running = running; begun = old.loads.begun + 1 } in
    let begun_loads = ap (λ (now : Now). now.loads) loading.preload.begins ∙ ap (λ running. loads (running ++ record { job = job; end = None } ∷ [])) loading.idle in
    let held_loads : holding.loads ≡ loads (record { job = job; end = Some end } ∷ []) = ap (λ (now : Now). now.loads) loading.holds ∙ ap (λ ls. after_hold ls job.number end) begun_loads ∙ ap loads one.held in
    let found : collected holding.loads.running job.number ≡ Some (job, end) = ap (λ (ls : Loads). collected ls.running job.number) held_loads ∙ one.found in
    let taken_so = subst (λ x. Collects x (now_of holding).scene (now_of done).scene done.events) found loading.collects.scene in
    let event_is : event ≡ event_of job.name taken_so.0 = same_Some event (event_of job.name taken_so.0) (loading.first ∙ ap first_event taken_so.2) in
    record {
      end = taken_so.1.end;
      is = taken_so.1.is;
      told = ap (λ e. told_event e ∷ []) event_is ∙ ap (λ fault. told_event (event_of job.name fault) ∷ []) taken_so.1.told;
      events = taken_so.2 ∙ ap (λ e. e ∷ []) (sym event_is);
      frames = ap (λ c. c.frames) loading.rest ∙ loading.collects.frames ∙ ap (λ c. c.frames) loading.held_alone ∙ ap (λ c. c.frames) loading.begun_alone;
      loads = ap (λ c. c.loads) loading.rest ∙ loading.collects.loads ∙ ap (λ ls. after_collect ls job.number) held_loads ∙ ap loads one.left;
    }

-- so the line may begin and end it
pub load_ended : (frames : Option (List Frame)) (faults : ℕ) (files files' : Option (List StoredFile)) (before now : ℕ) (name : List ℕ) (old begun holding done new : Canvas) (job : Job) (taken : Bool) (event : Event) (end : LoadEnd) → files' ≡ files → Ended old begun holding done new job taken event name end files before now → Acts (line.Command (command.Load name)) (devices frames faults files before) (devices frames faults files' now) old new (outcome.Event event)
load_ended frames faults files files' before now name old begun holding done new job taken event end files_stay loading =
    let left = left_by old begun holding done new job taken event name end files before now loading in
    let collects : MayCollect (held (now_of begun) job.number end) job.number taken (now_of new) done.events = subst (λ (after : Now). MayCollect (held (now_of begun) job.number end) job.number taken after done.events) (sym (ap now_of loading.rest))
    (subst (λ (holding : Now). MayCollect holding job.number taken (now_of done) done.events) loading.holds loading.collects) in
    record {
      turns = λ n older. record {
        starts = older;
        step = record {
          answer = Ok job;
          begun = now_of begun;
          preload = loading.preload;
          ends = record { end = end; by_files = loading.by_files; of_kind = loading.of_kind; taken = taken; events = done.events; collects = collects; tells = ap (map told_event) (sym left.events); older = refl };
        };
        showings = [];
        shows_more = λ earlier shows. subst (λ (f : Frames). Shows (starts_from f.newest older) earlier) (sym left.frames) shows;
        screen_grows = grows_by_none frames;
        losses = subst (λ rs. RoseBy (lost_frames rs) faults faults) (sym left.told) (subst (λ n. RoseBy n faults faults) (sym (loses_none job.name (fault_of left.end))) (rose_by_none faults faults (omega arith)));
        failures = subst (λ rs. RoseBy (store_failures rs) before now) (sym left.told) (fails_once job.name left.end before now loading.later (counted_so before now end left.end left.is loading.counts));
      };
      ready = λ n ready. record {
        frames = omega (arith, ap (λ f. last_number f.newest) left.frames, ready.frames);
        loads = omega (arith, ap (λ ls. ls.begun) left.loads, ready.loads);
        running = ap (λ ls. ls.running) left.loads;
        events = ap (λ c. c.events) loading.rest ∙ ap later_events left.events;
        idle = ap (λ f. runs f.newest) left.frames ∙ ready.idle;
      };
      painted = let same : new.painted ≡ old.painted = ap (λ c. c.painted) loading.rest ∙ loading.collected_painted ∙ ap (λ c. c.painted) loading.held_alone ∙ ap (λ c. c.painted) loading.begun_alone in omega (arith, same);
      setup = ap (λ c. c.setup) loading.rest ∙ loading.collected_setup ∙ ap (λ c. c.setup) loading.held_alone ∙ ap (λ c. c.setup) loading.begun_alone;
      files = files_stay;
    }
