-- What a ledger accounts for, through edits and loads.
use Rattle.std.proofs.Common.{◌≡◌, ℕ, ◌+◌, ◌<◌, ◌≤◌, ◌==◌, ◌||◌, ◌&&◌, not, arith, All, Bool, true, false, cond, if◌then◌else◌, List, [], ◌∷◌, ◌++◌, length, Option, Some, None, IfSome, is_some, Result, Ok, Err, refl, sym, ap, ap₂, subst, ◌∙◌}
use Rattle.std.specs.List.{filter, list_any}
use Rattle.std.proofs.Math.Bool.{true≢false}
use Rattle.std.proofs.lemmas.Bool.{and_parts}
use Rattle.std.proofs.lemmas.Bool.Decides.{nat_tests}
use Rattle.std.proofs.lemmas.List.Elements.{All-weaker}
use Rattle.std.proofs.lemmas.Option.{none-some, same_Some, IfSome_then}
use Rattle.ev_model.specs.Glyphs.{Glyphs}
use Rattle.ev_model.specs.Loaded.{Loaded as Load}
use Rattle.ev_model.specs.Raster.{Raster}
use Rattle.ev_model.specs.Capture.{Capture, capture_of}
use Rattle.ev_model.specs.Look.{Look}
use Rattle.ev_model.specs.declared.content.Content.{Content}
use Rattle.ev_model.specs.declared.content.Content.TheVariants as content
use Rattle.ev_model.specs.declared.command.Edit.{Edit}
use Rattle.ev_model.specs.declared.object.Object.{Object}
use Rattle.ev_model.specs.declared.refusal.LoadFault.{LoadFault}
use Rattle.ev_model.specs.declared.refusal.Refusal.{Refusal}
use Rattle.ev_scene.specs.Board.{Board, stage_of}
use Rattle.ev_scene.specs.Given as given
use Rattle.ev_scene.specs.Given.{HoldsLoads}
use Rattle.ev_scene.proofs.Giving.{edits_hold, image_holds, font_holds, stage_holds}
use Rattle.ev_scene.proofs.Places.{id_high}
use Rattle.ev_scene.proofs.Seeing.{looks_hold}
use Rattle.ev_damage.specs.Stay as stay
use Rattle.ev_damage.specs.Stay.{IsOneLoad, AreOneLoad, HaveOneLoad}
use Rattle.ev_preload.specs.Job.{Job}
use Rattle.ev_preload.specs.Loads.{Loads, Rises, is_open, is_held, is_for, after_begin, after_hold, after_collect, hold, collected, without, held_of}
use Rattle.ev_preload.specs.declared.end.LoadEnd.{LoadEnd}
use Rattle.ev_preload.specs.declared.end.LoadEnd.TheVariants as came
use Rattle.ev_preload.specs.declared.preload.Preload.{Preload}
use Rattle.ev_preload.proofs.Running.{or_first, or_last, or_false, rises_more, rises_push, rises_hold, rises_without, rises_filter}
use Rattle.ev_canvas.specs.Starts.{Entry, Latest}
use Rattle.ev_canvas.specs.Loading.{EditsUnless, Collects, Takes, after_stop, is_there, kept, taken}
use Rattle.ev_canvas.specs.Events.{event_of}
use Rattle.ev_canvas.specs.Ledger.{image_in, font_in, Ledger, has_number, IsFrom, IsListed, IsAccounted, HasLedger}
use Rattle.ev_canvas.specs.declared.event.Event.{Event}
use Rattle.ev_canvas.specs.declared.newest.End.{End}
use Rattle.ev_canvas.proofs.Loading.{asked_number, collected_number}

abbrev is_running : ℕ → List Preload → Bool
is_running number running = list_any (has_number number) running

-- ---- the numbers of running preloads

has_filtered : (test : Preload → Bool) (number : ℕ) (running : List Preload) → is_running number running ≡ false → is_running number (filter test running) ≡ false
has_filtered test number [] none = refl
has_filtered test number (preload ∷ running) none = go (test preload) refl (has_filtered test number running (or_last (has_number number preload) (is_running number running) none)) where
  go : (t : Bool) → test preload ≡ t → is_running number (filter test running) ≡ false → is_running number (filter test (preload ∷ running)) ≡ false
  go true e later = rw e (or_false (has_number number preload) (is_running number (filter test running)) (or_first (has_number number preload) (is_running number running) none) later)
  go false e later = rw e later

has_held : (number other : ℕ) (end : LoadEnd) (running : List Preload) → is_running number (hold running other end) ≡ is_running number running
has_held number other end [] = refl
has_held number other end (preload ∷ running) = go (is_open other preload) refl (has_held number other end running) where
  go : (t : Bool) → is_open other preload ≡ t → is_running number (hold running other end) ≡ is_running number running → is_running number (hold (preload ∷ running) other end) ≡ is_running number (preload ∷ running)
  go true e later = rw e refl
  go false e later = rw e (ap (λ b. has_number number preload || b) later)

has_left : (number other : ℕ) (running : List Preload) → is_running number running ≡ false → is_running number (without running other) ≡ false
has_left number other [] none = refl
has_left number other (preload ∷ running) none = go (is_held other preload) refl (has_left number other running rest) where
  rest : is_running number running ≡ false
  rest = or_last (has_number number preload) (is_running number running) none

  go : (t : Bool) → is_held other preload ≡ t → is_running number (without running other) ≡ false → is_running number (without (preload ∷ running) other) ≡ false
  go true e later = rw e rest
  go false e later = rw e (or_false (has_number number preload) (is_running number (without running other)) (or_first (has_number number preload) (is_running number running) none) later)

has_pushed : (number : ℕ) (running : List Preload) (new : Preload) → number < new.job.number → is_running number running ≡ false → is_running number (running ++ new ∷ []) ≡ false
has_pushed number [] new above none = let other : (new.job.number == number) ≡ false = grind (arith, nat_tests, above) in rw other refl
has_pushed number (preload ∷ running) new above none =
    or_false (has_number number preload) (is_running number (running ++ new ∷ [])) (or_first (has_number number preload) (is_running number running) none)
    (has_pushed number running new above (or_last (has_number number preload) (is_running number running) none))

-- numbers that rise lie above the first one
above_none : (number before : ℕ) (running : List Preload) (last : ℕ) → number ≤ before → Rises before running last → is_running number running ≡ false
above_none number before [] last low rises = refl
above_none number before (preload ∷ running) last low rises =
    let other : (preload.job.number == number) ≡ false = let h = rises.0 in grind (arith, nat_tests, h, low) in
    or_false (has_number number preload) (is_running number running) other (above_none number preload.job.number running last (let h = rises.0 in omega (arith, h, low)) rises.1)

-- what is collected was running, and runs no longer
pub record IsCollected (running : List Preload) (number before last : ℕ) : Type 0 where
  pub ran : is_running number running ≡ true
  pub above : before < number
  pub within : number ≤ last
  pub over : is_running number (without running number) ≡ false

rises_to : (before : ℕ) (running : List Preload) (last : ℕ) → Rises before running last → before ≤ last
rises_to before [] last rises = rises
rises_to before (preload ∷ running) last rises = let h = rises.0 in let k = rises_to preload.job.number running last rises.1 in omega (arith, h, k)

is_collected : (running : List Preload) (number before last : ℕ) (job : Job) (end : LoadEnd) → Rises before running last → collected running number ≡ Some (job, end) → IsCollected running number before last
is_collected [] number before last job end rises is = absurd (none-some (job, end) is)
is_collected (preload ∷ running) number before last job end rises is = go (is_held number preload) refl (is_collected running number preload.job.number last job end rises.1) where
  go : (t : Bool) → is_held number preload ≡ t → (collected running number ≡ Some (job, end) → IsCollected running number preload.job.number last) → IsCollected (preload ∷ running) number before last
  go true e later =
      let here : has_number number preload ≡ true = (and_parts (has_number number preload) (is_some preload.end) e).0 in
      let same : preload.job.number ≡ number = grind (arith, nat_tests, here) in
      let up = rises_to preload.job.number running last rises.1 in
      let low = rises.0 in
      record {
        ran = rw here refl;
        above = omega (arith, same, low);
        within = omega (arith, same, up);
        over = rw e (above_none number preload.job.number running last (omega (arith, same)) rises.1);
      }
  go false e later =
      let rest = later (sym (ap (λ b. cond b (held_of preload) (collected running number)) e) ∙ is) in
      let up = rest.above in
      let low = rises.0 in
      let other : has_number number preload ≡ false = grind (arith, nat_tests, up) in
      record {
        ran = rw (other, rest.ran) refl;
        above = omega (arith, up, low);
        within = rest.within;
        over = rw e (or_false (has_number number preload) (is_running number (without running number)) other rest.over);
      }

-- ---- ledgers

-- what stands in one ledger stands in a later one
record Continues (old new : Ledger) : Type 0 where
  began : old.loads.begun ≤ new.loads.begun
  over : (number : ℕ) → number ≤ old.loads.begun → is_running number old.loads.running ≡ false → is_running number new.loads.running ≡ false
  gave : (number : ℕ) → number ≤ old.loads.begun → is_running number old.loads.running ≡ false → new.end number ≡ old.end number

from_later : {T : Type 0} (value_in : LoadEnd → Option T) (old new : Ledger) (l : Load T) → Continues old new → IsFrom value_in old l → IsFrom value_in new l
from_later value_in old new l more from = record {
  began = let h = more.began in let k = from.began in omega (arith, h, k);
  over = more.over l.number from.began from.over;
  gave = ap value_in (more.gave l.number from.began from.over) ∙ from.gave;
}

listed_later : (old new : Ledger) (o : Object) → Continues old new → IsListed old o → IsListed new o
listed_later old new o more had = record {
  image = IfSome_then (given.image_of o.content) had.image (λ l. from_later image_in old new l more);
  font = IfSome_then (given.font_of o.content) had.font (λ l. from_later font_in old new l more);
}

looks_later : (old new : Ledger) (newest : Option Latest) → Continues old new → IfSome newest (λ latest. All (λ l. IsListed old l.object) latest.entry.capture.looks) → IfSome newest (λ latest. All (λ l. IsListed new l.object) latest.entry.capture.looks)
looks_later old new newest more are = IfSome_then newest are (λ latest. All-weaker (λ (l : Look). IsListed old l.object) (λ l. IsListed new l.object) (λ l. listed_later old new l.object more) latest.entry.capture.looks)

accounts_later : (old new : Ledger) (scene : Board) (newest : Option Latest) → Continues old new → Rises 0 new.loads.running new.loads.begun → IsAccounted old scene newest → IsAccounted new scene newest
accounts_later old new scene newest more order a = record {
  order = order;
  scene = λ id o there. listed_later old new o more (a.scene id o there);
  newest = looks_later old new newest more a.newest;
}

-- ---- edits

-- an edit leaves what loads gave
edited : {T : Type 0} (waiting : Bool) (ledger : Ledger) (scene scene' : Board) (newest : Option Latest) (e : Edit) (result : Result T Refusal) → EditsUnless waiting scene e result scene' → IsAccounted ledger scene newest → IsAccounted ledger scene' newest
edited true ledger scene scene' newest e result is a = subst (λ s. IsAccounted ledger s newest) (sym is.1) a
edited false ledger scene scene' newest e (Err cause) is a = subst (λ s. IsAccounted ledger s newest) (sym is.1) a
edited false ledger scene scene' newest e (Ok done) is a =
    subst (λ s. IsAccounted ledger s newest) (sym is.1) (record { order = a.order; scene = edits_hold (IsFrom image_in ledger) (IsFrom font_in ledger) scene e a.scene; newest = a.newest })

-- fewer preloads run
pub filtered : (test : Preload → Bool) (loads : Loads) (scene : Board) (newest : Option Latest) → HasLedger loads scene newest → HasLedger (record loads { running = filter test loads.running }) scene newest
filtered test loads scene newest has_one = record {
  end = has_one.end;
  accounts = accounts_later (record { loads = loads; end = has_one.end }) (record { loads = record loads { running = filter test loads.running }; end = has_one.end }) scene newest
      (record { began = omega arith; over = λ number low. has_filtered test number loads.running; gave = λ number low none. refl })
      (rises_filter test 0 loads.running loads.begun has_one.accounts.order) has_one.accounts;
}

-- an edit
pub ledger_changed : {T : Type 0} (waiting : Bool) (loads : Loads) (scene scene' : Board) (newest : Option Latest) (e : Edit) (result : Result T Refusal) → EditsUnless waiting scene e result scene' → HasLedger loads scene newest → HasLedger loads scene' newest
ledger_changed waiting loads scene scene' newest e result is has_one = record { end = has_one.end; accounts = edited waiting (record { loads = loads; end = has_one.end }) scene scene' newest e result is has_one.accounts }

-- an edit, after which the preloads are gone whose objects are
pub ledger_edited : {T : Type 0} (waiting : Bool) (loads : Loads) (scene scene' : Board) (newest : Option Latest) (e : Edit) (result : Result T Refusal) → EditsUnless waiting scene e result scene' → HasLedger loads scene newest → HasLedger (record loads { running = kept scene' loads.running }) scene' newest
ledger_edited waiting loads scene scene' newest e result is has_one = filtered (is_there scene') loads scene' newest (ledger_changed waiting loads scene scene' newest e result is has_one)

-- ---- loads

-- a preload begins, or is refused
pub ledger_begun : (loads : Loads) (scene : Board) (newest : Option Latest) (answer : Result Job Refusal) → ((job : Job) → answer ≡ Ok job → job.number ≡ loads.begun + 1) → HasLedger loads scene newest → HasLedger (after_begin loads answer) scene newest
ledger_begun loads scene newest (Err cause) next has_one = has_one
ledger_begun loads scene newest (Ok job) next has_one =
    let new : Preload = record { job = job; end = None } in
    let number : job.number ≡ loads.begun + 1 = next job refl in
    record {
      end = has_one.end;
      accounts = accounts_later (record { loads = loads; end = has_one.end }) (record { loads = after_begin loads (Ok job); end = has_one.end }) scene newest
          (record {
            began = omega arith;
            over = λ n low. has_pushed n loads.running new (omega (arith, low, number));
            gave = λ n low none. refl;
          })
          (subst (λ last. Rises 0 (loads.running ++ new ∷ []) last) number (rises_push 0 loads.running loads.begun new has_one.accounts.order (omega (arith, number)))) has_one.accounts;
    }

pub ledger_stopped : (loads : Loads) (scene : Board) (newest : Option Latest) (answer : Result Job Refusal) → HasLedger loads scene newest → HasLedger (after_stop loads answer) scene newest
ledger_stopped loads scene newest (Err cause) has_one = has_one
ledger_stopped loads scene newest (Ok job) has_one = filtered (λ preload. not (is_for job.id preload)) loads scene newest has_one

pub ledger_held : (loads : Loads) (scene : Board) (newest : Option Latest) (number : ℕ) (end : LoadEnd) → HasLedger loads scene newest → HasLedger (after_hold loads number end) scene newest
ledger_held loads scene newest number end has_one = record {
  end = has_one.end;
  accounts = accounts_later (record { loads = loads; end = has_one.end }) (record { loads = after_hold loads number end; end = has_one.end }) scene newest
      (record { began = omega arith; over = λ n low none. has_held n number end loads.running ∙ none; gave = λ n low none. refl })
      (rises_hold 0 loads.running loads.begun number end has_one.accounts.order) has_one.accounts;
}

-- the end of one number more
abbrev noted : (ℕ → LoadEnd) → ℕ → LoadEnd → ℕ → LoadEnd
noted ends number end n = if n == number then end else ends n

differs : (n number : ℕ) (running : List Preload) → is_running n running ≡ false → is_running number running ≡ true → (n == number) ≡ false
differs n number running none some = go (n == number) refl where
  go : (t : Bool) → (n == number) ≡ t → (n == number) ≡ false
  go true e = let same : n ≡ number = grind (arith, nat_tests, e) in absurd (true≢false (sym some ∙ ap (λ k. is_running k running) (sym same) ∙ none))
  go false e = e

-- what a load gave that was collected
gave_value : {T : Type 0} (value_in : LoadEnd → Option T) (loads : Loads) (ends : ℕ → LoadEnd) (number : ℕ) (end : LoadEnd) (value : T) → IsCollected loads.running number 0 loads.begun → value_in end ≡ Some value
    → IsFrom value_in (record { loads = after_collect loads number; end = noted ends number end }) (record { number = number; value = value })
gave_value value_in loads ends number end value was is =
    let same : (number == number) ≡ true = grind arith in
    record { began = was.within; over = was.over; gave = ap (λ b. value_in (cond b end (ends number))) same ∙ is }

taken_holds : (P : Load Raster → Type 0) (Q : Load Glyphs → Type 0) (scene : Board) (job : Job) (end : LoadEnd) → HoldsLoads P Q scene
    → ((image : Raster) → image_in end ≡ Some image → P (record { number = job.number; value = image })) → ((font : Glyphs) → font_in end ≡ Some font → Q (record { number = job.number; value = font }))
    → HoldsLoads P Q (taken scene job end)
taken_holds P Q scene job (came.Done image) holds images fonts = image_holds P Q scene job.id job.number image holds (images image refl)
taken_holds P Q scene job (came.Font font) holds images fonts = font_holds P Q scene job.id job.number font holds (fonts font refl)
taken_holds P Q scene job other holds images fonts = holds

-- the end of a load is taken into the scene
load_ended : (loads : Loads) (scene : Board) (newest : Option Latest) (job : Job) (end : LoadEnd) → IsCollected loads.running job.number 0 loads.begun → HasLedger loads scene newest → HasLedger (after_collect loads job.number) (taken scene job end) newest
load_ended loads scene newest job end was has_one =
    let old : Ledger = record { loads = loads; end = has_one.end } in
    let new : Ledger = record { loads = after_collect loads job.number; end = noted has_one.end job.number end } in
    let more : Continues old new = record {
      began = omega arith;
      over = λ n low. has_left n job.number loads.running;
      gave = λ n low none. ap (λ b. cond b end (has_one.end n)) (differs n job.number loads.running none was.ran);
    } in
    let a = accounts_later old new scene newest more (rises_without 0 loads.running loads.begun job.number has_one.accounts.order) has_one.accounts in
    record {
      end = new.end;
      accounts = record {
        order = a.order;
        scene = taken_holds (IsFrom image_in new) (IsFrom font_in new) scene job end a.scene
            (λ image is. gave_value image_in loads has_one.end job.number end image was is) (λ font is. gave_value font_in loads has_one.end job.number end font was is);
        newest = a.newest;
      };
    }

collects_by : (loads : Loads) (scene scene' : Board) (newest : Option Latest) (number : ℕ) (found : Option (Job × LoadEnd)) (events : List Event) → collected loads.running number ≡ found → Collects found scene scene' events → HasLedger loads scene newest
    → HasLedger (after_collect loads number) scene' newest
collects_by loads scene scene' newest number None events is same has_one =
    let old : Ledger = record { loads = loads; end = has_one.end } in
    subst (λ s. HasLedger (after_collect loads number) s newest) (sym same.0) (record {
      end = has_one.end;
      accounts = accounts_later old (record { loads = after_collect loads number; end = has_one.end }) scene newest
          (record { began = omega arith; over = λ n low. has_left n number loads.running; gave = λ n low none. refl })
          (rises_without 0 loads.running loads.begun number has_one.accounts.order) has_one.accounts;
    })
collects_by loads scene scene' newest number (Some (job, end)) events is (fault, takes, told) has_one =
    let number_is : job.number ≡ number = collected_number loads.running number job end is in
    let was = is_collected loads.running number 0 loads.begun job end has_one.accounts.order is in
    subst (λ s. HasLedger (after_collect loads number) s newest) (sym takes.changes)
    (subst (λ n. HasLedger (after_collect loads n) (taken scene job takes.end) newest) number_is
    (load_ended loads scene newest job takes.end (subst (λ n. IsCollected loads.running n 0 loads.begun) (sym number_is) was) has_one))

-- there was none to be collected, or it is taken
pub ledger_none : (loads : Loads) (scene : Board) (newest : Option Latest) (number : ℕ) → collected loads.running number ≡ None → HasLedger loads scene newest → HasLedger (after_collect loads number) scene newest
ledger_none loads scene newest number is has_one = collects_by loads scene scene newest number None [] is (refl, refl) has_one

pub ledger_taken : (loads : Loads) (scene scene' : Board) (newest : Option Latest) (number : ℕ) (job : Job) (end : LoadEnd) (fault : Option LoadFault) → collected loads.running number ≡ Some (job, end) → Takes scene scene' job end fault → HasLedger loads scene newest → HasLedger (after_collect loads number) scene' newest
ledger_taken loads scene scene' newest number job end fault is takes has_one = collects_by loads scene scene' newest number (Some (job, end)) (event_of job.name fault ∷ []) is (fault, takes, refl) has_one

-- the end that is held for a number is collected
pub ledger_collected : (loads : Loads) (scene scene' : Board) (newest : Option Latest) (number : ℕ) (events : List Event) → Collects (collected loads.running number) scene scene' events → HasLedger loads scene newest → HasLedger (after_collect loads number) scene' newest
ledger_collected loads scene scene' newest number events collects has_one = collects_by loads scene scene' newest number (collected loads.running number) events refl collects has_one

-- ---- what one ledger accounts for can be compared

-- a content's loaded image and font, by either of two words for it
images : (P : Option (Load Raster) → Type 0) (c : Content) → P (given.image_of c) → P (stay.image_of c)
images P (content.Image part) here = here
images P other here = here

fonts : (P : Option (Load Glyphs) → Type 0) (c : Content) → P (given.font_of c) → P (stay.font_of c)
fonts P (content.Text part) here = here
fonts P other here = here

-- what one ledger has of a number is one value
one_value : {T : Type 0} (value_in : LoadEnd → Option T) (ledger : Ledger) (one other : Option (Load T)) → IfSome one (IsFrom value_in ledger) → IfSome other (IsFrom value_in ledger) → IsOneLoad one other
one_value {T = T} value_in ledger one other mine yours = record {
  value = λ l m is also same.
      let here : IsFrom value_in ledger l = subst (λ (o : Option (Load T)). IfSome o (IsFrom value_in ledger)) is mine in
      let there : IsFrom value_in ledger m = subst (λ (o : Option (Load T)). IfSome o (IsFrom value_in ledger)) also yours in
      same_Some l.value m.value (sym here.gave ∙ ap (λ n. value_in (ledger.end n)) same ∙ there.gave);
}

-- so it is with two objects, and with two lists of looks
one_load : (ledger : Ledger) (o p : Object) → IsListed ledger o → IsListed ledger p → AreOneLoad o p
one_load ledger o p mine yours = record {
  image = one_value image_in ledger (stay.image_of o.content) (stay.image_of p.content) (images (λ x. IfSome x (IsFrom image_in ledger)) o.content mine.image) (images (λ x. IfSome x (IsFrom image_in ledger)) p.content yours.image);
  font = one_value font_in ledger (stay.font_of o.content) (stay.font_of p.content) (fonts (λ x. IfSome x (IsFrom font_in ledger)) o.content mine.font) (fonts (λ x. IfSome x (IsFrom font_in ledger)) p.content yours.font);
}

one_loads : (ledger : Ledger) (ls ms : List Look) → All (λ l. IsListed ledger l.object) ls → All (λ l. IsListed ledger l.object) ms → HaveOneLoad ls ms
one_loads ledger ls ms mine yours =
    All-weaker (λ (l : Look). IsListed ledger l.object) (λ l. All (λ m. AreOneLoad l.object m.object) ms) (λ l own.
    All-weaker (λ (m : Look). IsListed ledger m.object) (λ m. AreOneLoad l.object m.object) (λ m other. one_load ledger l.object m.object own other) ms yours) ls mine

-- all that is seen of the scene is accounted for
seen : (ledger : Ledger) (scene : Board) (newest : Option Latest) → IsAccounted ledger scene newest → All (λ l. IsListed ledger l.object) (capture_of (stage_of scene)).looks
seen ledger scene newest a = looks_hold (IsListed ledger) (stage_of scene) (stage_holds (IsFrom image_in ledger) (IsFrom font_in ledger) scene a.scene)

-- so the newest start can be compared with the scene
pub comparable : (loads : Loads) (scene : Board) (newest : Option Latest) → HasLedger loads scene newest → IfSome newest (λ latest. HaveOneLoad latest.entry.capture.looks (capture_of (stage_of scene)).looks)
comparable loads scene newest has_one =
    let ledger : Ledger = record { loads = loads; end = has_one.end } in
    IfSome_then newest has_one.accounts.newest (λ latest own. one_loads ledger latest.entry.capture.looks (capture_of (stage_of scene)).looks own (seen ledger scene newest has_one.accounts))

-- and what is captured of the scene stands in the ledger
pub ledger_started : (loads : Loads) (scene : Board) (newest : Option Latest) (entry : Entry) (e : End) → entry.capture ≡ capture_of (stage_of scene) → HasLedger loads scene newest → HasLedger loads scene (Some (record { entry = entry; end = e }))
ledger_started loads scene newest entry e same has_one =
    let ledger : Ledger = record { loads = loads; end = has_one.end } in
    record {
      end = has_one.end;
      accounts = record {
        order = has_one.accounts.order;
        scene = has_one.accounts.scene;
        newest = subst (λ (c : Capture). All (λ l. IsListed ledger l.object) c.looks) (sym same) (seen ledger scene newest has_one.accounts);
      };
    }

-- how its frame ended is no matter of the ledger
pub ledger_ended : (loads : Loads) (scene : Board) (latest : Latest) (e : End) → HasLedger loads scene (Some latest) → HasLedger loads scene (Some (record latest { end = e }))
ledger_ended loads scene latest e has_one = record {
  end = has_one.end;
  accounts = record { order = has_one.accounts.order; scene = has_one.accounts.scene; newest = has_one.accounts.newest };
}

-- before the first load nothing was given
pub ledger_new : (loads : Loads) (scene : Board) (newest : Option Latest) → loads ≡ record { running = []; begun = 0 } → scene.objects ≡ [] → newest ≡ None → HasLedger loads scene newest
ledger_new loads scene newest unloaded empty unstarted =
    let end : ℕ → LoadEnd = λ n. came.Missing in
    let none : length scene.objects ≡ 0 = ap length empty in
    record {
      end = end;
      accounts = record {
        order = subst (λ (l : Loads). Rises 0 l.running l.begun) (sym unloaded) (omega arith);
        scene = λ id o there. (let high = id_high scene.objects id o there in absurd (omega (arith, high, none)));
        newest = subst (λ (l : Option Latest). IfSome l (λ latest. All (λ l. IsListed (record { loads = loads; end = end }) l.object) latest.entry.capture.looks)) (sym unstarted) tt;
      };
    }
