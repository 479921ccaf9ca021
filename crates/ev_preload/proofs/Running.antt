-- The running preloads: what finds one, and what keeps them in order.
use Rattle.std.proofs.Common.{◌≡◌, ℕ, suc, zero, ◌+◌, ◌<◌, ◌≤◌, ◌==◌, ◌||◌, not, List, [], ◌∷◌, ◌++◌, Bool, true, false, Option, Some, None, IfSome, Ok, Err, length, refl, ap, sym, subst, ◌∙◌, arith, rules, get_or, set}
use Rattle.std.proofs.lemmas.List.{length-append}
use Rattle.std.proofs.lemmas.List.Quantifiers.{position-Some}
use Rattle.std.proofs.Math.Bool.{true≢false}
use Rattle.std.specs.List.{position, remove, All, AllByRecursion, list_any, filter, find}
use Rattle.std.specs.Option.{option_map_or}
use Rattle.ev_model.specs.declared.refusal.Refusal.TheVariants.{NotLoading}
use Rattle.ev_preload.specs.Job.{Job}
use Rattle.ev_preload.specs.Loads.{Loads, is_for, is_open, is_held, hold, held_of, after_hold, collected, without, after_collect, FitsKind, HeldFits, Suits, Rises, AreApart, cancelled, after_cancel, IsSound}
use Rattle.ev_preload.specs.declared.end.LoadEnd.{LoadEnd}
use Rattle.ev_preload.specs.declared.preload.Preload.{Preload}

-- ---- tests

pub or_first : (a b : Bool) → (a || b) ≡ false → a ≡ false
or_first true b none = none
or_first false b none = refl

pub or_last : (a b : Bool) → (a || b) ≡ false → b ≡ false
or_last true b none = absurd (true≢false none)
or_last false b none = none

pub or_false : (a b : Bool) → a ≡ false → b ≡ false → (a || b) ≡ false
or_false a b first last = rw first last

differ : (a b : ℕ) → (b == a) ≡ false → (a == b) ≡ false
differ a b other = grind arith

-- ---- the first preload that passes a test

abbrev loads_of : List Preload → ℕ → Loads
loads_of running begun = record { running = running; begun = begun }

abbrev pub with_end : LoadEnd → Preload → Preload
with_end end preload = record preload { end = Some end }

pub hold_first : (running : List Preload) (place number : ℕ) (end : LoadEnd) (d : Preload) → place < length running → is_open number (get_or running place d) ≡ true
    → ((k : ℕ) → k < place → is_open number (get_or running k d) ≡ false) → hold running number end ≡ set running place (with_end end (get_or running place d))
hold_first [] place number end d within at before = absurd (omega (arith, within))
hold_first (preload ∷ running) zero number end d within at before = rw at refl
hold_first (preload ∷ running) (suc place) number end d within at before =
    rw (before 0 (omega arith)) (ap (λ rest. preload ∷ rest) (hold_first running place number end d (omega (arith, within)) at (λ k h. before (suc k) (omega (arith, h)))))

pub hold_none : (running : List Preload) (number : ℕ) (end : LoadEnd) → All (λ preload. is_open number preload ≡ false) running → hold running number end ≡ running
hold_none [] number end none = refl
hold_none (preload ∷ running) number end none = rw (none 0 preload (omega arith)) (ap (λ rest. preload ∷ rest) (hold_none running number end (λ k d h. none (suc k) d (omega (arith, h)))))

pub collected_first : (running : List Preload) (place number : ℕ) (d : Preload) → place < length running → is_held number (get_or running place d) ≡ true
    → ((k : ℕ) → k < place → is_held number (get_or running k d) ≡ false) → (collected running number ≡ held_of (get_or running place d)) × (without running number ≡ remove running place)
collected_first [] place number d within held before = absurd (omega (arith, within))
collected_first (preload ∷ running) zero number d within held before = rw held (refl, refl)
collected_first (preload ∷ running) (suc place) number d within held before =
    let later = collected_first running place number d (omega (arith, within)) held (λ k h. before (suc k) (omega (arith, h))) in
    rw (before 0 (omega arith)) (later.0, ap (λ rest. preload ∷ rest) later.1)

pub collected_none : (running : List Preload) (number : ℕ) → All (λ preload. is_held number preload ≡ false) running → (collected running number ≡ None) × (without running number ≡ running)
collected_none [] number none = (refl, refl)
collected_none (preload ∷ running) number none =
    let later = collected_none running number (λ k d h. none (suc k) d (omega (arith, h))) in
    rw (none 0 preload (omega arith)) (later.0, ap (λ rest. preload ∷ rest) later.1)

-- ---- what keeps the order

pub rises_more : (first before : ℕ) (running : List Preload) (last : ℕ) → first ≤ before → Rises before running last → Rises first running last
rises_more first before [] last h rises = omega (arith, h, rises)
rises_more first before (preload ∷ running) last h rises = (omega (arith, h, rises.0), rises.1)

pub rises_push : (before : ℕ) (running : List Preload) (last : ℕ) (preload : Preload) → Rises before running last → last < preload.job.number → Rises before (running ++ preload ∷ []) preload.job.number
rises_push before [] last preload rises h = (omega (arith, rises, h), omega arith)
rises_push before (one ∷ running) last preload rises h = (rises.0, rises_push one.job.number running last preload rises.1 h)

pub rises_hold : (before : ℕ) (running : List Preload) (last number : ℕ) (end : LoadEnd) → Rises before running last → Rises before (hold running number end) last
rises_hold before [] last number end rises = rises
rises_hold before (preload ∷ running) last number end rises = go (is_open number preload) refl (rises_hold preload.job.number running last number end rises.1) where
  go : (t : Bool) → is_open number preload ≡ t → Rises preload.job.number (hold running number end) last → Rises before (hold (preload ∷ running) number end) last
  go true e later = rw e rises
  go false e later = rw e (rises.0, later)

pub rises_without : (before : ℕ) (running : List Preload) (last number : ℕ) → Rises before running last → Rises before (without running number) last
rises_without before [] last number rises = rises
rises_without before (preload ∷ running) last number rises = go (is_held number preload) refl (rises_without preload.job.number running last number rises.1) where
  go : (t : Bool) → is_held number preload ≡ t → Rises preload.job.number (without running number) last → Rises before (without (preload ∷ running) number) last
  go true e later = rw e (rises_more before preload.job.number running last (omega (arith, rises.0)) rises.1)
  go false e later = rw e (rises.0, later)

-- ---- how many run

length-hold : (running : List Preload) (number : ℕ) (end : LoadEnd) → length (hold running number end) ≡ length running
length-hold [] number end = refl
length-hold (preload ∷ running) number end = go (is_open number preload) refl (length-hold running number end) where
  go : (t : Bool) → is_open number preload ≡ t → length (hold running number end) ≡ length running → length (hold (preload ∷ running) number end) ≡ length (preload ∷ running)
  go true e later = rw e refl
  go false e later = rw e (ap suc later)

length-without : (running : List Preload) (number : ℕ) → length (without running number) ≤ length running
length-without [] number = omega arith
length-without (preload ∷ running) number = go (is_held number preload) refl (length-without running number) where
  go : (t : Bool) → is_held number preload ≡ t → length (without running number) ≤ length running → length (without (preload ∷ running) number) ≤ length (preload ∷ running)
  go true e later = rw e (omega arith)
  go false e later = rw e (omega (arith, later))

-- ---- held ends fit

fits_push : (running : List Preload) (job : Job) → AllByRecursion HeldFits running → AllByRecursion HeldFits (running ++ record { job = job; end = None } ∷ [])
fits_push [] job fits = search rules
fits_push (one ∷ running) job fits = (fits.0, fits_push running job fits.1)

same_number : (number : ℕ) (preload : Preload) → is_open number preload ≡ true → preload.job.number ≡ number
same_number number preload at = grind arith

fits_hold : (running : List Preload) (number : ℕ) (end : LoadEnd) → Suits running number end → AllByRecursion HeldFits running → AllByRecursion HeldFits (hold running number end)
fits_hold [] number end suits fits = fits
fits_hold (preload ∷ running) number end suits fits = go (is_open number preload) refl (fits_hold running number end suits.1 fits.1) where
  go : (t : Bool) → is_open number preload ≡ t → AllByRecursion HeldFits (hold running number end) → AllByRecursion HeldFits (hold (preload ∷ running) number end)
  go true e later = rw e (suits.0 (same_number number preload e), fits.1)
  go false e later = rw e (fits.0, later)

fits_without : (running : List Preload) (number : ℕ) → AllByRecursion HeldFits running → AllByRecursion HeldFits (without running number)
fits_without [] number fits = fits
fits_without (preload ∷ running) number fits = go (is_held number preload) refl (fits_without running number fits.1) where
  go : (t : Bool) → is_held number preload ≡ t → AllByRecursion HeldFits (without running number) → AllByRecursion HeldFits (without (preload ∷ running) number)
  go true e later = rw e fits.1
  go false e later = rw e (fits.0, later)

held_fits : (job : Job) (end : Option LoadEnd) → HeldFits (record { job = job; end = end }) → IfSome (held_of (record { job = job; end = end })) (λ taken. FitsKind taken.0.kind taken.1)
held_fits job None fits = search rules
held_fits job (Some end) fits = fits

pub collected_fits : (running : List Preload) (number : ℕ) → AllByRecursion HeldFits running → IfSome (collected running number) (λ taken. FitsKind taken.0.kind taken.1)
collected_fits [] number fits = search rules
collected_fits (preload ∷ running) number fits = go (is_held number preload) refl (collected_fits running number fits.1) where
  go : (t : Bool) → is_held number preload ≡ t → IfSome (collected running number) (λ taken. FitsKind taken.0.kind taken.1) → IfSome (collected (preload ∷ running) number) (λ taken. FitsKind taken.0.kind taken.1)
  go true e later = rw e (held_fits preload.job preload.end fits.0)
  go false e later = rw e later

-- ---- at most one for an object

-- for which objects preloads run, a number between them told by none
any_push : (id : ℕ) (running : List Preload) (new : Preload) → list_any (is_for id) running ≡ false → is_for id new ≡ false → list_any (is_for id) (running ++ new ∷ []) ≡ false
any_push id [] new none other = or_false (is_for id new) false other refl
any_push id (preload ∷ running) new none other =
    or_false (is_for id preload) (list_any (is_for id) (running ++ new ∷ [])) (or_first (is_for id preload) (list_any (is_for id) running) none) (any_push id running new (or_last (is_for id preload) (list_any (is_for id) running) none) other)

apart_push : (running : List Preload) (new : Preload) → AreApart running → list_any (is_for new.job.id) running ≡ false → AreApart (running ++ new ∷ [])
apart_push [] new apart none = (refl, tt)
apart_push (preload ∷ running) new apart none = (
  any_push preload.job.id running new apart.0 (differ new.job.id preload.job.id (or_first (is_for new.job.id preload) (list_any (is_for new.job.id) running) none)),
  apart_push running new apart.1 (or_last (is_for new.job.id preload) (list_any (is_for new.job.id) running) none),
)

any_hold : (id : ℕ) (running : List Preload) (number : ℕ) (end : LoadEnd) → list_any (is_for id) (hold running number end) ≡ list_any (is_for id) running
any_hold id [] number end = refl
any_hold id (preload ∷ running) number end = go (is_open number preload) refl (any_hold id running number end) where
  go : (t : Bool) → is_open number preload ≡ t → list_any (is_for id) (hold running number end) ≡ list_any (is_for id) running → list_any (is_for id) (hold (preload ∷ running) number end) ≡ list_any (is_for id) (preload ∷ running)
  go true e later = rw e refl
  go false e later = rw e (ap (λ b. is_for id preload || b) later)

apart_hold : (running : List Preload) (number : ℕ) (end : LoadEnd) → AreApart running → AreApart (hold running number end)
apart_hold [] number end apart = apart
apart_hold (preload ∷ running) number end apart = go (is_open number preload) refl (apart_hold running number end apart.1) where
  go : (t : Bool) → is_open number preload ≡ t → AreApart (hold running number end) → AreApart (hold (preload ∷ running) number end)
  go true e later = rw e apart
  go false e later = rw e (any_hold preload.job.id running number end ∙ apart.0, later)

any_without : (id : ℕ) (running : List Preload) (number : ℕ) → list_any (is_for id) running ≡ false → list_any (is_for id) (without running number) ≡ false
any_without id [] number none = none
any_without id (preload ∷ running) number none = go (is_held number preload) refl (any_without id running number (or_last (is_for id preload) (list_any (is_for id) running) none)) where
  go : (t : Bool) → is_held number preload ≡ t → list_any (is_for id) (without running number) ≡ false → list_any (is_for id) (without (preload ∷ running) number) ≡ false
  go true e later = rw e (or_last (is_for id preload) (list_any (is_for id) running) none)
  go false e later = rw e (or_false (is_for id preload) (list_any (is_for id) (without running number)) (or_first (is_for id preload) (list_any (is_for id) running) none) later)

apart_without : (running : List Preload) (number : ℕ) → AreApart running → AreApart (without running number)
apart_without [] number apart = apart
apart_without (preload ∷ running) number apart = go (is_held number preload) refl (apart_without running number apart.1) where
  go : (t : Bool) → is_held number preload ≡ t → AreApart (without running number) → AreApart (without (preload ∷ running) number)
  go true e later = rw e apart.1
  go false e later = rw e (any_without preload.job.id running number apart.0, later)

-- ---- all of it

pub sound_begin : (running : List Preload) (begun : ℕ) (job : Job) → IsSound (record { running = running; begun = begun }) → length running < 64 → list_any (is_for job.id) running ≡ false → job.number ≡ begun + 1
    → IsSound (record { running = running ++ record { job = job; end = None } ∷ []; begun = begun + 1 })
sound_begin running begun job sound few new next = record {
  apart = apart_push running (record { job = job; end = None }) sound.apart new;
  count = rw (length-append running (record { job = job; end = None } ∷ [])) (omega (arith, few));
  order = rw (sym next) (rises_push 0 running begun (record { job = job; end = None }) sound.order (omega (arith, next)));
  ends = fits_push running job sound.ends;
}

pub sound_hold : (running : List Preload) (begun number : ℕ) (end : LoadEnd) → IsSound (record { running = running; begun = begun }) → Suits running number end
    → IsSound (record { running = hold running number end; begun = begun })
sound_hold running begun number end sound suits = record {
  apart = apart_hold running number end sound.apart;
  count = rw (length-hold running number end) sound.count;
  order = rises_hold 0 running begun number end sound.order;
  ends = fits_hold running number end suits sound.ends;
}

pub sound_without : (running : List Preload) (begun number : ℕ) → IsSound (record { running = running; begun = begun })
    → IsSound (record { running = without running number; begun = begun })
sound_without running begun number sound = record {
  apart = apart_without running number sound.apart;
  count = let h = length-without running number in let c = sound.count in omega arith;
  order = rises_without 0 running begun number sound.order;
  ends = fits_without running number sound.ends;
}

-- ---- a preload found by its place

pub hold_placed : (loads : Loads) (running : List Preload) (begun place number : ℕ) (end : LoadEnd) (item new : Preload) → record { running = running; begun = begun } ≡ loads
    → position (is_open number) loads.running ≡ Some place → item ≡ get_or running place item → new ≡ with_end end item → record { running = set running place new; begun = begun } ≡ after_hold loads number end
hold_placed loads running begun place number end item new whole at is changed = subst (λ (l : Loads). position (is_open number) l.running ≡ Some place → record { running = set running place new; begun = begun } ≡ after_hold l number end) whole go at where
  go : position (is_open number) running ≡ Some place → loads_of (set running place new) begun ≡ loads_of (hold running number end) begun
  go at = let first = position-Some (is_open number) running place item at in
      let held = hold_first running place number end item first.0 first.1 first.2 in
      ap (λ (r : List Preload). loads_of r begun) (sym (held ∙ ap (λ p. set running place p) (ap (with_end end) (sym is) ∙ sym changed)))

pub sound_placed : (loads : Loads) (running : List Preload) (begun place number : ℕ) (end : LoadEnd) (item new : Preload) → record { running = running; begun = begun } ≡ loads
    → position (is_open number) loads.running ≡ Some place → item ≡ get_or running place item → new ≡ with_end end item → Suits loads.running number end
    → IsSound (record { running = running; begun = begun }) → IsSound (record { running = set running place new; begun = begun })
sound_placed loads running begun place number end item new whole at is changed suits sound =
    subst IsSound (sym (hold_placed loads running begun place number end item new whole at is changed))
    (subst (λ (l : Loads). Suits l.running number end → IsSound (after_hold l number end)) whole (λ s. sound_hold running begun number end sound s) suits)

pub collected_placed : (loads : Loads) (running : List Preload) (begun place number : ℕ) (item : Preload) → record { running = running; begun = begun } ≡ loads
    → position (is_held number) loads.running ≡ Some place → item ≡ get_or running place item
    → (held_of item ≡ collected loads.running number) × (record { running = remove running place; begun = begun } ≡ after_collect loads number)
collected_placed loads running begun place number item whole at is = subst (λ (l : Loads). position (is_held number) l.running ≡ Some place → (held_of item ≡ collected l.running number) × (record { running = remove running place; begun = begun } ≡ after_collect l number)) whole go at where
  go : position (is_held number) running ≡ Some place → (held_of item ≡ collected running number) × (loads_of (remove running place) begun ≡ loads_of (without running number) begun)
  go at = let first = position-Some (is_held number) running place item at in
      let taken = collected_first running place number item first.0 first.1 first.2 in
      (sym (taken.0 ∙ ap held_of (sym is)), ap (λ (r : List Preload). loads_of r begun) (sym taken.1))

pub sound_removed : (loads : Loads) (running : List Preload) (begun place number : ℕ) (item : Preload) → record { running = running; begun = begun } ≡ loads
    → position (is_held number) loads.running ≡ Some place → item ≡ get_or running place item
    → IsSound (record { running = running; begun = begun }) → IsSound (record { running = remove running place; begun = begun })
sound_removed loads running begun place number item whole at is sound =
    subst IsSound (sym (collected_placed loads running begun place number item whole at is).1)
    (subst (λ (l : Loads). IsSound (after_collect l number)) whole (sound_without running begun number sound))

-- ---- a preload is cancelled

pub filter_none : (id : ℕ) (running : List Preload) → list_any (is_for id) running ≡ false → filter (λ p. not (is_for id p)) running ≡ running
filter_none id [] none = refl
filter_none id (preload ∷ running) none =
    rw (or_first (is_for id preload) (list_any (is_for id) running) none) (ap (λ rest. preload ∷ rest) (filter_none id running (or_last (is_for id preload) (list_any (is_for id) running) none)))

pub same_object : (id : ℕ) (preload : Preload) → is_for id preload ≡ true → preload.job.id ≡ id
same_object id preload is = grind arith

-- the only preload for an object is taken out
found_first : (running : List Preload) (place id : ℕ) (d : Preload) → AreApart running → place < length running → is_for id (get_or running place d) ≡ true
    → ((k : ℕ) → k < place → is_for id (get_or running k d) ≡ false) → (find (is_for id) running ≡ Some (get_or running place d)) × (filter (λ p. not (is_for id p)) running ≡ remove running place)
found_first [] place id d apart within is before = absurd (omega (arith, within))
found_first (preload ∷ running) zero id d apart within is before =
    rw is (refl, filter_none id running (subst (λ i. list_any (is_for i) running ≡ false) (same_object id preload is) apart.0))
found_first (preload ∷ running) (suc place) id d apart within is before =
    let later = found_first running place id d apart.1 (omega (arith, within)) is (λ k h. before (suc k) (omega (arith, h))) in
    rw (before 0 (omega arith)) (later.0, ap (λ rest. preload ∷ rest) later.1)

pub found_none : (running : List Preload) (id : ℕ) → All (λ preload. is_for id preload ≡ false) running → (find (is_for id) running ≡ None) × (filter (λ p. not (is_for id p)) running ≡ running)
found_none [] id none = (refl, refl)
found_none (preload ∷ running) id none =
    let later = found_none running id (λ k d h. none (suc k) d (omega (arith, h))) in
    rw (none 0 preload (omega arith)) (later.0, ap (λ rest. preload ∷ rest) later.1)

pub rises_filter : (test : Preload → Bool) (before : ℕ) (running : List Preload) (last : ℕ) → Rises before running last → Rises before (filter test running) last
rises_filter test before [] last rises = rises
rises_filter test before (preload ∷ running) last rises = go (test preload) refl (rises_filter test preload.job.number running last rises.1) (rises_filter test before running last (rises_more before preload.job.number running last (omega (arith, rises.0)) rises.1)) where
  go : (t : Bool) → test preload ≡ t → Rises preload.job.number (filter test running) last → Rises before (filter test running) last → Rises before (filter test (preload ∷ running)) last
  go true e kept dropped = rw e (rises.0, kept)
  go false e kept dropped = rw e dropped

pub any_filter : (test : Preload → Bool) (id : ℕ) (running : List Preload) → list_any (is_for id) running ≡ false → list_any (is_for id) (filter test running) ≡ false
any_filter test id [] none = none
any_filter test id (preload ∷ running) none = go (test preload) refl (any_filter test id running (or_last (is_for id preload) (list_any (is_for id) running) none)) where
  go : (t : Bool) → test preload ≡ t → list_any (is_for id) (filter test running) ≡ false → list_any (is_for id) (filter test (preload ∷ running)) ≡ false
  go true e later = rw e (or_false (is_for id preload) (list_any (is_for id) (filter test running)) (or_first (is_for id preload) (list_any (is_for id) running) none) later)
  go false e later = rw e later

pub apart_filter : (test : Preload → Bool) (running : List Preload) → AreApart running → AreApart (filter test running)
apart_filter test [] apart = apart
apart_filter test (preload ∷ running) apart = go (test preload) refl (apart_filter test running apart.1) where
  go : (t : Bool) → test preload ≡ t → AreApart (filter test running) → AreApart (filter test (preload ∷ running))
  go true e later = rw e (any_filter test preload.job.id running apart.0, later)
  go false e later = rw e later

length-filter : (test : Preload → Bool) (running : List Preload) → length (filter test running) ≤ length running
length-filter test [] = omega arith
length-filter test (preload ∷ running) = go (test preload) refl (length-filter test running) where
  go : (t : Bool) → test preload ≡ t → length (filter test running) ≤ length running → length (filter test (preload ∷ running)) ≤ length (preload ∷ running)
  go true e later = rw e (omega (arith, later))
  go false e later = rw e (omega (arith, later))

fits_filter : (test : Preload → Bool) (running : List Preload) → AllByRecursion HeldFits running → AllByRecursion HeldFits (filter test running)
fits_filter test [] fits = fits
fits_filter test (preload ∷ running) fits = go (test preload) refl (fits_filter test running fits.1) where
  go : (t : Bool) → test preload ≡ t → AllByRecursion HeldFits (filter test running) → AllByRecursion HeldFits (filter test (preload ∷ running))
  go true e later = rw e (fits.0, later)
  go false e later = rw e later

sound_filter : (test : Preload → Bool) (running : List Preload) (begun : ℕ) → IsSound (record { running = running; begun = begun }) → IsSound (record { running = filter test running; begun = begun })
sound_filter test running begun sound = record {
  count = let h = length-filter test running in let c = sound.count in omega arith;
  apart = apart_filter test running sound.apart;
  order = rises_filter test 0 running begun sound.order;
  ends = fits_filter test running sound.ends;
}

pub cancelled_placed : (loads : Loads) (running : List Preload) (begun place id : ℕ) (item : Preload) → record { running = running; begun = begun } ≡ loads
    → position (is_for id) loads.running ≡ Some place → item ≡ get_or running place item → IsSound (record { running = running; begun = begun })
    → (Ok item.job ≡ cancelled loads id) × (record { running = remove running place; begun = begun } ≡ after_cancel loads id)
cancelled_placed loads running begun place id item whole at is sound = subst (λ (l : Loads). position (is_for id) l.running ≡ Some place → (Ok item.job ≡ cancelled l id) × (record { running = remove running place; begun = begun } ≡ after_cancel l id)) whole go at where
  go : position (is_for id) running ≡ Some place → (Ok item.job ≡ cancelled (loads_of running begun) id) × (loads_of (remove running place) begun ≡ after_cancel (loads_of running begun) id)
  go at = let first = position-Some (is_for id) running place item at in
      let taken = found_first running place id item sound.apart first.0 first.1 first.2 in
      (sym (ap (λ (o : Option Preload). option_map_or (λ (p : Preload). Ok p.job) o (Err NotLoading)) (taken.0 ∙ ap Some (sym is))), ap (λ (r : List Preload). loads_of r begun) (sym taken.1))

pub placed_for : (loads : Loads) (running : List Preload) (begun place id : ℕ) (item : Preload) → record { running = running; begun = begun } ≡ loads
    → position (is_for id) loads.running ≡ Some place → item ≡ get_or running place item → item.job.id ≡ id
placed_for loads running begun place id item whole at is = subst (λ (l : Loads). position (is_for id) l.running ≡ Some place → item.job.id ≡ id) whole go at where
  go : position (is_for id) running ≡ Some place → item.job.id ≡ id
  go at = same_object id item (ap (is_for id) is ∙ (position-Some (is_for id) running place item at).1)

pub sound_cancelled : (loads : Loads) (running : List Preload) (begun place id : ℕ) (item : Preload) → record { running = running; begun = begun } ≡ loads
    → position (is_for id) loads.running ≡ Some place → item ≡ get_or running place item
    → IsSound (record { running = running; begun = begun }) → IsSound (record { running = remove running place; begun = begun })
sound_cancelled loads running begun place id item whole at is sound =
    subst IsSound (sym (cancelled_placed loads running begun place id item whole at is sound).1)
    (subst (λ (l : Loads). IsSound (after_cancel l id)) whole (sound_filter (λ p. not (is_for id p)) running begun sound))
