-- What each step tells the seat that makes it, with the slots that move: of the step, the seat before, the number found (or stored) and the seat after.
use Rattle.std.specs.Prelude.{◌≡◌, ◌≢◌, ◌⊎◌, ℕ, ◌<◌, ◌≤◌, Bool, List, [], ◌∷◌, Option, Some, None}
use Rattle.atomic_table.specs.Table.{Me, Step, rest}
use Rattle.ev_seats.specs.Jobs.{job_of, without, with_job}
use Rattle.ev_desk.specs.DeskTally.{IsEnd}
use Rattle.ev_desk.specs.DeskSteps.{staged, looked_at, took_end, came_late, tried, ended_with, with_loader_out, taken_in}
use Rattle.ev_desk.specs.DeskSlots.{Slot, end_word, place_of}
use Rattle.ev_desk.specs.declared.view.Stage.TheVariants.{Free, Asked, Ended, Closed}
use Rattle.ev_desk.specs.declared.view.Counts.{Counts}
use Rattle.ev_desk.specs.declared.view.View.{View}
use Rattle.ev_desk.specs.declared.view.Entry.TheVariants.{Waiting, Finished}

module _ {J : Type 0} where
  -- the view with other numbers
  abbrev pub counting : View J → Counts → View J
  counting v c = record v { counts = c }

  -- the asker's view with other numbers, and another slot out
  abbrev pub keeping : View J → Counts → Option ℕ → View J
  keeping v c out = record v { counts = c; out = out }

  -- the asker's view with other numbers, and no job at the place any more
  abbrev pub freeing : ℕ → View J → Counts → Option ℕ → View J
  freeing p v c out = record v { counts = c; jobs = without p v.jobs; back = with_job p (job_of p v.jobs) v.back; out = out }

  -- the loader's view with other numbers and another job
  abbrev pub doing : View J → Counts → Option J → View J
  doing v c job = record v { counts = c; job = job }

  abbrev pub parted : View J → View J
  parted v = counting v (with_loader_out v.counts)

  abbrev pub both : View J → View J → View J
  both v w = counting v (taken_in v.counts w.counts)

-- a seat's view, with the slots that it holds
abbrev pub Sat : Type 0 → Type 0 → Type 0
Sat J E = Me (Slot J E) (View J)

-- the jobs, with the one that waits in the first of these slots
abbrev pub put_in : {J E : Type 0} → List (ℕ × Slot J E) → List (ℕ × J) → List (ℕ × J)
put_in [] jobs = jobs
put_in ((i, None) ∷ xs) jobs = jobs
put_in ((i, Some (Waiting job)) ∷ xs) jobs = (i, job) ∷ jobs
put_in ((i, Some (Finished job end)) ∷ xs) jobs = jobs

module _ {J E : Type 0} where
  -- the asker takes the empty slot of a free place
  abbrev pub emptied_at : ℕ → Sat J E → ℕ → Sat J E → Type 0
  emptied_at p m r n = (n ≡ (keeping m.0 (looked_at p r Free m.0.counts) (Some p), (p, None) ∷ m.1)) × (r ≡ 0)

  -- it leaves the job that it put into the slot
  abbrev pub left_at : ℕ → Sat J E → ℕ → Sat J E → Type 0
  left_at p m r n = n ≡ (record m.0 { counts = staged p Asked m.0.counts; jobs = put_in m.1 m.0.jobs; asked = put_in m.1 m.0.asked; out = None }, rest m.1)

  abbrev pub shut_at : ℕ → Sat J E → ℕ → Sat J E → Type 0
  shut_at p m r n = n ≡ (counting m.0 (staged p Closed m.0.counts), m.1)

  -- it looks at a place that is asked. An end comes with its slot
  abbrev pub looked_at_end : (J → E → Type 0) → (E → Bool) → ℕ → Sat J E → ℕ → Sat J E → Type 0
  looked_at_end belongs faulty p m r n = (r < 3 → (1 ≤ r) × (n ≡ (counting m.0 (looked_at p r Asked m.0.counts), m.1)))
      × (3 ≤ r → (job : J) × (end : E) × (job_of p m.0.jobs ≡ Some job) × belongs job end × (r ≡ end_word (faulty end))
      × (n ≡ (keeping m.0 (looked_at p r Ended m.0.counts) (Some p), (p, Some (Finished job end)) ∷ m.1)))

  -- it gives back the slot from which it took an end, and the place is free
  abbrev pub took_at : ℕ → Sat J E → ℕ → Sat J E → Type 0
  took_at p m r n = n ≡ (freeing p m.0 (took_end p m.0.counts) None, rest m.1)

  -- it takes a job back that still waits
  abbrev pub withdrawn_at : ℕ → Sat J E → ℕ → Sat J E → Type 0
  withdrawn_at p m r n = (r ≡ 1 → (job : J) × (job_of p m.0.jobs ≡ Some job) × (n ≡ (freeing p m.0 (staged p Free m.0.counts) (Some p), (p, Some (Waiting job)) ∷ m.1)))
      × (r ≢ 1 → ((r ≡ 2) ⊎ IsEnd r) × (n ≡ (counting m.0 (came_late p r m.0.counts), m.1)))

  -- it gives back the empty slot of a free place
  abbrev pub returned_at : ℕ → Sat J E → ℕ → Sat J E → Type 0
  returned_at p m r n = (n ≡ (keeping m.0 (looked_at p r Free m.0.counts) None, rest m.1)) × (r ≡ 0)

  -- the loader tries to take a place
  abbrev pub tried_at : ℕ → Sat J E → ℕ → Sat J E → Type 0
  tried_at p m r n = (r ≡ 1 → (job : J) × (n ≡ (doing m.0 (tried p r (Some p) m.0.counts) (Some job), (p, Some (Waiting job)) ∷ m.1)))
      × (r ≢ 1 → n ≡ (counting m.0 (tried p r m.0.counts.loader.held m.0.counts), m.1))

  -- the same of a step, by its word
  abbrev pub emptied : Step (Slot J E) → Sat J E → ℕ → Sat J E → Type 0
  emptied st = emptied_at (place_of st.word)

  abbrev pub left : Step (Slot J E) → Sat J E → ℕ → Sat J E → Type 0
  left st = left_at (place_of st.word)

  abbrev pub shut : Step (Slot J E) → Sat J E → ℕ → Sat J E → Type 0
  shut st = shut_at (place_of st.word)

  abbrev pub looked : (J → E → Type 0) → (E → Bool) → Step (Slot J E) → Sat J E → ℕ → Sat J E → Type 0
  looked belongs faulty st = looked_at_end belongs faulty (place_of st.word)

  abbrev pub took : Step (Slot J E) → Sat J E → ℕ → Sat J E → Type 0
  took st = took_at (place_of st.word)

  abbrev pub withdrawn : Step (Slot J E) → Sat J E → ℕ → Sat J E → Type 0
  withdrawn st = withdrawn_at (place_of st.word)

  abbrev pub returned : Step (Slot J E) → Sat J E → ℕ → Sat J E → Type 0
  returned st = returned_at (place_of st.word)

  abbrev pub trying : Step (Slot J E) → Sat J E → ℕ → Sat J E → Type 0
  trying st = tried_at (place_of st.word)

  -- the loader ends the place that it holds with the word that the step stores, and its slot goes back
  abbrev pub ended : Step (Slot J E) → Sat J E → ℕ → Sat J E → Type 0
  ended st m r n = n ≡ (doing m.0 (ended_with st.first m.0.counts) None, rest m.1)

  abbrev pub rung : Step (Slot J E) → Sat J E → ℕ → Sat J E → Type 0
  rung st m r n = n ≡ m

  -- where the loader is joined, no more faults were taken than given
  abbrev pub counted : Step (Slot J E) → Sat J E → ℕ → Sat J E → Type 0
  counted st m r n = (n ≡ m) × (m.0.counts.asker.loaders ≡ 0 → m.0.counts.asker.taken ≤ m.0.counts.loader.faults)
