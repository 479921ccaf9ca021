-- What each step tells the seat that makes it, with the slots that move: of the step, the seat before, the number found (or stored) and the seat after.
use Rattle.std.specs.Prelude.{◌≡◌, ◌≢◌, ℕ, ◌+◌, ◌<◌, ◌≤◌, true, List, [], ◌∷◌, Option, Some, None}
use Rattle.atomic_table.specs.Table.{Me, Step, rest}
use Rattle.ev_ring.specs.Tally.{bare}
use Rattle.ev_seats.specs.Jobs.{job_of, without}
use Rattle.ev_ring.specs.RingSlots.{Slot, slot_of}
use Rattle.ev_ring.specs.Steps.{saw_limit, saw_claim, got_ticket, lost_to, gave_ticket, saw_done, published_to, closed_view, with_hand_out, new_hand as new_counts, taken_in, IsLater, HasAll}
use Rattle.ev_ring.specs.declared.view.Counts.{Counts}
use Rattle.ev_ring.specs.declared.view.View.{View}
use Rattle.ev_ring.specs.declared.view.Entry.TheVariants.{Waiting, Finished}

module _ {J : Type 0} where
  -- the view with other numbers
  abbrev pub counting : View J → Counts → View J
  counting v c = record { counts = c; job = v.job; jobs = v.jobs; out = v.out }

  -- a ticket was got, with its job
  abbrev pub got_job : ℕ → J → View J → View J
  got_job ticket job v = record { counts = got_ticket ticket v.counts; job = Some job; jobs = v.jobs; out = v.out }

  abbrev pub gave_job : View J → View J
  gave_job v = record { counts = gave_ticket v.counts; job = None; jobs = v.jobs; out = v.out }

  -- the owner looked at the number of tickets done, and has now these jobs and this slot out
  abbrev pub shelved : ℕ → List (ℕ × J) → Option ℕ → View J → View J
  shelved found jobs out v = record { counts = saw_done found v.counts; job = v.job; jobs = jobs; out = out }

  abbrev pub parted : View J → View J
  parted v = counting v (with_hand_out v.counts)

  abbrev pub new_hand : View J
  new_hand = record { counts = new_counts; job = None; jobs = []; out = None }

  abbrev pub both : View J → View J → View J
  both v w = counting v (taken_in v.counts w.counts)

-- a seat's view, with the slots that it holds
abbrev pub Sat : Type 0 → Type 0 → Type 0
Sat J D = Me (Slot J D) (View J)

-- the jobs, with the one that waits in the first of these slots
abbrev pub put_in : {J D : Type 0} → List (ℕ × Slot J D) → List (ℕ × J) → List (ℕ × J)
put_in [] jobs = jobs
put_in ((i, None) ∷ xs) jobs = jobs
put_in ((i, Some (Waiting ticket job)) ∷ xs) jobs = (ticket, job) ∷ jobs
put_in ((i, Some (Finished ticket result)) ∷ xs) jobs = jobs

-- what the owner learns of the number of tickets done
abbrev pub Sees : Counts → ℕ → Type 0
Sees v r = (v.owner.done_seen ≤ r) × (v.owner.base + v.owner.own_given ≤ r) × (r ≤ v.owner.limit) × (v.owner.is_quiet ≡ true → r ≡ v.owner.limit)

module _ {J D : Type 0} where
  abbrev pub limit_seen : Step (Slot J D) → Sat J D → ℕ → Sat J D → Type 0
  limit_seen st m r n = (n ≡ (counting m.0 (saw_limit r m.0.counts), m.1)) × (bare m.0.counts.hand.limit_read ≤ bare r)

  abbrev pub claim_seen : Step (Slot J D) → Sat J D → ℕ → Sat J D → Type 0
  claim_seen st m r n = (n ≡ (counting m.0 (saw_claim r m.0.counts), m.1)) × IsLater m.0.counts r × HasAll m.0.counts r

  -- where it is won, the slot of the ticket comes with its job
  abbrev pub claimed : Step (Slot J D) → Sat J D → ℕ → Sat J D → Type 0
  claimed st m r n = (r ≡ st.first → (job : J) × (n ≡ (got_job st.first job m.0, (slot_of st.first, Some (Waiting st.first job)) ∷ m.1)))
      × (r ≢ st.first → (n ≡ (counting m.0 (lost_to r m.0.counts), m.1)) × (m.0.counts.hand.claim_read < r))

  -- the slot goes back
  abbrev pub given : Step (Slot J D) → Sat J D → ℕ → Sat J D → Type 0
  given st m r n = n ≡ (gave_job m.0, rest m.1)

  abbrev pub done_seen : Step (Slot J D) → Sat J D → ℕ → Sat J D → Type 0
  done_seen st m r n = (n ≡ (counting m.0 (saw_done r m.0.counts), m.1)) × Sees m.0.counts r

  -- a quiet owner takes an empty slot, to put the job of this ticket into it
  abbrev pub emptied : ℕ → Step (Slot J D) → Sat J D → ℕ → Sat J D → Type 0
  emptied ticket st m r n = (n ≡ (shelved r m.0.jobs (Some (slot_of ticket)) m.0, (slot_of ticket, None) ∷ m.1)) × Sees m.0.counts r

  -- it gives a slot back. A job that it put into the slot is one of its jobs from now on
  abbrev pub returned : Step (Slot J D) → Sat J D → ℕ → Sat J D → Type 0
  returned st m r n = (n ≡ (shelved r (put_in m.1 m.0.jobs) None m.0, rest m.1)) × Sees m.0.counts r

  -- it takes the slot of a ticket, with what belongs to the ticket's job
  abbrev pub collected : (J → D → Type 0) → ℕ → Step (Slot J D) → Sat J D → ℕ → Sat J D → Type 0
  collected belongs ticket st m r n = (job : J) × (d : D) × (job_of ticket m.0.jobs ≡ Some job) × belongs job d
      × (n ≡ (shelved r (without ticket m.0.jobs) (Some (slot_of ticket)) m.0, (slot_of ticket, Some (Finished ticket d)) ∷ m.1)) × Sees m.0.counts r

  abbrev pub published : Step (Slot J D) → Sat J D → ℕ → Sat J D → Type 0
  published st m r n = n ≡ (counting m.0 (published_to (bare r) m.0.counts), m.1)

  abbrev pub closed : Step (Slot J D) → Sat J D → ℕ → Sat J D → Type 0
  closed st m r n = n ≡ (counting m.0 (closed_view m.0.counts), m.1)

  abbrev pub rung : Step (Slot J D) → Sat J D → ℕ → Sat J D → Type 0
  rung st m r n = n ≡ m
