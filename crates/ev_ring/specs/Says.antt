-- What the calls of the ring answer, by the caller's view before and after.
use Rattle.std.specs.Prelude.{◌≡◌, ℕ, ◌+◌, ◌*◌, ◌<◌, ◌≤◌, true, false, List, [], ◌∷◌, length, Some, None}
use Rattle.ev_seats.specs.Jobs.{job_of, numbered}
use Rattle.ev_ring.specs.Steps.{with_owner, saw_limit, saw_claim, lost_to, saw_done, published_to, IsLater}
use Rattle.ev_ring.specs.Moves.{counting, got_job, both, Sees}
use Rattle.ev_ring.specs.declared.view.View.{View}
use Rattle.ev_ring.specs.declared.answers.Claim.{Claim}
use Rattle.ev_ring.specs.declared.answers.Claim.TheVariants.{Got, Empty, Lost, Closed}
use Rattle.ev_ring.specs.declared.answers.Ready.{Ready}
use Rattle.ev_ring.specs.declared.answers.Ready.TheVariants.{Yes, No}

-- the most tickets of one ring
abbrev pub MAX_TICKETS : ℕ
MAX_TICKETS = 4611686018427387904

-- the lowest limit that is closed
abbrev pub TOP : ℕ
TOP = 9223372036854775808

-- each ticket from one number up to another has a job
abbrev pub HasJobs : {J : Type 0} → ℕ → ℕ → List (ℕ × J) → Type 0
HasJobs {J} from to jobs = (ticket : ℕ) → from ≤ ticket → ticket < to → (job : J) × (job_of ticket jobs ≡ Some job)

module _ {J : Type 0} where
  -- the limit was loaded, and then the claim
  abbrev pub saw_both : ℕ → ℕ → View J → View J
  saw_both limit claim v = counting v (saw_claim claim (saw_limit limit v.counts))

  -- a quiet owner looked twice at the number of tickets done, and has now these jobs in slots
  abbrev pub stocked : List (ℕ × J) → View J → View J
  stocked jobs v = record {
    counts = with_owner v.counts record v.counts.owner { is_quiet = true; done_seen = v.counts.owner.limit; done_looks = v.counts.owner.done_looks + 1 + 1 };
    job = v.job;
    jobs = jobs;
    out = None;
  }

  -- an owner took in a hand's seat and then loaded the claim
  abbrev pub joined : ℕ → View J → View J → View J
  joined claim v w = let b : View J = both v w in counting b (saw_claim claim b.counts)

  -- Got: the limit loaded is not closed, and the ticket, which is the claim loaded, is below it.
  -- Empty: the claim loaded is not below the limit loaded.
  -- Lost: the exchange found a larger value than the claim loaded.
  -- Closed: the limit loaded has its top bit. It is answered just where that is so.
  abbrev pub Claims : View J → Claim J → View J → Type 0
  Claims v (Got ticket job) w = (limit : ℕ) × (limit < TOP) × (ticket < limit) × IsLater v.counts ticket × (w ≡ got_job ticket job (saw_both limit ticket v))
  Claims v (Empty claim limit) w = (limit < TOP) × (limit ≤ claim) × IsLater v.counts claim × (w ≡ saw_both limit claim v)
  Claims v (Lost found) w = (limit : ℕ) × (claim : ℕ) × (limit < TOP) × (claim < limit) × (claim < found) × IsLater v.counts claim × (w ≡ counting v (lost_to found (saw_both limit claim v).counts))
  Claims v Closed w = (limit : ℕ) × (claim : ℕ) × (TOP ≤ limit) × IsLater v.counts claim × (w ≡ saw_both limit claim v)

  abbrev pub DoneSeen : View J → ℕ → View J → Type 0
  DoneSeen v done w = (w ≡ counting v (saw_done done v.counts)) × Sees v.counts done

  -- Yes: the number of tickets done that was loaded is the limit.
  -- No: it is below the limit. It counts each ticket that the owner gave back itself, and is no less than what the owner saw before.
  abbrev pub Readies : View J → Ready → View J → Type 0
  Readies v Yes w = DoneSeen v v.counts.owner.limit w × (w.counts.owner.is_quiet ≡ true)
  Readies v (No done limit) w = DoneSeen v done w × (w.counts.owner.is_quiet ≡ false) × (limit ≡ v.counts.owner.limit) × (done < limit)

  -- the number of tickets done that was seen last, where a quiet owner put these jobs into slots
  abbrev pub last_seen : View J → List J → ℕ
  last_seen v [] = v.counts.owner.done_seen
  last_seen v (job ∷ jobs) = v.counts.owner.limit

  -- a quiet owner put these jobs into slots, with the tickets from `first` on, and looked twice for each at the number of tickets done
  abbrev pub filled : ℕ → List J → View J → View J
  filled first jobs v = record {
    counts = with_owner v.counts record v.counts.owner { done_seen = last_seen v jobs; done_looks = v.counts.owner.done_looks + 2 * length jobs };
    job = v.job;
    jobs = numbered first jobs;
    out = None;
  }

  -- and raised the limit over them
  abbrev pub raised : List J → View J → View J
  raised jobs v = let w : View J = filled v.counts.owner.limit jobs v in counting w (published_to (v.counts.owner.limit + length jobs) w.counts)
