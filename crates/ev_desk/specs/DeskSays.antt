-- What the calls of the desk answer, by the caller's view before and after.
use Rattle.std.specs.Prelude.{◌≡◌, ◌≢◌, ◌⊎◌, ℕ, ◌+◌, ◌<◌, ◌≤◌, Bool, List, ◌∷◌, map, Option, Some, None, Result, Ok, Err}
use Rattle.ev_seats.specs.Jobs.{job_of}
use Rattle.ev_desk.specs.DeskTally.{IsEnd}
use Rattle.ev_desk.specs.DeskSteps.{spot_of, try_of, staged, looked_at, took_end, came_late, with_loader, tried}
use Rattle.ev_desk.specs.DeskSlots.{end_word}
use Rattle.ev_desk.specs.DeskMoves.{counting, freeing, doing}
use Rattle.ev_desk.specs.declared.view.Stage.{Stage}
use Rattle.ev_desk.specs.declared.view.Stage.TheVariants.{Free, Asked, Ended, Closed}
use Rattle.ev_desk.specs.declared.answers.Ask.{Ask}
use Rattle.ev_desk.specs.declared.answers.Ask.TheVariants.{Placed, Full}
use Rattle.ev_desk.specs.declared.answers.Collect.{Collect}
use Rattle.ev_desk.specs.declared.answers.Collect.TheVariants.{End, NotYet, Free as NothingAsked}
use Rattle.ev_desk.specs.declared.answers.Withdraw.{Withdraw}
use Rattle.ev_desk.specs.declared.answers.Withdraw.TheVariants.{Back, Late}
use Rattle.ev_desk.specs.declared.answers.TakeJob.{TakeJob}
use Rattle.ev_desk.specs.declared.answers.TakeJob.TheVariants.{Got, Nothing, Closed as TakeClosed}
use Rattle.ev_desk.specs.declared.view.Try.{Try}
use Rattle.ev_desk.specs.declared.view.Spot.{Spot}
use Rattle.ev_desk.specs.declared.view.Counts.{Counts}
use Rattle.ev_desk.specs.declared.view.View.{View}

abbrev pub stage_of : Spot → Stage
stage_of x = x.stage

-- the loader tried some places, and has now these tries and holds this
abbrev pub with_tries : List Try → Option ℕ → Counts → Counts
with_tries tries held c = with_loader c record { tries = tries; held = held; faults = c.loader.faults }

-- the asker has its places so from now on
abbrev pub with_spots : List Spot → Counts → Counts
with_spots spots c = record { role = c.role; asker = record { spots = spots; taken = c.asker.taken; loaders = c.asker.loaders }; loader = c.loader }

-- a place was closed, at which nothing is
abbrev pub shut_spot : Spot → Spot
shut_spot x = record x { stage = Closed }

module _ {J : Type 0} where
  -- the asker closed each place
  abbrev pub shut_down : View J → View J
  shut_down v = counting v (with_spots (map shut_spot v.counts.asker.spots) v.counts)

  -- how the asker has a place. No place above 63 is free or asked
  abbrev pub stage_at : ℕ → View J → Stage
  stage_at place v = (spot_of place v.counts).stage

  abbrev pub try_at : ℕ → View J → Try
  try_at place v = try_of place v.counts

  -- each place is free
  abbrev pub IsIdle : View J → Type 0
  IsIdle v = (place : ℕ) → place < 64 → stage_at place v ≡ Free

  -- one place is asked, and each other one is free
  abbrev pub IsOnlyAsked : ℕ → View J → Type 0
  IsOnlyAsked place v = (stage_at place v ≡ Asked) × ((q : ℕ) → q < 64 → q ≢ place → stage_at q v ≡ Free)

  -- a job was left at a free place
  abbrev pub asked_at : ℕ → J → View J → View J
  asked_at place job v = record v { counts = staged place Asked (looked_at place 0 Free v.counts); jobs = (place, job) ∷ v.jobs; asked = (place, job) ∷ v.asked; out = None }

  -- a look found this word, and the job is still out
  abbrev pub saw_busy : ℕ → ℕ → View J → View J
  saw_busy place word v = counting v (looked_at place word Asked v.counts)

  -- a look found the word of an end, and the end was taken
  abbrev pub collected : ℕ → ℕ → View J → View J
  collected place word v = freeing place v (took_end place (looked_at place word Ended v.counts)) None

  -- the job was taken back before the loader took it
  abbrev pub taken_back : ℕ → View J → View J
  taken_back place v = freeing place v (looked_at place 0 Free (staged place Free v.counts)) None

  abbrev pub found_late : ℕ → ℕ → View J → View J
  found_late place word v = counting v (came_late place word v.counts)

  -- of one place: the loader has its job, or found another word
  abbrev pub Attempts : ℕ → View J → Result J ℕ → View J → Type 0
  Attempts place v (Ok job) w = w ≡ doing v (tried place 1 (Some place) v.counts) (Some job)
  Attempts place v (Err word) w = (word ≢ 1) × (w ≡ counting v (tried place word v.counts.loader.held v.counts))

module _ {J E : Type 0} (belongs : J → E → Type 0) (faulty : E → Bool) where
  -- of a place that is asked: the end, or the word of a job that is out
  abbrev pub Ends : ℕ → View J → Result (J × E) ℕ → View J → Type 0
  Ends place v (Ok x) w = (job_of place v.jobs ≡ Some x.0) × belongs x.0 x.1 × (w ≡ collected place (end_word (faulty x.1)) v)
  Ends place v (Err word) w = (1 ≤ word) × (word ≤ 2) × (w ≡ saw_busy place word v)

module _ {J : Type 0} where
  -- of a place that is asked: the job, or the word that was found there
  abbrev pub Backs : ℕ → View J → Result J ℕ → View J → Type 0
  Backs place v (Ok job) w = (job_of place v.jobs ≡ Some job) × (w ≡ taken_back place v)
  Backs place v (Err word) w = ((word ≡ 2) ⊎ IsEnd word) × (w ≡ found_late place word v)

module _ {J : Type 0} where
  -- Placed: the place was free, and has the job now. Full: none of the 64 places is free
  abbrev pub Asks : View J → J → Ask J → View J → Type 0
  Asks v job (Placed place) w = (place < 64) × (stage_at place v ≡ Free) × (w ≡ asked_at place job v)
  Asks v job (Full back) w = (back ≡ job) × ((place : ℕ) → place < 64 → stage_at place v ≢ Free) × (w ≡ v)

  -- Back: the job of the place, which is free. Late: the loader took it first
  abbrev pub Withdraws : ℕ → View J → Withdraw J → View J → Type 0
  Withdraws place v (Back job) w = (job_of place v.jobs ≡ Some job) × (w ≡ taken_back place v)
  Withdraws place v (Late word) w = ((word ≡ 2) ⊎ (word ≡ 3) ⊎ (word ≡ 5)) × (w ≡ found_late place word v)

  -- the place was tried once more, and this word was found
  abbrev pub IsTried : View J → View J → ℕ → ℕ → Type 0
  IsTried v w place word = ((try_at place w).count ≡ (try_at place v).count + 1) × ((try_at place w).found ≡ word)

  -- the place was tried once more, and another word than 1 and 4 was found
  abbrev pub IsMissed : View J → View J → ℕ → Type 0
  IsMissed v w place = ((try_at place w).count ≡ (try_at place v).count + 1) × ((try_at place w).found ≢ 1) × ((try_at place w).found ≢ 4)

  -- of the other places each was tried in vain, or not tried
  abbrev pub IsFirstHit : View J → View J → ℕ → Type 0
  IsFirstHit v w place = (q : ℕ) → q < 64 → q ≢ place → IsMissed v w q ⊎ (try_at q w ≡ try_at q v)

  -- Got: the loader holds the place and knows its job. Nothing: each of the 64 words was tried, and none was 1 or 4. Closed: a word that was tried was 4
  abbrev pub Takes : View J → TakeJob J → View J → Type 0
  Takes v (Got place job) w = (place < 64) × IsTried v w place 1 × IsFirstHit v w place × (w ≡ doing v (with_tries w.counts.loader.tries (Some place) v.counts) (Some job))
  Takes v Nothing w = ((place : ℕ) → place < 64 → IsMissed v w place) × (w ≡ counting v (with_tries w.counts.loader.tries None v.counts))
  Takes v TakeClosed w = ((place : ℕ) × (place < 64) × IsTried v w place 4 × IsFirstHit v w place) × (w ≡ counting v (with_tries w.counts.loader.tries None v.counts))

module _ {J E : Type 0} (belongs : J → E → Type 0) (faulty : E → Bool) where
  -- End: the job that was asked there, and an end that belongs to it. The word was 5 where that is a fault, and else 3
  -- NotYet: the place was looked at once more, and its word was 1 or 2. Free: nothing is asked there
  abbrev pub Collects : ℕ → View J → Collect J E → View J → Type 0
  Collects place v (End job end) w = (stage_at place v ≡ Asked) × (job_of place v.jobs ≡ Some job) × belongs job end × (w ≡ collected place (end_word (faulty end)) v)
  Collects place v (NotYet word) w = (stage_at place v ≡ Asked) × (1 ≤ word) × (word ≤ 2) × (w ≡ saw_busy place word v)
  Collects place v NothingAsked w = (stage_at place v ≢ Asked) × (w ≡ v)
