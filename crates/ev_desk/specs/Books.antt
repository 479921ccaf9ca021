-- Each job that was asked comes back once.
use Rattle.std.specs.Prelude.{◌≡◌, ℕ, ◌+◌, Some, None}
use Rattle.ev_seats.specs.Weights.{total}
use Rattle.ev_seats.specs.Jobs.{job_of, is_at}
use Rattle.ev_desk.specs.DeskSays.{stage_at}
use Rattle.ev_desk.specs.declared.view.Stage.{Stage}
use Rattle.ev_desk.specs.declared.view.Stage.TheVariants.{Free, Asked, Ended, Closed}
use Rattle.ev_desk.specs.declared.view.View.{View}

-- how many jobs a place of this stage has
abbrev pub jobs_at : Stage → ℕ
jobs_at Free = 0
jobs_at Asked = 1
jobs_at Ended = 1
jobs_at Closed = 0

-- what an asker knows of its jobs between its calls
pub record Books {J : Type 0} (v : View J) : Type 0 where
  -- a place that is asked has one job, and any other place has none
  pub one_each : (place : ℕ) → total (is_at place) v.jobs ≡ jobs_at (stage_at place v)
  -- each job at each place was asked as often as it came back and is still there
  pub balanced : (f : ℕ × J → ℕ) → total f v.asked ≡ total f v.back + total f v.jobs

-- a place has a job where it is asked, and no job where it is not
abbrev pub HasJobWhereAsked : {J : Type 0} → View J → Type 0
HasJobWhereAsked {J} v = (place : ℕ) → (stage_at place v ≡ Asked → (job : J) × (job_of place v.jobs ≡ Some job)) × (stage_at place v ≡ Free → job_of place v.jobs ≡ None)
