-- Each job that was asked comes back once: what the asker's calls keep of its books.
use Rattle.std.proofs.Common.{◌≡◌, ◌≢◌, ℕ, zero, suc, ◌+◌, ◌≤◌, ◌∷◌, replicate, sym, refl, ap, ◌∙◌, subst, arith}
use mathlib.Core.Logic.{dite}
use native.Mathlib.Decide.{ℕ_discrete}
use Rattle.ev_seats.specs.Weights.{total}
use Rattle.ev_seats.specs.Jobs.{job_of, without, with_job, is_at}
use Rattle.ev_seats.proofs.Jobs.{at-same, at-other, total-gone, total-stays, total-without, total-with, none_there, one_there}
use Rattle.ev_desk.specs.DeskTally.{free_spot}
use Rattle.ev_desk.specs.DeskSteps.{spot_at}
use Rattle.ev_desk.specs.DeskSlots.{opening_view}
use Rattle.ev_desk.specs.DeskMoves.{parted}
use Rattle.ev_desk.specs.DeskSays.{stage_at, asked_at, saw_busy, collected, taken_back, found_late}
use Rattle.ev_desk.specs.Books.{jobs_at, Books, HasJobWhereAsked}
use Rattle.ev_desk.specs.declared.view.Stage.{Stage}
use Rattle.ev_desk.specs.declared.view.Stage.TheVariants.{Free, Asked}
use Rattle.ev_desk.specs.declared.view.View.{View}
use Rattle.ev_desk.proofs.Stages.{asked_here, asked_else, busy_same, collected_here, collected_else, back_here, back_else, late_same}

none_at_first : (n p : ℕ) → jobs_at (spot_at p (replicate n free_spot)).stage ≡ 0
none_at_first zero p = refl
none_at_first (suc n) zero = refl
none_at_first (suc n) (suc p) = none_at_first n p

module _ {J : Type 0} where
  pub books_open : (v : View J) → v ≡ parted opening_view → Books v
  books_open v is = subst (λ (w : View J). Books w) (sym is) record { one_each = λ p. sym (none_at_first 64 p); balanced = λ f. refl }

  -- no job moves, and each place has as many as before
  pub books_stay : (v w : View J) → Books v → w.jobs ≡ v.jobs → w.asked ≡ v.asked → w.back ≡ v.back → ((q : ℕ) → jobs_at (stage_at q w) ≡ jobs_at (stage_at q v)) → Books w
  books_stay v w b jobs asked back same = record {
    one_each = λ q. ap (total (is_at q)) jobs ∙ (b.one_each q ∙ sym (same q));
    balanced = λ f. ap (total f) asked ∙ (b.balanced f ∙ sym (λ i. total f (back i) + total f (jobs i)));
  }

  -- a job is left at a free place
  pub books_asked : (v w : View J) (p : ℕ) (job : J) → Books v → stage_at p v ≡ Free → w ≡ asked_at p job v → Books w
  books_asked v w p job b free is =
      let here = (asked_here v w p job free is).0 in let jobs : w.jobs ≡ (p, job) ∷ v.jobs = ap (λ (u : View J). u.jobs) is in
      record {
        one_each = λ q. ap (total (is_at q)) jobs ∙ dite (ℕ_discrete p q)
            (λ e. omega (arith, at-same q (p, job) e, b.one_each q, ap (λ (k : ℕ). jobs_at (stage_at k v)) (sym e), ap jobs_at free, ap (λ (k : ℕ). jobs_at (stage_at k w)) (sym e), ap jobs_at here))
            (λ n. omega (arith, at-other q (p, job) n, b.one_each q, ap jobs_at (asked_else v w p q job is (λ e. n (sym e)))));
        balanced = λ f. omega (arith, ap (λ (u : View J). total f u.asked) is, ap (λ (u : View J). total f u.back) is, ap (total f) jobs, b.balanced f);
      }

  -- the job of a place comes back
  freed : (v w : View J) (p : ℕ) → Books v → stage_at p v ≡ Asked → stage_at p w ≡ Free → ((q : ℕ) → q ≢ p → stage_at q w ≡ stage_at q v) → w.jobs ≡ without p v.jobs → w.asked ≡ v.asked → w.back ≡ with_job p (job_of p v.jobs) v.back → Books w
  freed v w p b was is others jobs asked back =
      let one : total (is_at p) v.jobs ≤ 1 = omega (arith, b.one_each p, ap jobs_at was) in
      record {
        one_each = λ q. ap (total (is_at q)) jobs ∙ dite (ℕ_discrete q p)
            (λ e. omega (arith, ap (λ (k : ℕ). total (is_at k) (without p v.jobs)) e, total-gone p v.jobs, ap (λ (k : ℕ). jobs_at (stage_at k w)) e, ap jobs_at is))
            (λ n. total-stays p q v.jobs n ∙ (b.one_each q ∙ sym (ap jobs_at (others q n))));
        balanced = λ f. omega (arith, ap (total f) asked, ap (total f) back, ap (total f) jobs, b.balanced f, total-without f p v.jobs one, total-with f p (job_of p v.jobs) v.back);
      }

  pub books_collected : (v w : View J) (p word : ℕ) → Books v → stage_at p v ≡ Asked → w ≡ collected p word v → Books w
  books_collected v w p word b was is = freed v w p b was (collected_here v w p word was is) (λ q n. collected_else v w p q word is n) (ap (λ (u : View J). u.jobs) is) (ap (λ (u : View J). u.asked) is) (ap (λ (u : View J). u.back) is)

  pub books_back : (v w : View J) (p : ℕ) → Books v → stage_at p v ≡ Asked → w ≡ taken_back p v → Books w
  books_back v w p b was is = freed v w p b was (back_here v w p was is) (λ q n. back_else v w p q is n) (ap (λ (u : View J). u.jobs) is) (ap (λ (u : View J). u.asked) is) (ap (λ (u : View J). u.back) is)

  pub books_busy : (v w : View J) (p word : ℕ) → Books v → stage_at p v ≡ Asked → w ≡ saw_busy p word v → Books w
  books_busy v w p word b was is = books_stay v w b (ap (λ (u : View J). u.jobs) is) (ap (λ (u : View J). u.asked) is) (ap (λ (u : View J). u.back) is) (λ q. ap jobs_at (busy_same v w p q word was is))

  pub books_late : (v w : View J) (p word : ℕ) → Books v → stage_at p v ≡ Asked → w ≡ found_late p word v → Books w
  books_late v w p word b was is = books_stay v w b (ap (λ (u : View J). u.jobs) is) (ap (λ (u : View J). u.asked) is) (ap (λ (u : View J). u.back) is) (λ q. ap jobs_at (late_same v w p q word was is))

  -- what they say of one place
  stage_jobs : (v : View J) (p : ℕ) (stage : Stage) → Books v → stage_at p v ≡ stage → total (is_at p) v.jobs ≡ jobs_at stage
  stage_jobs v p stage b is = b.one_each p ∙ ap jobs_at is

  pub books_say : (v : View J) → Books v → HasJobWhereAsked v
  books_say v b p = (λ is. one_there p v.jobs (omega (arith, stage_jobs v p Asked b is)), λ is. none_there p v.jobs (stage_jobs v p Free b is))
