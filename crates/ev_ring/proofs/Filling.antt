-- An owner puts jobs into slots, from the last to the first.
use Rattle.std.proofs.Common.{◌≡◌, ℕ, ◌+◌, ◌*◌, ◌<◌, true, List, [], ◌∷◌, ◌++◌, length, sym, ap, ◌∙◌, arith, append_assoc, eq-eqb}
use Rattle.std.specs.Prelude.{None, Some}
use Rattle.ev_seats.specs.Jobs.{job_of, numbered}
use Rattle.ev_ring.specs.Steps.{with_owner, published_to}
use Rattle.ev_ring.specs.Moves.{counting}
use Rattle.ev_ring.specs.Says.{stocked, filled, HasJobs}
use Rattle.ev_ring.specs.declared.view.View.{View}
use Rattle.ev_seats.proofs.Jobs.{in_range, all_there}

module _ {J : Type 0} where
  pub none_put : (n : ℕ) (v : View J) → v.jobs ≡ [] → v.out ≡ None → v ≡ filled n [] v
  none_put n v jobs out = let o = v.counts.owner in let same : o.done_looks ≡ o.done_looks + 2 * 0 = omega arith in
      λ i. record { counts = with_owner v.counts record v.counts.owner { done_looks = same i }; job = v.job; jobs = jobs i; out = out i }

  pub one_put : (n t t' : ℕ) (v w w' : View J) (js : List J) (job : J) → v.counts.owner.is_quiet ≡ true → w ≡ filled n js v → n ≡ t + 1 → w' ≡ stocked ((t', job) ∷ w.jobs) w → t' ≡ t → w' ≡ filled t (job ∷ js) v
  one_put n t t' v w w' js job quiet put next is same = let o = v.counts.owner in let looks : o.done_looks + 2 * length js + 1 + 1 ≡ o.done_looks + 2 * length (job ∷ js) = omega arith in
      is ∙ (ap (λ (x : View J). stocked ((t', job) ∷ x.jobs) x) put
      ∙ (λ i. record {
        counts = with_owner v.counts record v.counts.owner { is_quiet = sym quiet i; done_seen = v.counts.owner.limit; done_looks = looks i };
        job = v.job;
        jobs = (same i, job) ∷ numbered (next i) js;
        out = None;
      }))

  -- all jobs were put
  pub last_put : (n m : ℕ) (v w : View J) (all items js : List J) → w ≡ filled n js v → all ≡ items ++ js → length items ≡ 0 → n ≡ m → w ≡ filled m all v
  last_put n m v w all [] js put e none is = put ∙ (λ i. filled (is i) (sym e i) v)
  last_put n m v w all (x ∷ items) js put e none is = absurd (omega arith)

  -- the jobs that were put have tickets above the next one, and less than a turn from it
  pub near_put : (n t : ℕ) (v w : View J) (js : List J) → w ≡ filled n js v → n ≡ t + 1 → length js < 4096 → (u : ℕ) (k : J) → job_of u w.jobs ≡ Some k → (t < u) × (u < t + 4096)
  near_put n t v w js put next few u k e = let r = in_range n u js k (sym (ap (λ (x : View J). job_of u x.jobs) put) ∙ e) in let a = r.0 in let b = r.1 in (omega arith, omega arith)

  pub all_put : (n m : ℕ) (v w : View J) (js : List J) → w ≡ filled n js v → m ≡ n + length js → HasJobs n m w.jobs
  all_put n m v w js put to t a b = let r = all_there n t js a (omega arith) in (r.0, ap (λ (x : View J). job_of t x.jobs) put ∙ r.1)

  pub popped : (all items items' js : List J) (job : J) → all ≡ items ++ js → items ≡ items' ++ job ∷ [] → all ≡ items' ++ job ∷ js
  popped all items items' js job e pop = e ∙ (ap (λ (l : List J). l ++ js) pop ∙ append_assoc items' (job ∷ []) js)

  -- an owner that published nothing is as quiet as before
  pub still_rested : (v w w' : View J) (js : List J) (m : ℕ) → w ≡ filled v.counts.owner.limit js v → w' ≡ counting w (published_to m w.counts) → m ≡ v.counts.owner.limit + length js → w'.jobs ≡ [] → w'.counts.owner.is_quiet ≡ true
  still_rested v w w' [] m put is to none = let n = v.counts.owner.limit in let same : m ≡ w.counts.owner.limit = omega (arith, to, ap (λ (x : View J). x.counts.owner.limit) put) in
      ap (λ (x : View J). x.counts.owner.is_quiet) is ∙ eq-eqb m w.counts.owner.limit same
  still_rested v w w' (job ∷ js) m put is to none =
      let x : (v.counts.owner.limit, job) ∷ numbered (v.counts.owner.limit + 1) js ≡ [] = ap (λ (x : View J). x.jobs) (sym put) ∙ (ap (λ (x : View J). x.jobs) (sym is) ∙ none) in cc
