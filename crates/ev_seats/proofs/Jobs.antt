-- Look-ups in lists of jobs by ticket.
use Rattle.std.proofs.Common.{◌≡◌, ℕ, ◌+◌, ◌<◌, ◌≤◌, ◌≢◌, eqb, cond, Bool, List, [], ◌∷◌, length, sym, refl, ap, ◌∙◌, subst, arith, eq-eqb, ne_eqb}
use mathlib.Core.Logic.{dite}
use native.Mathlib.Decide.{ℕ_discrete}
use Rattle.std.specs.Prelude.{Option, Some, None}
use Rattle.ev_seats.specs.Weights.{total}
use Rattle.ev_seats.specs.Jobs.{job_of, without, numbered, with_job, is_at}

module _ {J : Type 0} where
  pub one_job : (t : ℕ) (jobs : List (ℕ × J)) (j k : J) → job_of t jobs ≡ Some j → job_of t jobs ≡ Some k → j ≡ k
  one_job t jobs j k a b = cc

  pub first_here : (t : ℕ) (x : ℕ × J) (xs : List (ℕ × J)) → x.0 ≡ t → job_of t (x ∷ xs) ≡ Some x.1
  first_here t x xs e = ap (λ b. cond b (Some x.1) (job_of t xs)) (eq-eqb x.0 t e)

  pub first_else : (t : ℕ) (x : ℕ × J) (xs : List (ℕ × J)) → x.0 ≢ t → job_of t (x ∷ xs) ≡ job_of t xs
  first_else t x xs n = ap (λ b. cond b (Some x.1) (job_of t xs)) (ne_eqb x.0 t n)

  without_step : (t u : ℕ) (x : ℕ × J) (xs : List (ℕ × J)) (b : Bool) → eqb x.0 t ≡ b → (F : List (ℕ × J) → Type 0) → (x.0 ≡ t → F (without t xs)) → (x.0 ≢ t → F (x ∷ without t xs)) → F (without t (x ∷ xs))
  without_step t u x xs b e F yes' no' = dite (ℕ_discrete x.0 t)
      (λ h. subst (λ (c : Bool). F (cond c (without t xs) (x ∷ without t xs))) (sym (eq-eqb x.0 t h)) (yes' h))
      (λ h. subst (λ (c : Bool). F (cond c (without t xs) (x ∷ without t xs))) (sym (ne_eqb x.0 t h)) (no' h))

  pub gone : (t : ℕ) (xs : List (ℕ × J)) → job_of t (without t xs) ≡ None
  gone t [] = refl
  gone t (x ∷ xs) = without_step t t x xs _ refl (λ l. job_of t l ≡ None) (λ _. gone t xs) (λ n. first_else t x (without t xs) n ∙ gone t xs)

  pub stays : (t u : ℕ) (xs : List (ℕ × J)) → u ≢ t → job_of u (without t xs) ≡ job_of u xs
  stays t u [] n = refl
  stays t u (x ∷ xs) n = without_step t u x xs _ refl (λ l. job_of u l ≡ job_of u (x ∷ xs))
      (λ h. let other : x.0 ≢ u = λ e. n (sym e ∙ h) in stays t u xs n ∙ sym (first_else u x xs other))
      (λ h. dite (ℕ_discrete x.0 u) (λ e. first_here u x (without t xs) e ∙ sym (first_here u x xs e)) (λ e. first_else u x (without t xs) e ∙ (stays t u xs n ∙ sym (first_else u x xs e))))

  -- a job that is left was there before, and is another ticket's
  pub left : (t u : ℕ) (xs : List (ℕ × J)) (j : J) → job_of u (without t xs) ≡ Some j → (u ≢ t) × (job_of u xs ≡ Some j)
  left t u xs j e = dite (ℕ_discrete u t) (λ h. let none : job_of u (without t xs) ≡ None = ap (λ (k : ℕ). job_of k (without t xs)) h ∙ gone t xs in cc) (λ h. (h, sym (stays t u xs h) ∙ e))

  -- numbered jobs have tickets of their range, and all of them
  pub in_range : (n u : ℕ) (js : List J) (j : J) → job_of u (numbered n js) ≡ Some j → (n ≤ u) × (u < n + length js)
  in_range n u [] j e = cc
  in_range n u (x ∷ js) j e = dite (ℕ_discrete n u) (λ h. (omega arith, omega arith))
      (λ h. let r = in_range (n + 1) u js j (sym (first_else u (n, x) (numbered (n + 1) js) h) ∙ e) in let a = r.0 in let b = r.1 in (omega arith, omega arith))

  pub all_there : (n u : ℕ) (js : List J) → n ≤ u → u < n + length js → (j : J) × (job_of u (numbered n js) ≡ Some j)
  all_there n u [] a b = absurd (omega arith)
  all_there n u (x ∷ js) a b = dite (ℕ_discrete n u) (λ h. (x, first_here u (n, x) (numbered (n + 1) js) h))
      (λ h. let r = all_there (n + 1) u js (omega arith) (omega arith) in (r.0, first_else u (n, x) (numbered (n + 1) js) h ∙ r.1))

  pub at-same : (n : ℕ) (x : ℕ × J) → x.0 ≡ n → is_at n x ≡ 1
  at-same n x e = ap (λ b. cond b 1 0) (eq-eqb x.0 n e)

  pub at-other : (n : ℕ) (x : ℕ × J) → x.0 ≢ n → is_at n x ≡ 0
  at-other n x ne = ap (λ b. cond b 1 0) (ne_eqb x.0 n ne)

  -- a number without a job has none to take out
  none_out : (n : ℕ) (xs : List (ℕ × J)) → total (is_at n) xs ≡ 0 → without n xs ≡ xs
  none_out n [] z = refl
  none_out n (x ∷ xs) z = without_step n n x xs _ refl (λ l. l ≡ x ∷ xs) (λ h. absurd (omega (arith, at-same n x h))) (λ h. ap (λ (l : List (ℕ × J)). x ∷ l) (none_out n xs (omega (arith, at-other n x h))))

  -- no job of the number is left, and those of the others are
  pub total-gone : (n : ℕ) (xs : List (ℕ × J)) → total (is_at n) (without n xs) ≡ 0
  total-gone n [] = refl
  total-gone n (x ∷ xs) = without_step n n x xs _ refl (λ l. total (is_at n) l ≡ 0) (λ h. total-gone n xs) (λ h. omega (arith, at-other n x h, total-gone n xs))

  pub total-stays : (n m : ℕ) (xs : List (ℕ × J)) → m ≢ n → total (is_at m) (without n xs) ≡ total (is_at m) xs
  total-stays n m [] ne = refl
  total-stays n m (x ∷ xs) ne = without_step n n x xs _ refl (λ l. total (is_at m) l ≡ total (is_at m) (x ∷ xs))
      (λ h. omega (arith, at-other m x (λ e. ne (sym e ∙ h)), total-stays n m xs ne)) (λ h. omega (arith, total-stays n m xs ne))

  -- what is taken out of the jobs is the one job of the number
  pub total-without : (f : ℕ × J → ℕ) (n : ℕ) (xs : List (ℕ × J)) → total (is_at n) xs ≤ 1 → total f xs ≡ total f (without n xs) + total f (with_job n (job_of n xs) [])
  total-without f n [] one = refl
  total-without f n (x ∷ xs) one = dite (ℕ_discrete x.0 n)
      (λ h. let same : f x ≡ f (n, x.1) = λ i. f (h i, x.1) in let rest : without n xs ≡ xs = none_out n xs (omega (arith, at-same n x h, one)) in
      let out : without n (x ∷ xs) ≡ xs = ap (λ b. cond b (without n xs) (x ∷ without n xs)) (eq-eqb x.0 n h) ∙ rest in
      omega (arith, same, ap (total f) out, ap (λ (o : Option J). total f (with_job n o [])) (first_here n x xs h)))
      (λ h. let out : without n (x ∷ xs) ≡ x ∷ without n xs = ap (λ b. cond b (without n xs) (x ∷ without n xs)) (ne_eqb x.0 n h) in
      omega (arith, ap (total f) out, ap (λ (o : Option J). total f (with_job n o [])) (first_else n x xs h), total-without f n xs (omega (arith, at-other n x h, one))))

  pub total-with : (f : ℕ × J → ℕ) (n : ℕ) (o : Option J) (xs : List (ℕ × J)) → total f (with_job n o xs) ≡ total f (with_job n o []) + total f xs
  total-with f n None xs = omega arith
  total-with f n (Some j) xs = omega arith

  pub none_there : (n : ℕ) (xs : List (ℕ × J)) → total (is_at n) xs ≡ 0 → job_of n xs ≡ None
  none_there n [] z = refl
  none_there n (x ∷ xs) z = dite (ℕ_discrete x.0 n) (λ h. absurd (omega (arith, at-same n x h))) (λ h. first_else n x xs h ∙ none_there n xs (omega (arith, at-other n x h)))

  pub one_there : (n : ℕ) (xs : List (ℕ × J)) → 1 ≤ total (is_at n) xs → (j : J) × (job_of n xs ≡ Some j)
  one_there n [] z = absurd (omega arith)
  one_there n (x ∷ xs) z = dite (ℕ_discrete x.0 n) (λ h. (x.1, first_here n x xs h)) (λ h. let r = one_there n xs (omega (arith, at-other n x h)) in (r.0, first_else n x xs h ∙ r.1))

  -- the first of numbered jobs, and those that are left without it
  pub first_in : (n : ℕ) (js : List J) → 1 ≤ length js → (j : J) × (job_of n (numbered n js) ≡ Some j)
  first_in n [] some = absurd (omega arith)
  first_in n (x ∷ js) some = (x, first_here n (n, x) (numbered (n + 1) js) refl)

  above : (n m : ℕ) (js : List J) → n < m → without n (numbered m js) ≡ numbered m js
  above n m [] lt = refl
  above n m (x ∷ js) lt = without_step n n (m, x) (numbered (m + 1) js) _ refl (λ l. l ≡ (m, x) ∷ numbered (m + 1) js) (λ h. absurd (omega arith)) (λ h. ap (λ (l : List (ℕ × J)). (m, x) ∷ l) (above n (m + 1) js (omega arith)))

  pub first_out : (n : ℕ) (js : List J) → 1 ≤ length js → (rest : List J) × (without n (numbered n js) ≡ numbered (n + 1) rest) × (length rest + 1 ≡ length js)
  first_out n [] some = absurd (omega arith)
  first_out n (x ∷ js) some = (
    js,
    without_step n n (n, x) (numbered (n + 1) js) _ refl (λ l. l ≡ numbered (n + 1) js) (λ h. above n (n + 1) js (omega arith)) (λ h. absurd (h refl)),
    omega arith,
  )
