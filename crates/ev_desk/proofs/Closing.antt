-- The asker closes one place after the other.
use Rattle.std.proofs.Common.{◌≡◌, ℕ, zero, suc, ◌+◌, ◌<◌, ◌≤◌, List, [], ◌∷◌, map, set, length, sym, refl, ap, ◌∙◌, subst, arith}
use mathlib.Core.Logic.{dite}
use native.Mathlib.Decide.{ℕ_discrete}
use Rattle.ev_desk.specs.DeskSteps.{spot_at, staged}
use Rattle.ev_desk.specs.DeskMoves.{counting}
use Rattle.ev_desk.specs.DeskSays.{stage_at, with_spots, shut_spot, shut_down}
use Rattle.ev_desk.specs.Books.{jobs_at, Books}
use Rattle.ev_desk.specs.declared.view.Stage.TheVariants.{Free, Closed}
use Rattle.ev_desk.specs.declared.view.Spot.{Spot}
use Rattle.ev_desk.specs.declared.view.View.{View}
use Rattle.ev_desk.proofs.Calls.{in_range, spot_set}
use Rattle.ev_desk.proofs.Stages.{stage_else}
use Rattle.ev_desk.proofs.Books.{books_stay}

-- the first n places are closed
abbrev pub shut_below : ℕ → List Spot → List Spot
shut_below zero l = l
shut_below (suc n) [] = []
shut_below (suc n) (x ∷ xs) = shut_spot x ∷ shut_below n xs

one_shut : (n : ℕ) (l : List Spot) → n < length l → set (shut_below n l) n (shut_spot (spot_at n (shut_below n l))) ≡ shut_below (suc n) l
one_shut zero [] lt = absurd (omega arith)
one_shut zero (x ∷ xs) lt = refl
one_shut (suc n) [] lt = absurd (omega arith)
one_shut (suc n) (x ∷ xs) lt = ap (λ (l : List Spot). shut_spot x ∷ l) (one_shut n xs (omega arith))

all_shut : (n : ℕ) (l : List Spot) → length l ≤ n → shut_below n l ≡ map shut_spot l
all_shut zero [] le = refl
all_shut zero (x ∷ xs) le = absurd (omega arith)
all_shut (suc n) [] le = refl
all_shut (suc n) (x ∷ xs) le = ap (λ (l : List Spot). shut_spot x ∷ l) (all_shut n xs (omega arith))

not_yet : (n : ℕ) (l : List Spot) → spot_at n (shut_below n l) ≡ spot_at n l
not_yet zero l = refl
not_yet (suc n) [] = refl
not_yet (suc n) (x ∷ xs) = not_yet n xs

module _ {J : Type 0} where
  abbrev pub shut_so_far : ℕ → View J → View J
  shut_so_far n v = counting v (with_spots (shut_below n v.counts.asker.spots) v.counts)

  pub shut_more : (v w w' : View J) (n m : ℕ) → w ≡ shut_so_far n v → w' ≡ counting w (staged n Closed w.counts) → n < length v.counts.asker.spots → m ≡ n + 1 → w' ≡ shut_so_far m v
  shut_more v w w' n m so is lt next = is ∙ (ap (λ (x : View J). counting x (staged n Closed x.counts)) so
      ∙ (ap (λ (l : List Spot). counting v (with_spots l v.counts)) (one_shut n v.counts.asker.spots lt) ∙ let e : suc n ≡ m = omega (arith, next) in ap (λ (k : ℕ). shut_so_far k v) e))

  pub shut_all : (v w : View J) (n : ℕ) → w ≡ shut_so_far n v → length v.counts.asker.spots ≤ n → w ≡ shut_down v
  shut_all v w n so le = so ∙ ap (λ (l : List Spot). counting v (with_spots l v.counts)) (all_shut n v.counts.asker.spots le)

  -- a place that is not reached yet is free
  pub free_yet : (v w : View J) (n : ℕ) → w ≡ shut_so_far n v → stage_at n v ≡ Free → stage_at n w ≡ Free
  free_yet v w n so free = ap (λ (x : View J). stage_at n x) so ∙ (ap (λ (x : Spot). x.stage) (not_yet n v.counts.asker.spots) ∙ free)

  pub books_shut : (v w : View J) (p : ℕ) → Books v → stage_at p v ≡ Free → w ≡ counting v (staged p Closed v.counts) → Books w
  books_shut v w p b free is = books_stay v w b (ap (λ (u : View J). u.jobs) is) (ap (λ (u : View J). u.asked) is) (ap (λ (u : View J). u.back) is)
      (λ q. let spots = v.counts.asker.spots in dite (ℕ_discrete q p)
      (λ e. let lt : p < length spots = in_range spots p (λ h. let x : Free ≡ Closed = sym free ∙ h in cc) in
      let after : stage_at p w ≡ Closed = ap (λ (u : View J). stage_at p u) is ∙ ap (λ (x : Spot). x.stage) (spot_set spots p _ lt) in
      subst (λ (k : ℕ). jobs_at (stage_at k w) ≡ jobs_at (stage_at k v)) (sym e) (ap jobs_at after ∙ sym (ap jobs_at free)))
      (λ n. ap jobs_at (ap (λ (u : View J). stage_at q u) is ∙ ap (λ (x : Spot). x.stage) (stage_else spots p q _ n))))
