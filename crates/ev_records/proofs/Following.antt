-- Numbers that follow an order.
use Rattle.std.proofs.Common.{◌≡◌, ◌≢◌, ℕ, ◌<◌, ◌≤◌, ◌+◌, ⊎_elim, List, get_or, set, length, AllPairs, refl, ap, ◌∙◌, arith, get_or-set_other, get_or-set_same}
use Rattle.std.proofs.lemmas.Grind.{common_steps}
use Rattle.ev_records.specs.Standing.{Standings, rank, Rises}
use Rattle.ev_records.proofs.Changing.{less_or}

-- the numbers rise along the first places of the order, and none of theirs is above this one
pub record IsFollowed (st initial : Standings) (order : List ℕ) (i last : ℕ) : Type 0 where
  pub stood : st.stood ≡ initial.stood
  pub long : length st.stands ≡ length initial.stands
  pub below : (k : ℕ) → k < i → rank st.stands (get_or order k 0) ≤ last
  pub rises : (k l : ℕ) → k < l → l < i → rank st.stands (get_or order k 0) < rank st.stands (get_or order l 0)

pub followed_none : (st : Standings) (order : List ℕ) → IsFollowed st st order 0 0
followed_none st order = record { stood = refl; long = refl; below = λ k l. absurd (omega (arith, l)); rises = λ k l a b. absurd (omega (arith, b)) }

pub followed_more : (st initial new : Standings) (order : List ℕ) (i last number : ℕ) → IsFollowed st initial order i last → i < length order → AllPairs (λ i j. i ≢ j) order
    → get_or order i 0 < length st.stands → last < number → new ≡ record st { stands = set st.stands (get_or order i 0) number } → IsFollowed new initial order (i + 1) number
followed_more st initial new order i last number so_far inside apart low above is =
    let at : ℕ = get_or order i 0 in
    let n : length (set st.stands at number) ≡ length st.stands = grind (arith, common_steps) in
    let here : rank new.stands at ≡ number = ap (λ s. rank s.stands at) is ∙ get_or-set_same st.stands at number 0 low in
    let other : (k : ℕ) → k < i → rank new.stands (get_or order k 0) ≡ rank st.stands (get_or order k 0) =
    λ k l. ap (λ s. rank s.stands (get_or order k 0)) is ∙ get_or-set_other st.stands at (get_or order k 0) number 0 (apart k i 0 l inside) in
    record {
      stood = ap (λ s. s.stood) is ∙ so_far.stood;
      long = ap (λ s. length s.stands) is ∙ n ∙ so_far.long;
      below = λ k l. ⊎_elim
          (λ m. let b = so_far.below k m in let o = other k m in omega (arith, b, o, above))
          (λ ge. let e : k ≡ i = omega (arith, l, ge) in let h : rank new.stands (get_or order k 0) ≡ number = ap (λ j. rank new.stands (get_or order j 0)) e ∙ here in omega (arith, h))
          (less_or k i);
      rises = λ k l a b. ⊎_elim
          (λ m. let r = so_far.rises k l a m in let o = other k (omega (arith, a, m)) in let p = other l m in omega (arith, r, o, p))
          (λ ge.
          let e : l ≡ i = omega (arith, b, ge) in
          let h : rank new.stands (get_or order l 0) ≡ number = ap (λ j. rank new.stands (get_or order j 0)) e ∙ here in
          let m : k < i = omega (arith, a, e) in
          let o = other k m in
          let q = so_far.below k m in
          omega (arith, h, o, q, above))
          (less_or l i);
    }

pub followed_all : (st initial : Standings) (order : List ℕ) (i last : ℕ) → IsFollowed st initial order i last → length order ≤ i → Rises st.stands order
followed_all st initial order i last so_far past = record {
  rising = λ k l d less within.
      let r = so_far.rises k l less (omega (arith, within, past)) in
      let a : rank st.stands (get_or order k d) ≡ rank st.stands (get_or order k 0) = ap (rank st.stands) (any order k d (omega (arith, less, within))) in
      let b : rank st.stands (get_or order l d) ≡ rank st.stands (get_or order l 0) = ap (rank st.stands) (any order l d within) in
      omega (arith, r, a, b);
} where
  any : (order : List ℕ) (k d : ℕ) → k < length order → get_or order k d ≡ get_or order k 0
  any order k d l = grind (arith, common_steps)
