-- All places get new numbers.
use Rattle.std.proofs.Common.{◌≡◌, ◌≢◌, ℕ, ◌<◌, ◌≤◌, ◌+◌, ◌*◌, ⊎_elim, false, List, map, get_or, set, length, AllPairs, refl, sym, ap, ◌∙◌, arith, get_or-set_other, get_or-set_same}
use Rattle.std.proofs.lemmas.Grind.{common_steps}
use Rattle.std.proofs.lemmas.List.{get_or-map}
use Rattle.ev_records.specs.Standing.{rank, Rises}
use Rattle.ev_records.specs.Ranks.{stood_in, stands_in, AreRanks, IsNumbered, AreNumbered}
use Rattle.ev_records.specs.declared.ranks.Rank.{Rank}
use Rattle.ev_records.proofs.Changing.{less_or}

-- the first places of the order have their new numbers
pub record IsNumbering (ranks initial : List Rank) (order : List ℕ) (gap i : ℕ) : Type 0 where
  pub settled : stood_in ranks ≡ stands_in ranks
  pub long : length ranks ≡ length initial
  pub marks : map (λ r. r.is_moved) ranks ≡ map (λ r. r.is_moved) initial
  pub given : (k : ℕ) → k < i → rank (stands_in ranks) (get_or order k 0) ≡ (k + 1) * gap

pub numbering_none : (ranks : List Rank) (order : List ℕ) (gap : ℕ) → stood_in ranks ≡ stands_in ranks → IsNumbering ranks ranks order gap 0
numbering_none ranks order gap e = record { settled = e; long = refl; marks = refl; given = λ k l. absurd (omega (arith, l)) }

pub numbering_more : (ranks initial new : List Rank) (order : List ℕ) (gap i : ℕ) → IsNumbering ranks initial order gap i → i < length order → AllPairs (λ i j. i ≢ j) order → get_or order i 0 < length ranks
    → IsNumbered ranks (get_or order i 0) ((i + 1) * gap) new → IsNumbering new initial order gap (i + 1)
numbering_more ranks initial new order gap i so_far inside apart low is =
    let at : ℕ = get_or order i 0 in
    let n : length (stands_in new) ≡ length (set (stands_in ranks) at ((i + 1) * gap)) = ap length is.stands in
    let long : length new ≡ length ranks = grind (arith, common_steps, n) in
    let there : at < length (stands_in ranks) = grind (arith, common_steps) in
    record {
      settled = is.stood ∙ ap (λ xs. set xs at ((i + 1) * gap)) so_far.settled ∙ sym is.stands;
      long = long ∙ so_far.long;
      marks = is.marks ∙ so_far.marks;
      given = λ k l. ⊎_elim
          (λ m.
          let ne : get_or order k 0 ≢ at = apart k i 0 m inside in
          ap (λ xs. rank xs (get_or order k 0)) is.stands ∙ get_or-set_other (stands_in ranks) at (get_or order k 0) ((i + 1) * gap) 0 ne ∙ so_far.given k m)
          (λ ge.
          let e : k ≡ i = omega (arith, l, ge) in
          ap (λ j. rank (stands_in new) (get_or order j 0)) e ∙ ap (λ xs. rank xs at) is.stands ∙ get_or-set_same (stands_in ranks) at ((i + 1) * gap) 0 there ∙ ap (λ j. (j + 1) * gap) (sym e))
          (less_or k i);
    }

farther : (k l gap : ℕ) → k < l → 0 < gap → (k + 1) * gap < (l + 1) * gap
farther k l gap a b = search (arith)

numbered_rises : (ranks initial : List Rank) (order : List ℕ) (gap i : ℕ) → IsNumbering ranks initial order gap i → length order ≤ i → 0 < gap → Rises (stands_in ranks) order
numbered_rises ranks initial order gap i so_far past wide = record {
  rising = λ k l d less within.
      let a : rank (stands_in ranks) (get_or order k d) ≡ (k + 1) * gap = ap (rank (stands_in ranks)) (any order k d (omega (arith, less, within))) ∙ so_far.given k (omega (arith, less, within, past)) in
      let b : rank (stands_in ranks) (get_or order l d) ≡ (l + 1) * gap = ap (rank (stands_in ranks)) (any order l d within) ∙ so_far.given l (omega (arith, within, past)) in
      let f = farther k l gap less wide in
      omega (arith, a, b, f);
} where
  any : (order : List ℕ) (k d : ℕ) → k < length order → get_or order k d ≡ get_or order k 0
  any order k d l = grind (arith, common_steps)

equal_at : (ranks : List Rank) (place : ℕ) (d : Rank) → place < length ranks → stood_in ranks ≡ stands_in ranks → (get_or ranks place d).stood ≡ (get_or ranks place d).stands
equal_at ranks place d l e = sym (get_or-map (λ r. r.stood) ranks place d 0 l) ∙ ap (λ xs. get_or xs place 0) e ∙ get_or-map (λ r. r.stands) ranks place d 0 l

pub all_numbered : (ranks initial : List Rank) (order : List ℕ) (gap i : ℕ) → IsNumbering ranks initial order gap i → length order ≤ i → 0 < gap → AreNumbered initial order ranks
all_numbered ranks initial order gap i so_far past wide = record { rises = numbered_rises ranks initial order gap i so_far past wide; settled = so_far.settled; long = so_far.long; marks = so_far.marks }

pub numbered_ranks : (ranks initial : List Rank) (moved order : List ℕ) → AreNumbered initial order ranks → AreRanks initial moved → AreRanks ranks moved
numbered_ranks ranks initial moved order so_far are = record {
  kept = λ place d l e. equal_at ranks place d l so_far.settled;
  listed = λ place d l e. are.listed place d (omega (arith, l, so_far.long)) (sym (mark place d l) ∙ e);
  within = λ place e. let w = are.within place e in omega (arith, w, so_far.long);
} where
  mark : (place : ℕ) (d : Rank) → place < length ranks → (get_or ranks place d).is_moved ≡ (get_or initial place d).is_moved
  mark place d l =
      sym (get_or-map (λ r. r.is_moved) ranks place d false l) ∙ ap (λ xs. get_or xs place false) so_far.marks ∙ get_or-map (λ r. r.is_moved) initial place d false (omega (arith, l, so_far.long))
