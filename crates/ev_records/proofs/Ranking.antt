-- Numbers of places that are given and settled.
use Rattle.std.proofs.Common.{◌≡◌, ℕ, suc, ◌<◌, ◌≤◌, ◌+◌, ◌⊎◌, ⊎_elim, inl, inr, Bool, true, false, ◌==◌, List, [], ◌∷◌, get_or, set, length, drop, refl, sym, ap, ap₂, ◌∙◌, arith, true≢false, subst, get_or-set_other, get_or-set_same}
use Rattle.std.proofs.lemmas.Bool.{eqb-true}
use Rattle.std.proofs.lemmas.Grind.{common_steps}
use Rattle.std.proofs.lemmas.List.{map-set, get_or-map, drop_more}
use Rattle.std.proofs.Math.Seq.{map-set_same}
use Rattle.ev_damage.specs.Marked.{is_marked}
use Rattle.ev_damage.proofs.Members.{either}
use Rattle.ev_records.specs.Standing.{Standings, rank, Stays}
use Rattle.ev_records.specs.Turned.{is_turned}
use Rattle.ev_records.specs.Ranks.{stood_in, stands_in, standings, AreRanks, settled_rank, AreSettledRanks, IsNumbered, have_turned}
use Rattle.ev_records.specs.declared.ranks.Rank.{Rank}
use Rattle.ev_records.proofs.Changing.{same_or, less_or}

-- the numbers of what is not moved are the same
pub stays : (ranks : List Rank) (moved : List ℕ) → AreRanks ranks moved → Stays (standings ranks) moved
stays ranks moved are = record { kept = λ place off. there place off (less_or place (length ranks)) } where
  here : (place : ℕ) → is_marked moved place ≡ false → place < length ranks → (d : Rank) (t : Bool) → (get_or ranks place d).is_moved ≡ t → (get_or ranks place d).stood ≡ (get_or ranks place d).stands
  here place off l d false e = are.kept place d l e
  here place off l d true e = absurd (true≢false (sym (are.listed place d l e) ∙ off))

  there : (place : ℕ) → is_marked moved place ≡ false → (place < length ranks) ⊎ (length ranks ≤ place) → rank (stood_in ranks) place ≡ rank (stands_in ranks) place
  there place off (inl l) =
      let d : Rank = record { stood = 0; stands = 0; is_moved = false } in
      get_or-map (λ r. r.stood) ranks place d 0 l ∙ here place off l d (get_or ranks place d).is_moved refl ∙ sym (get_or-map (λ r. r.stands) ranks place d 0 l)
  there place off (inr ge) =
      let a : get_or (stood_in ranks) place 0 ≡ 0 = grind (arith, common_steps) in
      let b : get_or (stands_in ranks) place 0 ≡ 0 = grind (arith, common_steps) in
      a ∙ sym b

-- of the moved places, those before this one are settled
pub record IsSettling (ranks initial : List Rank) (rest : List ℕ) : Type 0 where
  pub stands : stands_in ranks ≡ stands_in initial
  pub long : length ranks ≡ length initial
  pub kept : (place : ℕ) (d : Rank) → place < length ranks → (get_or ranks place d).is_moved ≡ false → (get_or ranks place d).stood ≡ (get_or ranks place d).stands
  pub listed : (place : ℕ) (d : Rank) → place < length ranks → (get_or ranks place d).is_moved ≡ true → is_marked rest place ≡ true

marked_cons : (k place : ℕ) (ks : List ℕ) → is_marked (k ∷ ks) place ≡ true → (place ≡ k) ⊎ (is_marked ks place ≡ true)
marked_cons k place ks e = ⊎_elim (λ s. inl (sym (eqb-true k place s))) (λ t. inr t) (either (k == place) (is_marked ks place) e)

pub settling_more : (ranks initial : List Rank) (moved : List ℕ) (i : ℕ) (r new : Rank) → IsSettling ranks initial (drop i moved) → i < length moved → get_or moved i 0 < length ranks → r ≡ get_or ranks (get_or moved i 0) r → new ≡ settled_rank r
    → IsSettling (set ranks (get_or moved i 0) new) initial (drop (i + 1) moved)
settling_more ranks initial moved i r new so_far inside low is e =
    let at : ℕ = get_or moved i 0 in
    let split : drop i moved ≡ at ∷ drop (i + 1) moved = drop_more moved i 0 inside in
    let n : length (set ranks at new) ≡ length ranks = grind (arith, common_steps) in
    let here : (d : Rank) → get_or (set ranks at new) at d ≡ settled_rank r = λ d. get_or-set_same ranks at new d low ∙ e in
    record {
      stands = map-set_same (λ r. r.stands) ranks at new r (ap (λ r. r.stands) (e ∙ ap settled_rank is)) ∙ so_far.stands;
      long = n ∙ so_far.long;
      kept = λ place d l off. ⊎_elim
          (λ s. ap (λ k. (get_or (set ranks at new) k d).stood) s ∙ ap (λ r. r.stood) (here d) ∙ sym (ap (λ r. r.stands) (here d)) ∙ sym (ap (λ k. (get_or (set ranks at new) k d).stands) s))
          (λ ne. let q = get_or-set_other ranks at place new d ne in ap (λ r. r.stood) q ∙ so_far.kept place d (omega (arith, n, l)) (sym (ap (λ r. r.is_moved) q) ∙ off) ∙ sym (ap (λ r. r.stands) q))
          (same_or place at);
      listed = λ place d l on. ⊎_elim
          (λ s. absurd (true≢false (sym on ∙ ap (λ k. (get_or (set ranks at new) k d).is_moved) s ∙ ap (λ r. r.is_moved) (here d))))
          (λ ne.
          let q = get_or-set_other ranks at place new d ne in
          let m : is_marked (drop i moved) place ≡ true = so_far.listed place d (omega (arith, n, l)) (sym (ap (λ r. r.is_moved) q) ∙ on) in
          let P : List ℕ → Type 0 = λ ks. is_marked ks place ≡ true in
          ⊎_elim (λ s. absurd (ne s)) (λ t. t) (marked_cons at place (drop (i + 1) moved) (subst P split m)))
          (same_or place at);
    }

settled_lists : (ranks : List Rank) → ((place : ℕ) (d : Rank) → place < length ranks → (get_or ranks place d).stood ≡ (get_or ranks place d).stands) → stood_in ranks ≡ stands_in ranks
settled_lists [] h = refl
settled_lists (r ∷ rs) h = ap₂ ◌∷◌ (h 0 r (omega arith)) (settled_lists rs (λ place d l. h (suc place) d (omega (arith, l))))

pub all_settled : (ranks initial : List Rank) (moved : List ℕ) (i : ℕ) → IsSettling ranks initial (drop i moved) → length moved ≤ i → AreSettledRanks initial ranks
all_settled ranks initial moved i so_far past =
    let e : drop i moved ≡ [] = grind (arith, common_steps) in
    let unmarked : (place : ℕ) (d : Rank) → place < length ranks → (get_or ranks place d).is_moved ≡ false = λ place d l. go place d l (get_or ranks place d).is_moved refl e in
    record {
      stands = so_far.stands;
      stood = settled_lists ranks (λ place d l. so_far.kept place d l (unmarked place d l)) ∙ so_far.stands;
      marks = unmarked;
    }
  where
    go : (place : ℕ) (d : Rank) → place < length ranks → (t : Bool) → (get_or ranks place d).is_moved ≡ t → drop i moved ≡ [] → (get_or ranks place d).is_moved ≡ false
    go place d l false e n = e
    go place d l true e n = let P : List ℕ → Type 0 = λ ks. is_marked ks place ≡ true in absurd (true≢false (sym (subst P n (so_far.listed place d l e))))

pub ranks_settled : (old new : List Rank) (moved : List ℕ) → AreRanks old moved → AreSettledRanks old new → AreRanks new []
ranks_settled old new moved are done = record {
  kept = λ place d l e. equal_at new place d l (done.stood ∙ sym done.stands);
  listed = λ place d l e. absurd (true≢false (sym e ∙ done.marks place d l));
  within = λ place e. absurd (true≢false (sym e));
} where
  equal_at : (ranks : List Rank) (place : ℕ) (d : Rank) → place < length ranks → stood_in ranks ≡ stands_in ranks → (get_or ranks place d).stood ≡ (get_or ranks place d).stands
  equal_at ranks place d l e = sym (get_or-map (λ r. r.stood) ranks place d 0 l) ∙ ap (λ xs. get_or xs place 0) e ∙ get_or-map (λ r. r.stands) ranks place d 0 l

-- whether two turned
pub turned_at : (ranks : List Rank) (a b : ℕ) (r s : Rank) → a < length ranks → b < length ranks → r ≡ get_or ranks a r → s ≡ get_or ranks b s → have_turned r s ≡ is_turned (standings ranks) a b
turned_at ranks a b r s l m e f =
    let ra : rank (stood_in ranks) a ≡ r.stood = get_or-map (λ r. r.stood) ranks a r 0 l ∙ ap (λ r. r.stood) (sym e) in
    let sa : rank (stands_in ranks) a ≡ r.stands = get_or-map (λ r. r.stands) ranks a r 0 l ∙ ap (λ r. r.stands) (sym e) in
    let rb : rank (stood_in ranks) b ≡ s.stood = get_or-map (λ r. r.stood) ranks b s 0 m ∙ ap (λ r. r.stood) (sym f) in
    let sb : rank (stands_in ranks) b ≡ s.stands = get_or-map (λ r. r.stands) ranks b s 0 m ∙ ap (λ r. r.stands) (sym f) in
    rw (ra, sa, rb, sb) refl

-- a place gets another number
pub number_set : (ranks : List Rank) (place number : ℕ) (r new : Rank) → r ≡ get_or ranks place r → new ≡ record { stood = number; stands = number; is_moved = r.is_moved } → IsNumbered ranks place number (set ranks place new)
number_set ranks place number r new e f = record {
  stood = map-set (λ r. r.stood) ranks place new ∙ ap (λ r. set (stood_in ranks) place r.stood) f;
  stands = map-set (λ r. r.stands) ranks place new ∙ ap (λ r. set (stands_in ranks) place r.stands) f;
  marks = map-set_same (λ r. r.is_moved) ranks place new r (ap (λ r. r.is_moved) f ∙ ap (λ r. r.is_moved) e);
}

-- what a place's other number makes of all
abbrev pub renumbered : List Rank → ℕ → ℕ → Standings
renumbered ranks place number = record { stood = stood_in ranks; stands = set (stands_in ranks) place number }

pub placed : (ranks : List Rank) (place number : ℕ) (r new : Rank) → r ≡ get_or ranks place r → new ≡ record { stood = r.stood; stands = number; is_moved = true } → standings (set ranks place new) ≡ renumbered ranks place number
placed ranks place number r new e f = ap₂ (λ a b. record { stood = a; stands = b })
    (map-set_same (λ r. r.stood) ranks place new r (ap (λ r. r.stood) f ∙ ap (λ r. r.stood) e))
    (map-set (λ r. r.stands) ranks place new ∙ ap (λ r. set (stands_in ranks) place r.stands) f)
