-- Groups as they are kept: the members of each object that has some.
use Rattle.std.proofs.Common.{◌≡◌, ◌≢◌, ◌⊎◌, inl, ℕ, ℤ, zero, suc, ◌-◌, ◌≤◌, ◌==◌, if◌then◌else◌, true, is_some, OnSome, IfNone, length, List, [], ◌∷◌, ◌++◌, map, get_or, slice_set, Option, Some, None, refl, sym, ap, ◌∙◌, arith}
use Rattle.std.proofs.lemmas.List.{map-set}
use Rattle.std.proofs.lemmas.Option.{none-some}
use Rattle.std.proofs.lemmas.Bool.Decides.{nat_tests}
use Rattle.ev_slots.specs.Slots.{of_id, put}
use Rattle.ev_slots.proofs.Places.{at_place, of_id_suc, of_id_given}
use Rattle.ev_groups.specs.Groups.{place, members_of, groups_of, group, with_group}

at_kept : (kept : List (Option (List (ℕ × ℤ)))) (k : ℕ) → get_or (map members_of kept) k [] ≡ members_of (at_place kept k)
at_kept [] k = refl
at_kept (one ∷ kept) zero = refl
at_kept (one ∷ kept) (suc k) = at_kept kept k

-- the members of an object
pub group_kept : (top : List (ℕ × ℤ)) (kept : List (Option (List (ℕ × ℤ)))) (id : ℕ) → id ≢ 0 → get_or (groups_of top kept) id [] ≡ members_of (of_id kept id)
group_kept top kept zero some = absurd (some refl)
group_kept top kept (suc k) some = at_kept kept k ∙ ap members_of (sym (of_id_suc kept k))

-- the object of the next id
pub kept_more : (kept : List (Option (List (ℕ × ℤ)))) → map members_of (kept ++ None ∷ []) ≡ map members_of kept ++ [] ∷ []
kept_more [] = refl
kept_more (one ∷ kept) = ap (λ rest. members_of one ∷ rest) (kept_more kept)

-- others in place of the members of an object
pub kept_put : (top : List (ℕ × ℤ)) (kept : List (Option (List (ℕ × ℤ)))) (id : ℕ) (y : Option (List (ℕ × ℤ))) → id ≢ 0
    → groups_of top (put kept id y) ≡ with_group (groups_of top kept) (Some id) (members_of y)
kept_put top kept zero y some = absurd (some refl)
kept_put top kept (suc k) y some =
    let e : suc k - 1 ≡ k = omega arith in
    ap (λ rest. top ∷ rest) (ap (λ k. map members_of (slice_set kept k y)) e ∙ map-set members_of kept k y)

-- where there are none, none are taken out
none_out : (kept : List (Option (List (ℕ × ℤ)))) (k : ℕ) → at_place kept k ≡ None → map members_of kept ≡ slice_set (map members_of kept) k []
none_out [] k none = refl
none_out (None ∷ kept) zero none = refl
none_out (Some list ∷ kept) zero none = absurd (none-some list (sym none))
none_out (one ∷ kept) (suc k) none = ap (λ rest. members_of one ∷ rest) (none_out kept k none)

pub kept_none : (top : List (ℕ × ℤ)) (kept : List (Option (List (ℕ × ℤ)))) (id : ℕ) → id ≢ 0 → of_id kept id ≡ None → groups_of top kept ≡ with_group (groups_of top kept) (Some id) []
kept_none top kept zero some none = absurd (some refl)
kept_none top kept (suc k) some none = ap (λ rest. top ∷ rest) (none_out kept k (sym (of_id_suc kept k) ∙ none))

-- what stands for an id is taken away, if there is anything
pub cleared : (top : List (ℕ × ℤ)) (kept kept' : List (Option (List (ℕ × ℤ)))) (id : ℕ) (result : Option (List (ℕ × ℤ))) → id ≢ 0 → result ≡ of_id kept id
    → OnSome result (kept' ≡ put kept id None) → IfNone result (kept' ≡ kept) → groups_of top kept' ≡ with_group (groups_of top kept) (Some id) []
cleared top kept kept' id None some value on_some if_none = ap (groups_of top) if_none ∙ kept_none top kept id some (sym value)
cleared top kept kept' id (Some list) some value on_some if_none = ap (groups_of top) on_some ∙ kept_put top kept id None some

-- an empty list in place of nothing
pub filled_none : (kept : List (Option (List (ℕ × ℤ)))) (id : ℕ) → 1 ≤ id → of_id kept id ≡ None → map members_of (put kept id (Some [])) ≡ map members_of kept
filled_none kept zero low none = absurd (omega (arith, low))
filled_none kept (suc k) low none =
    let e : suc k - 1 ≡ k = omega arith in
    ap (λ k. map members_of (slice_set kept k (Some []))) e ∙ map-set members_of kept k (Some []) ∙ sym (none_out kept k (sym (of_id_suc kept k) ∙ none))

pub filled_there : (kept : List (Option (List (ℕ × ℤ)))) (id : ℕ) (list : List (ℕ × ℤ)) → 1 ≤ id → id ≤ length kept → is_some (of_id (put kept id (Some list)) id) ≡ true
filled_there kept id list low high =
    let itself : (id == id) ≡ true = grind (arith, nat_tests) in
    ap is_some (of_id_given kept id id (Some list) low high ∙ ap (λ b. if b then Some list else of_id kept id) itself)

-- others written in place of the members of an object, for which memory was made
module _ (top : List (ℕ × ℤ)) (kept made : List (Option (List (ℕ × ℤ)))) (parent : Option ℕ) (id : ℕ) (same : map members_of made ≡ map members_of kept) (is : id ≡ place parent) (some : id ≢ 0) where
  pub written : (list : List (ℕ × ℤ)) → groups_of top (put made id (Some list)) ≡ with_group (groups_of top kept) parent list
  written list =
      kept_put top made id (Some list) some
      ∙ ap (λ rest. slice_set (top ∷ rest) id list) same
      ∙ ap (λ at. slice_set (groups_of top kept) at list) is

  pub lent_group : (list : List (ℕ × ℤ)) → Some list ≡ of_id made id → list ≡ group (groups_of top kept) parent
  lent_group list there =
      ap members_of there
      ∙ sym (group_kept top made id some)
      ∙ ap (λ rest. get_or (top ∷ rest) id []) same
      ∙ ap (λ at. get_or (groups_of top kept) at []) is

-- what is lent under one name ends in one way
pub lent : {N A B C : Type 0} (n : N) {f f' : A → B} → f ≡ f' → ◌≡◌ {A = (N × (A → B)) ⊎ C} (inl (n, f)) (inl (n, f'))
lent n e = ap (λ f. inl (n, f)) e
