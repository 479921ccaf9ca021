-- Neighbours in a list, and how an edit of the list changes them.
use Rattle.std.proofs.Common.{◌≡◌, ◌≢◌, ℕ, ℤ, ◌≤◌, true, false, List, [], ◌∷◌, Option, Some, None, is_some, if◌then◌else◌, ◌==◌, length, zero, suc, inl, inr, refl, sym, subst, ◌∙◌, ap, eq-eqb, arith}
use Rattle.std.proofs.lemmas.Bool.Decides.{nat_tests, eqb_tells}
use Rattle.ev_stack.specs.LayerOrder.{layer_in, is_in, IsApart, IsDistinct, without}
use Rattle.ev_stack.specs.Links.{next_in, previous_in, put_after, IsPlace, walk}

pub neq-eqb : (a b : ℕ) → a ≢ b → (a == b) ≡ false
neq-eqb a b differ = grind (arith, nat_tests)

-- nothing stands above an id that is not there
pub next_in_absent : (start : ℕ) (xs : List (ℕ × ℤ)) (id : ℕ) → IsApart id xs → id ≢ start → next_in start xs id ≡ 0
next_in_absent start [] id apart other = refl
next_in_absent start (one ∷ rest) id apart other =
    let later : next_in one.0 rest id ≡ 0 = next_in_absent one.0 rest id apart.1 (λ e. apart.0 (sym e)) in
    step start one.0 id (next_in one.0 rest id) other later
  where
    step : (start head id tail : ℕ) → id ≢ start → tail ≡ 0 → (if id == start then head else tail) ≡ 0
    step start head id tail other later = grind (arith, nat_tests)

-- an id that is not there stands above none
pub next_in_other : (start : ℕ) (xs : List (ℕ × ℤ)) (q id : ℕ) → IsApart id xs → id ≢ 0 → next_in start xs q ≢ id
next_in_other start [] q id apart object = λ e. object (sym e)
next_in_other start (one ∷ rest) q id apart object =
    step start one.0 q id (next_in one.0 rest q) apart.0 (next_in_other one.0 rest q id apart.1 object)
  where
    step : (start head q id tail : ℕ) → head ≢ id → tail ≢ id → (if q == start then head else tail) ≢ id
    step start head q id tail first later = grind (arith, nat_tests)

pub previous_in_absent : (start : ℕ) (xs : List (ℕ × ℤ)) (id : ℕ) → IsApart id xs → id ≢ 0 → previous_in start xs id ≡ 0
previous_in_absent start [] id apart object = rw (neq-eqb id 0 object) refl
previous_in_absent start (one ∷ rest) id apart object = rw (neq-eqb id one.0 (λ e. apart.0 (sym e))) (previous_in_absent one.0 rest id apart.1 object)

-- the list after another start
pub next_in_restart : (a b : ℕ) (xs : List (ℕ × ℤ)) (q : ℕ) → q ≢ b → next_in a xs q ≡ (if q == a then next_in b xs b else next_in b xs q)
next_in_restart a b [] q other = step a q 0
  where
    step : (a q none : ℕ) → none ≡ (if q == a then none else none)
    step a q none = grind (arith, nat_tests)
next_in_restart a b (one ∷ rest) q other = step a b q one.0 (next_in one.0 rest q) (next_in one.0 rest b) other
  where
    step : (a b q head tail other_tail : ℕ) → q ≢ b → (if q == a then head else tail) ≡ (if q == a then (if b == b then head else other_tail) else (if q == b then head else tail))
    step a b q head tail other_tail other = grind (arith, nat_tests)

pub previous_in_restart : (a b : ℕ) (xs : List (ℕ × ℤ)) (q : ℕ) → previous_in a xs q ≡ (if q == next_in b xs b then a else previous_in b xs q)
previous_in_restart a b [] q = step a b q
  where
    step : (a b q : ℕ) → (if q == 0 then a else 0) ≡ (if q == 0 then a else (if q == 0 then b else 0))
    step a b q = grind (arith, nat_tests)
previous_in_restart a b (one ∷ rest) q = step a b q one.0 (previous_in one.0 rest q) (next_in one.0 rest b)
  where
    step : (a b q head tail next : ℕ) → (if q == head then a else tail) ≡ (if q == (if b == b then head else next) then a else (if q == head then b else tail))
    step a b q head tail next = grind (arith, nat_tests)

-- an id that is not there stands below none
pub previous_in_other : (start : ℕ) (xs : List (ℕ × ℤ)) (q id : ℕ) → IsApart id xs → id ≢ start → id ≢ 0 → previous_in start xs q ≢ id
previous_in_other start [] q id apart other object = step start q id other object
  where
    step : (start q id : ℕ) → id ≢ start → id ≢ 0 → (if q == 0 then start else 0) ≢ id
    step start q id other object = grind (arith, nat_tests)
previous_in_other start (one ∷ rest) q id apart other object =
    step start one.0 q id (previous_in one.0 rest q) other (previous_in_other one.0 rest q id apart.1 (λ e. apart.0 (sym e)) object)
  where
    step : (start head q id tail : ℕ) → id ≢ start → tail ≢ id → (if q == head then start else tail) ≢ id
    step start head q id tail other later = grind (arith, nat_tests)

-- the neighbours after an object is put after a place
pub next_in-put_after : (start : ℕ) (xs : List (ℕ × ℤ)) (place : ℕ) (new : ℕ × ℤ) (q : ℕ) → IsPlace start xs place → IsApart new.0 xs → new.0 ≢ start → next_in start (put_after start xs place new) q ≡ (if q == place then new.0 else if q == new.0 then next_in start xs place else next_in start xs q)
next_in-put_after start [] place new q at fresh other =
    elim (eqb_tells start place) [
      | inl same ↦ rw (same.0) (step start place new.0 q 0 same.1)
      | inr differ ↦ absurd (differ.1 at)
    ]
  where
    step : (start place new q none : ℕ) → start ≡ place → (if q == start then new else none) ≡ (if q == place then new else if q == new then none else none)
    step start place new q none at = grind (arith, nat_tests)
next_in-put_after start (one ∷ rest) place new q at fresh other =
    elim (eqb_tells start place) [
      | inl same ↦ rw (same.0) (here start place one.0 new.0 q (next_in one.0 rest q) (next_in one.0 rest place) same.1)
      | inr differ ↦
          let deeper : IsPlace one.0 rest place = elim at [ inl e ↦ absurd (differ.1 e) | inr later ↦ later ] in
          let later = next_in-put_after one.0 rest place new q deeper fresh.1 (λ e. fresh.0 (sym e)) in
          rw (differ.0) (there start place one.0 new.0 q (next_in one.0 (put_after one.0 rest place new) q) (next_in one.0 rest place) (next_in one.0 rest q) differ.1 other later)
    ]
  where
    here : (start place head new q tail other : ℕ) → start ≡ place → (if q == start then new else if q == new then head else tail) ≡ (if q == place then new else if q == new then (if place == start then head else other) else (if q == start then head else tail))
    here start place head new q tail other same = grind (arith, nat_tests)

    there : (start place head new q changed at tail : ℕ) → start ≢ place → new ≢ start → changed ≡ (if q == place then new else if q == new then at else tail) → (if q == start then head else changed) ≡ (if q == place then new else if q == new then (if place == start then head else at) else (if q == start then head else tail))
    there start place head new q changed at tail differ other later = grind (arith, nat_tests)

pub previous_in-put_after : (start : ℕ) (xs : List (ℕ × ℤ)) (place : ℕ) (new : ℕ × ℤ) (q : ℕ) → IsPlace start xs place → IsDistinct xs → IsApart 0 xs → IsApart new.0 xs → new.0 ≢ start → new.0 ≢ 0 → previous_in start (put_after start xs place new) q ≡ (if q == new.0 then place else if q == next_in start xs place then new.0 else previous_in start xs q)
previous_in-put_after start [] place new q at distinct objects fresh other object =
    elim (eqb_tells start place) [
      | inl same ↦ rw (same.0) (step start place new.0 q 0 same.1)
      | inr differ ↦ absurd (differ.1 at)
    ]
  where
    step : (start place new q none : ℕ) → start ≡ place → (if q == new then start else (if q == 0 then new else none)) ≡ (if q == new then place else if q == 0 then new else (if q == 0 then start else none))
    step start place new q none at = grind (arith, nat_tests)
previous_in-put_after start (one ∷ rest) place new q at distinct objects fresh other object =
    elim (eqb_tells start place) [
      | inl same ↦ rw (same.0) (here start place one.0 new.0 q (previous_in one.0 rest q) (next_in one.0 rest place) same.1)
      | inr differ ↦
          let deeper : IsPlace one.0 rest place = elim at [ inl e ↦ absurd (differ.1 e) | inr later ↦ later ] in
          let later = previous_in-put_after one.0 rest place new q deeper distinct.1 objects.1 fresh.1 (λ e. fresh.0 (sym e)) object in
          let away = next_in_other one.0 rest place one.0 distinct.0 objects.0 in
          rw (differ.0) (there start place one.0 new.0 q (previous_in one.0 (put_after one.0 rest place new) q) (next_in one.0 rest place) (previous_in one.0 rest q) differ.1 fresh.0 away later)
    ]
  where
    here : (start place head new q tail other : ℕ) → start ≡ place → (if q == new then start else (if q == head then new else tail)) ≡ (if q == new then place else if q == (if place == start then head else other) then new else (if q == head then start else tail))
    here start place head new q tail other same = grind (arith, nat_tests)

    there : (start place head new q changed at tail : ℕ) → start ≢ place → head ≢ new → at ≢ head → changed ≡ (if q == new then place else if q == at then new else tail) → (if q == head then start else changed) ≡ (if q == new then place else if q == (if place == start then head else at) then new else (if q == head then start else tail))
    there start place head new q changed at tail differ other away later = grind (arith, nat_tests)

-- below an object of the list stands the start or an object of the list
pub previous_in_apart : (start : ℕ) (xs : List (ℕ × ℤ)) (id other : ℕ) → is_in xs id ≡ true → IsApart other xs → other ≢ start → previous_in start xs id ≢ other
previous_in_apart start [] id other there apart away = cc
previous_in_apart start (one ∷ rest) id other there apart away =
    elim (eqb_tells one.0 id) [
      | inl same ↦ rw (eq-eqb id one.0 (sym same.1)) (λ e. away (sym e))
      | inr differ ↦
          let deeper : is_in rest id ≡ true = rw differ.0 at there in
          rw (neq-eqb id one.0 (λ e. differ.1 (sym e))) (previous_in_apart one.0 rest id other deeper apart.1 (λ e. apart.0 (sym e)))
    ]

-- the neighbours after an object is taken out
pub next_in-without : (start : ℕ) (xs : List (ℕ × ℤ)) (id q : ℕ) → is_in xs id ≡ true → IsApart start xs → IsDistinct xs → id ≢ start → next_in start (without xs id) q ≡ (if q == id then 0 else if q == previous_in start xs id then next_in start xs id else next_in start xs q)
next_in-without start [] id q there apart distinct away = cc
next_in-without start (one ∷ rest) id q there apart distinct away =
    elim (eqb_tells one.0 id) [
      | inl same ↦
          let gone : IsApart id rest = subst (λ n. IsApart n rest) same.1 distinct.0 in
          elim (eqb_tells q id) [
            | inl at ↦
                let none : next_in start rest q ≡ 0 = next_in_absent start rest q (subst (λ n. IsApart n rest) (sym at.1) gone) (λ e. away (sym at.1 ∙ e)) in
                rw (same.0, at.0) none
            | inr other ↦
                let again = next_in_restart start one.0 rest q (λ e. other.1 (e ∙ same.1)) in
                rw (same.0, other.0) (here start one.0 id q (next_in start rest q) (next_in one.0 rest one.0) (next_in one.0 rest q) (next_in one.0 rest id) (previous_in one.0 rest id) same.1 away (ap (next_in one.0 rest) same.1) again)
          ]
      | inr differ ↦
          let deeper : is_in rest id ≡ true = rw differ.0 at there in
          let later = next_in-without one.0 rest id q deeper distinct.0 distinct.1 (λ e. differ.1 (sym e)) in
          let first = previous_in_apart one.0 rest id start deeper apart.1 (λ e. apart.0 (sym e)) in
          rw (differ.0) (far start one.0 id q (next_in one.0 (without rest id) q) (previous_in one.0 rest id) (next_in one.0 rest id) (next_in one.0 rest q) differ.1 away first later)
    ]
  where
    here : (start head id q left second tail at before : ℕ) → head ≡ id → id ≢ start → second ≡ at → left ≡ (if q == start then second else tail) → left ≡ (if q == (if id == head then start else before) then (if id == start then head else at) else (if q == start then head else tail))
    here start head id q left second tail at before same away e again = grind (arith, nat_tests)

    far : (start head id q left before at tail : ℕ) → head ≢ id → id ≢ start → before ≢ start → left ≡ (if q == id then 0 else if q == before then at else tail) → (if q == start then head else left) ≡ (if q == id then 0 else if q == (if id == head then start else before) then (if id == start then head else at) else (if q == start then head else tail))
    far start head id q left before at tail differ away first later = grind (arith, nat_tests)

pub previous_in-without : (start : ℕ) (xs : List (ℕ × ℤ)) (id q : ℕ) → is_in xs id ≡ true → IsApart 0 xs → IsDistinct xs → id ≢ start → id ≢ 0 → previous_in start (without xs id) q ≡ (if q == id then 0 else if q == next_in start xs id then previous_in start xs id else previous_in start xs q)
previous_in-without start [] id q there objects distinct away object = cc
previous_in-without start (one ∷ rest) id q there objects distinct away object =
    elim (eqb_tells one.0 id) [
      | inl same ↦
          let gone : IsApart id rest = subst (λ n. IsApart n rest) same.1 distinct.0 in
          let again = previous_in_restart start one.0 rest q in
          elim (eqb_tells q id) [
            | inl at ↦
                let none : previous_in start rest q ≡ 0 = previous_in_absent start rest q (subst (λ n. IsApart n rest) (sym at.1) gone) (λ e. object (sym at.1 ∙ e)) in
                rw (same.0, at.0) none
            | inr other ↦
                rw (same.0, other.0) (here start one.0 id q (previous_in start rest q) (next_in one.0 rest one.0) (previous_in one.0 rest q) (next_in one.0 rest id) (previous_in one.0 rest id) same.1 away (λ e. other.1 (e ∙ same.1)) (ap (next_in one.0 rest) same.1) again)
          ]
      | inr differ ↦
          let deeper : is_in rest id ≡ true = rw differ.0 at there in
          let later = previous_in-without one.0 rest id q deeper objects.1 distinct.1 (λ e. differ.1 (sym e)) object in
          let above = next_in_other one.0 rest id one.0 distinct.0 objects.0 in
          rw (differ.0) (far start one.0 id q (previous_in one.0 (without rest id) q) (previous_in one.0 rest id) (next_in one.0 rest id) (previous_in one.0 rest q) differ.1 away above later)
    ]
  where
    here : (start head id q left second tail at before : ℕ) → head ≡ id → id ≢ start → q ≢ head → second ≡ at → left ≡ (if q == second then start else tail) → left ≡ (if q == (if id == start then head else at) then (if id == head then start else before) else (if q == head then start else tail))
    here start head id q left second tail at before same away other e again = grind (arith, nat_tests)

    far : (start head id q left before at tail : ℕ) → head ≢ id → id ≢ start → at ≢ head → left ≡ (if q == id then 0 else if q == at then before else tail) → (if q == head then start else left) ≡ (if q == id then 0 else if q == (if id == start then head else at) then (if id == head then start else before) else (if q == head then start else tail))
    far start head id q left before at tail differ away above later = grind (arith, nat_tests)

-- an id that is there is not one that is not
pub in_apart : (xs : List (ℕ × ℤ)) (id other : ℕ) → is_in xs id ≡ true → IsApart other xs → id ≢ other
in_apart [] id other there apart = cc
in_apart (one ∷ rest) id other there apart =
    elim (eqb_tells one.0 id) [
      | inl same ↦ λ e. apart.0 (same.1 ∙ e)
      | inr differ ↦ in_apart rest id other (rw differ.0 at there) apart.1
    ]

pub place_apart : (start : ℕ) (xs : List (ℕ × ℤ)) (place other : ℕ) → IsPlace start xs place → IsApart other xs → other ≢ start → place ≢ other
place_apart start [] place other at apart away = λ e. away (sym (at ∙ e))
place_apart start (one ∷ rest) place other at apart away =
    elim at [ inl e ↦ λ f. away (sym (e ∙ f)) | inr later ↦ place_apart one.0 rest place other later apart.1 (λ e. apart.0 (sym e)) ]

-- a place is the start or the id of an object
pub place_is_in : (start : ℕ) (xs : List (ℕ × ℤ)) (place : ℕ) → IsPlace start xs place → start ≢ place → is_in xs place ≡ true
place_is_in start [] place at away = absurd (away at)
place_is_in start (one ∷ rest) place at away =
    elim (eqb_tells one.0 place) [
      | inl same ↦ rw same.0 refl
      | inr differ ↦ rw differ.0 (place_is_in one.0 rest place (elim at [ inl e ↦ absurd (away e) | inr later ↦ later ]) differ.1)
    ]

pub in_is_place : (start : ℕ) (xs : List (ℕ × ℤ)) (id : ℕ) → is_in xs id ≡ true → IsPlace start xs id
in_is_place start [] id there = cc
in_is_place start (one ∷ rest) id there =
    elim (eqb_tells one.0 id) [
      | inl same ↦ inr (head_is_place one.0 rest id same.1)
      | inr differ ↦ inr (in_is_place one.0 rest id (rw differ.0 at there))
    ]
  where
    head_is_place : (head : ℕ) (xs : List (ℕ × ℤ)) (id : ℕ) → head ≡ id → IsPlace head xs id
    head_is_place head [] id same = same
    head_is_place head (one ∷ rest) id same = inl same

-- the neighbours of an object are places
pub previous_is_place : (start : ℕ) (xs : List (ℕ × ℤ)) (id : ℕ) → is_in xs id ≡ true → IsPlace start xs (previous_in start xs id)
previous_is_place start [] id there = cc
previous_is_place start (one ∷ rest) id there =
    elim (eqb_tells one.0 id) [
      | inl same ↦ inl (rw (eq-eqb id one.0 (sym same.1)) refl)
      | inr differ ↦ inr (rw (neq-eqb id one.0 (λ e. differ.1 (sym e))) (previous_is_place one.0 rest id (rw differ.0 at there)))
    ]

pub next_is_there : (start : ℕ) (xs : List (ℕ × ℤ)) (id : ℕ) → next_in start xs id ≢ 0 → is_in xs (next_in start xs id) ≡ true
next_is_there start [] id some = absurd (some refl)
next_is_there start (one ∷ rest) id some =
    elim (eqb_tells id start) [
      | inl same ↦ rw same.0 (rw (eq-eqb one.0 one.0 refl) refl)
      | inr differ ↦
          let later : is_in rest (next_in one.0 rest id) ≡ true = next_is_there one.0 rest id (rw differ.0 at some) in
          rw differ.0 (found one rest (next_in one.0 rest id) later)
    ]
  where
    found : (one : ℕ × ℤ) (rest : List (ℕ × ℤ)) (id : ℕ) → is_in rest id ≡ true → is_in (one ∷ rest) id ≡ true
    found one rest id later = elim (eqb_tells one.0 id) [ inl same ↦ rw same.0 refl | inr differ ↦ rw differ.0 later ]

-- what stays without an object
pub IsApart-without : (xs : List (ℕ × ℤ)) (id other : ℕ) → IsApart other xs → IsApart other (without xs id)
IsApart-without [] id other apart = tt
IsApart-without (one ∷ rest) id other apart =
    elim (eqb_tells one.0 id) [
      | inl same ↦ rw same.0 apart.1
      | inr differ ↦ rw differ.0 (apart.0, IsApart-without rest id other apart.1)
    ]

pub IsDistinct-without : (xs : List (ℕ × ℤ)) (id : ℕ) → IsDistinct xs → IsDistinct (without xs id)
IsDistinct-without [] id distinct = tt
IsDistinct-without (one ∷ rest) id distinct =
    elim (eqb_tells one.0 id) [
      | inl same ↦ rw same.0 distinct.1
      | inr differ ↦ rw differ.0 (IsApart-without rest id one.0 distinct.0, IsDistinct-without rest id distinct.1)
    ]

-- what was taken out is not there
pub apart_without : (xs : List (ℕ × ℤ)) (id : ℕ) → IsDistinct xs → IsApart id (without xs id)
apart_without [] id distinct = tt
apart_without (one ∷ rest) id distinct =
    elim (eqb_tells one.0 id) [
      | inl same ↦ rw same.0 (subst (λ n. IsApart n rest) same.1 distinct.0)
      | inr differ ↦ rw differ.0 (differ.1, apart_without rest id distinct.1)
    ]

pub length-without : (xs : List (ℕ × ℤ)) (id : ℕ) → is_in xs id ≡ true → suc (length (without xs id)) ≡ length xs
length-without [] id there = cc
length-without (one ∷ rest) id there =
    elim (eqb_tells one.0 id) [
      | inl same ↦ rw same.0 refl
      | inr differ ↦ rw differ.0 (ap suc (length-without rest id (rw differ.0 at there)))
    ]

pub layer_in_absent : (xs : List (ℕ × ℤ)) (id : ℕ) → IsApart id xs → layer_in xs id ≡ None
layer_in_absent [] id apart = refl
layer_in_absent (one ∷ rest) id apart = rw (neq-eqb one.0 id apart.0) (layer_in_absent rest id apart.1)

pub layer_in-without : (xs : List (ℕ × ℤ)) (id q : ℕ) → q ≢ id → layer_in (without xs id) q ≡ layer_in xs q
layer_in-without [] id q other = refl
layer_in-without (one ∷ rest) id q other =
    elim (eqb_tells one.0 id) [
      | inl same ↦ rw (same.0, neq-eqb one.0 q (λ e. other (sym e ∙ same.1))) refl
      | inr differ ↦ rw differ.0 (ap (λ later. if one.0 == q then Some one.1 else later) (layer_in-without rest id q other))
    ]

-- what is there after an object is put after a place
pub IsApart-put_after : (start : ℕ) (xs : List (ℕ × ℤ)) (place : ℕ) (new : ℕ × ℤ) (other : ℕ) → IsApart other xs → new.0 ≢ other → IsApart other (put_after start xs place new)
IsApart-put_after start [] place new other apart away = elim (eqb_tells start place) [ inl same ↦ rw same.0 (away, tt) | inr differ ↦ rw differ.0 tt ]
IsApart-put_after start (one ∷ rest) place new other apart away =
    elim (eqb_tells start place) [
      | inl same ↦ rw same.0 (away, (apart.0, apart.1))
      | inr differ ↦ rw differ.0 (apart.0, IsApart-put_after one.0 rest place new other apart.1 away)
    ]

pub IsDistinct-put_after : (start : ℕ) (xs : List (ℕ × ℤ)) (place : ℕ) (new : ℕ × ℤ) → IsDistinct xs → IsApart new.0 xs → IsDistinct (put_after start xs place new)
IsDistinct-put_after start [] place new distinct fresh = elim (eqb_tells start place) [ inl same ↦ rw same.0 (tt, tt) | inr differ ↦ rw differ.0 tt ]
IsDistinct-put_after start (one ∷ rest) place new distinct fresh =
    elim (eqb_tells start place) [
      | inl same ↦ rw same.0 ((fresh.0, fresh.1), (distinct.0, distinct.1))
      | inr differ ↦ rw differ.0 (IsApart-put_after one.0 rest place new one.0 distinct.0 (λ e. fresh.0 (sym e)), IsDistinct-put_after one.0 rest place new distinct.1 fresh.1)
    ]

pub length-put_after : (start : ℕ) (xs : List (ℕ × ℤ)) (place : ℕ) (new : ℕ × ℤ) → length (put_after start xs place new) ≤ suc (length xs)
length-put_after start [] place new = elim (eqb_tells start place) [ inl same ↦ rw same.0 (omega arith) | inr differ ↦ rw differ.0 (omega arith) ]
length-put_after start (one ∷ rest) place new =
    elim (eqb_tells start place) [
      | inl same ↦ rw same.0 (omega arith)
      | inr differ ↦ rw differ.0 (omega (arith, length-put_after one.0 rest place new))
    ]

pub length-put_after_place : (start : ℕ) (xs : List (ℕ × ℤ)) (place : ℕ) (new : ℕ × ℤ) → IsPlace start xs place → length (put_after start xs place new) ≡ suc (length xs)
length-put_after_place start [] place new at = rw (eq-eqb start place at) refl
length-put_after_place start (one ∷ rest) place new at =
    elim (eqb_tells start place) [
      | inl same ↦ rw same.0 refl
      | inr differ ↦ rw differ.0 (ap suc (length-put_after_place one.0 rest place new (elim at [ inl e ↦ absurd (differ.1 e) | inr later ↦ later ])))
    ]

pub layer_in-put_after : (start : ℕ) (xs : List (ℕ × ℤ)) (place : ℕ) (new : ℕ × ℤ) (q : ℕ) → new.0 ≢ q → layer_in (put_after start xs place new) q ≡ layer_in xs q
layer_in-put_after start [] place new q other = elim (eqb_tells start place) [ inl same ↦ rw (same.0, neq-eqb new.0 q other) refl | inr differ ↦ rw differ.0 refl ]
layer_in-put_after start (one ∷ rest) place new q other =
    elim (eqb_tells start place) [
      | inl same ↦ rw (same.0, neq-eqb new.0 q other) refl
      | inr differ ↦ rw differ.0 (ap (λ later. if one.0 == q then Some one.1 else later) (layer_in-put_after one.0 rest place new q other))
    ]

pub layer_in-put_after_new : (start : ℕ) (xs : List (ℕ × ℤ)) (place : ℕ) (new : ℕ × ℤ) → IsPlace start xs place → IsApart new.0 xs → layer_in (put_after start xs place new) new.0 ≡ Some new.1
layer_in-put_after_new start [] place new at fresh = rw (eq-eqb start place at, eq-eqb new.0 new.0 refl) refl
layer_in-put_after_new start (one ∷ rest) place new at fresh =
    elim (eqb_tells start place) [
      | inl same ↦ rw (same.0, eq-eqb new.0 new.0 refl) refl
      | inr differ ↦ rw (differ.0, neq-eqb one.0 new.0 fresh.0) (layer_in-put_after_new one.0 rest place new (elim at [ inl e ↦ absurd (differ.1 e) | inr later ↦ later ]) fresh.1)
    ]

-- a walk along the links of a list meets the list
pub walk_along : (above : ℕ → ℕ) (layer : ℕ → Option ℤ) (start : ℕ) (xs : List (ℕ × ℤ)) (steps : ℕ) → ((q : ℕ) → IsPlace start xs q → above q ≡ next_in start xs q) → ((q : ℕ) (l : ℤ) → layer_in xs q ≡ Some l → layer q ≡ Some l) → IsApart start xs → IsDistinct xs → IsApart 0 xs → length xs ≤ steps → walk above layer steps start ≡ xs
walk_along above layer start [] zero up layers apart distinct objects fits = refl
walk_along above layer start [] (suc steps) up layers apart distinct objects fits = rw (eq-eqb (above start) 0 (up start refl)) refl
walk_along above layer start (one ∷ rest) zero up layers apart distinct objects fits = absurd (omega arith)
walk_along above layer start (one ∷ rest) (suc steps) up layers apart distinct objects fits =
    let first : above start ≡ one.0 = up start (inl refl) ∙ rw (eq-eqb start start refl) refl in
    let its : layer one.0 ≡ Some one.1 = layers one.0 one.1 (rw (eq-eqb one.0 one.0 refl) refl) in
    let later : walk above layer steps one.0 ≡ rest =
    walk_along above layer one.0 rest steps
    (λ q at. up q (inr at) ∙ rw (neq-eqb q start (place_apart one.0 rest q start at apart.1 (λ e. apart.0 (sym e)))) refl)
    (λ q l is. layers q l (rw (neq-eqb one.0 q (λ e. in_apart rest q one.0 (ap is_some is) distinct.0 (sym e))) is))
    distinct.0 distinct.1 objects.1 (omega arith)
    in
    rw (first, neq-eqb one.0 0 objects.0, its, later) refl
