-- Lists with what stands for each id, or nothing.
use Rattle.std.proofs.Common.{◌≡◌, ℕ, zero, suc, ◌+◌, ◌-◌, Bool, true, false, cond, ◌<◌, ◌≤◌, ◌==◌, if◌then◌else◌, List, [], ◌∷◌, ◌++◌, length, map, Option, Some, None, is_some, get_or, slice_set, refl, sym, ap, ap₂, ◌∙◌, arith}
use Rattle.std.specs.List.{slice_get, find}
use Rattle.std.specs.Option.{option_and_then, option_map}
use Rattle.std.proofs.lemmas.Option.{none-some, same_Some}
use Rattle.std.proofs.lemmas.Bool.Decides.{nat_tests}
use Rattle.std.proofs.Math.Bool.{true≢false}
use Rattle.ev_slots.specs.Slots.{of_id, put, live}

-- what stands at a place
abbrev pub at_place : {A : Type 0} → List (Option A) → ℕ → Option A
at_place slots k = option_and_then (λ slot. slot) (slice_get slots k)

eq_suc : (a b : ℕ) → (suc a == suc b) ≡ (a == b)
eq_suc a b = grind (arith, nat_tests)

suc_zero : (a : ℕ) → (suc a == 0) ≡ false
suc_zero a = grind (arith, nat_tests)

zero_suc : (a : ℕ) → (0 == suc a) ≡ false
zero_suc a = grind (arith, nat_tests)

pub at_set : {A : Type 0} (slots : List (Option A)) (k j : ℕ) (x : A) (y : Option A) → at_place slots k ≡ Some x → at_place (slice_set slots k y) j ≡ (if j == k then y else at_place slots j)
at_set [] k j x y h = absurd (none-some x h)
at_set (slot ∷ slots) zero zero x y h = refl
at_set (slot ∷ slots) zero (suc j) x y h = rw (suc_zero j) refl
at_set (slot ∷ slots) (suc k) zero x y h = rw (zero_suc k) refl
at_set (slot ∷ slots) (suc k) (suc j) x y h = rw (eq_suc j k) (at_set slots k j x y h)

pub at_end : {A : Type 0} (slots : List (Option A)) (j : ℕ) (y : Option A) → at_place (slots ++ y ∷ []) j ≡ (if j == length slots then y else at_place slots j)
at_end [] zero y = refl
at_end [] (suc j) y = rw (suc_zero j) refl
at_end (slot ∷ slots) zero y = rw (zero_suc (length slots)) refl
at_end (slot ∷ slots) (suc j) y = rw (eq_suc j (length slots)) (at_end slots j y)

pub at_map : {A B : Type 0} (f : A → B) (slots : List (Option A)) (j : ℕ) → at_place (map (λ slot. option_map f slot) slots) j ≡ option_map f (at_place slots j)
at_map f [] j = refl
at_map f (slot ∷ slots) zero = refl
at_map f (slot ∷ slots) (suc j) = at_map f slots j

-- one of what is there in place of another
pub live_set : {A : Type 0} (slots : List (Option A)) (k : ℕ) (x y : A) → at_place slots k ≡ Some x → length (live (slice_set slots k (Some y))) ≡ length (live slots)
live_set [] k x y h = refl
live_set (None ∷ slots) zero x y h = absurd (none-some x h)
live_set (Some z ∷ slots) zero x y h = refl
live_set (None ∷ slots) (suc k) x y h = live_set slots k x y h
live_set (Some z ∷ slots) (suc k) x y h = ap suc (live_set slots k x y h)

-- one of what was there gone
pub live_gone : {A : Type 0} (slots : List (Option A)) (k : ℕ) (x : A) → at_place slots k ≡ Some x → suc (length (live (slice_set slots k None))) ≡ length (live slots)
live_gone [] k x h = absurd (none-some x h)
live_gone (None ∷ slots) zero x h = absurd (none-some x h)
live_gone (Some z ∷ slots) zero x h = refl
live_gone (None ∷ slots) (suc k) x h = live_gone slots k x h
live_gone (Some z ∷ slots) (suc k) x h = ap suc (live_gone slots k x h)

pub live_map : {A B : Type 0} (f : A → B) (slots : List (Option A)) → length (live (map (λ slot. option_map f slot) slots)) ≡ length (live slots)
live_map f [] = refl
live_map f (None ∷ slots) = live_map f slots
live_map f (Some z ∷ slots) = ap suc (live_map f slots)

pub live_end : {A : Type 0} (slots : List (Option A)) (y : A) → length (live (slots ++ Some y ∷ [])) ≡ suc (length (live slots))
live_end [] y = refl
live_end (None ∷ slots) y = live_end slots y
live_end (Some z ∷ slots) y = ap suc (live_end slots y)

-- what passes a test that nothing else passes is found
pub found : {A : Type 0} (test : A → Bool) (slots : List (Option A)) (k : ℕ) (x : A) → at_place slots k ≡ Some x → test x ≡ true → ((j : ℕ) (y : A) → at_place slots j ≡ Some y → test y ≡ true → j ≡ k)
    → find test (live slots) ≡ Some x
found test [] k x h passes alone = absurd (none-some x h)
found test (None ∷ slots) zero x h passes alone = absurd (none-some x h)
found test (None ∷ slots) (suc k) x h passes alone = found test slots k x h passes (λ j y there same. grind (arith, alone (suc j) y there same))
found test (Some z ∷ slots) zero x h passes alone = first z (same_Some z x h) where
  first : (z : _) → z ≡ x → cond (test z) (Some z) (find test (live slots)) ≡ Some x
  first z e = rw (e, passes) refl
found test (Some z ∷ slots) (suc k) x h passes alone =
    later (test z) refl (found test slots k x h passes (λ j y there same. grind (arith, alone (suc j) y there same))) where
      later : (b : Bool) → test z ≡ b → find test (live slots) ≡ Some x → cond b (Some z) (find test (live slots)) ≡ Some x
      later true e rest = let none : 0 ≡ suc k = alone 0 z refl e in absurd (omega (arith, none))
      later false e rest = rest

-- where nothing passes, nothing is found
pub none_found : {A : Type 0} (test : A → Bool) (slots : List (Option A)) → ((j : ℕ) (y : A) → at_place slots j ≡ Some y → test y ≡ false) → find test (live slots) ≡ None
none_found test [] fails = refl
none_found test (None ∷ slots) fails = none_found test slots (λ j. fails (suc j))
none_found test (Some z ∷ slots) fails = rw (fails 0 z refl) (none_found test slots (λ j. fails (suc j)))

-- the same by ids, from 1 on
pub of_id_suc : {A : Type 0} (slots : List (Option A)) (k : ℕ) → of_id slots (suc k) ≡ at_place slots k
of_id_suc slots k = let e : suc k - 1 ≡ k = omega arith in rw (suc_zero k) (ap (at_place slots) e)

put_suc : {A : Type 0} (slots : List (Option A)) (k : ℕ) (y : Option A) → put slots (suc k) y ≡ slice_set slots k y
put_suc slots k y = let e : suc k - 1 ≡ k = omega arith in ap (λ k. slice_set slots k y) e

choose : {A : Type 0} (b : Bool) (y t t' : A) → t ≡ t' → (if b then y else t) ≡ (if b then y else t')
choose b y t t' e = ap (λ t. if b then y else t) e

pub of_id_put : {A : Type 0} (slots : List (Option A)) (id other : ℕ) (x : A) (y : Option A) → of_id slots id ≡ Some x → of_id (put slots id y) other ≡ (if other == id then y else of_id slots other)
of_id_put slots zero other x y h = absurd (none-some x h)
of_id_put slots (suc k) zero x y h = rw (zero_suc k) refl
of_id_put slots (suc k) (suc j) x y h =
    ap (λ slots. of_id slots (suc j)) (put_suc slots k y) ∙ of_id_suc (slice_set slots k y) j ∙ at_set slots k j x y (sym (of_id_suc slots k) ∙ h)
    ∙ choose (j == k) y (at_place slots j) (of_id slots (suc j)) (sym (of_id_suc slots j)) ∙ ap (λ b. if b then y else of_id slots (suc j)) (sym (eq_suc j k))

same_test : (j n : ℕ) → (j == n) ≡ (suc j == n + 1)
same_test j n = grind (arith, nat_tests)

pub of_id_end : {A : Type 0} (slots : List (Option A)) (other : ℕ) (y : Option A) → of_id (slots ++ y ∷ []) other ≡ (if other == length slots + 1 then y else of_id slots other)
of_id_end slots zero y = first (length slots) (0 == length slots + 1) refl where
  none_at : (n : ℕ) → (0 == n + 1) ≡ true → ⊥
  none_at n e = grind (arith, nat_tests)

  first : (n : ℕ) (b : Bool) → (0 == n + 1) ≡ b → None ≡ (if b then y else None)
  first n true e = absurd (none_at n e)
  first n false e = refl
of_id_end slots (suc j) y =
    of_id_suc (slots ++ y ∷ []) j ∙ at_end slots j y ∙ choose (j == length slots) y (at_place slots j) (of_id slots (suc j)) (sym (of_id_suc slots j))
    ∙ ap (λ b. if b then y else of_id slots (suc j)) (same_test j (length slots))

pub of_id_map : {A B : Type 0} (f : A → B) (slots : List (Option A)) (id : ℕ) → of_id (map (λ slot. option_map f slot) slots) id ≡ option_map f (of_id slots id)
of_id_map f slots zero = refl
of_id_map f slots (suc j) = of_id_suc (map (λ slot. option_map f slot) slots) j ∙ at_map f slots j ∙ ap (option_map f) (sym (of_id_suc slots j))

-- two lists of one length, with the same for each id, are the same
same_places : {A : Type 0} (slots slots' : List (Option A)) → length slots ≡ length slots' → ((k : ℕ) → at_place slots k ≡ at_place slots' k) → slots ≡ slots'
same_places [] [] n same = refl
same_places [] (slot' ∷ slots') n same = absurd (omega (arith, n))
same_places (slot ∷ slots) [] n same = absurd (omega (arith, n))
same_places (slot ∷ slots) (slot' ∷ slots') n same = ap₂ ◌∷◌ (same 0) (same_places slots slots' (omega (arith, n)) (λ k. same (suc k)))

pub same_slots : {A : Type 0} (slots slots' : List (Option A)) → length slots ≡ length slots' → ((id : ℕ) → of_id slots id ≡ of_id slots' id) → slots ≡ slots'
same_slots slots slots' n same = same_places slots slots' n (λ k. sym (of_id_suc slots k) ∙ same (suc k) ∙ of_id_suc slots' k)

-- what has an id stands in the list
pub id_low : {A : Type 0} (slots : List (Option A)) (id : ℕ) (x : A) → of_id slots id ≡ Some x → 1 ≤ id
id_low slots zero x h = absurd (none-some x h)
id_low slots (suc k) x h = omega arith

within : {A : Type 0} (slots : List (Option A)) (k : ℕ) (x : A) → at_place slots k ≡ Some x → k < length slots
within [] k x h = absurd (none-some x h)
within (slot ∷ slots) zero x h = omega arith
within (slot ∷ slots) (suc k) x h = let e = within slots k x h in omega (arith, e)

pub id_high : {A : Type 0} (slots : List (Option A)) (id : ℕ) (x : A) → of_id slots id ≡ Some x → id - 1 < length slots
id_high slots zero x h = absurd (none-some x h)
id_high slots (suc k) x h = let e = within slots k x (sym (of_id_suc slots k) ∙ h) in omega (arith, e)

-- what is read at an id
at_read : {A : Type 0} (slots : List (Option A)) (k : ℕ) (slot : Option A) (x : A) → at_place slots k ≡ Some x → get_or slots k slot ≡ Some x
at_read [] k slot x h = absurd (none-some x h)
at_read (one ∷ slots) zero slot x h = h
at_read (one ∷ slots) (suc k) slot x h = at_read slots k slot x h

pub read_at : {A : Type 0} (slots : List (Option A)) (id : ℕ) (slot : Option A) → is_some (of_id slots id) ≡ true → slot ≡ get_or slots (id - 1) slot → of_id slots id ≡ slot
read_at {A = A} slots zero slot some e = absurd (true≢false (sym some))
read_at {A = A} slots (suc k) slot some e = go (at_place slots k) refl (ap is_some (sym (of_id_suc slots k)) ∙ some) where
  go : (found : Option A) → at_place slots k ≡ found → is_some found ≡ true → of_id slots (suc k) ≡ slot
  go None f h = absurd (true≢false (sym h))
  go (Some x) f h = let m : suc k - 1 ≡ k = omega arith in of_id_suc slots k ∙ f ∙ sym (at_read slots k slot x f) ∙ sym (ap (λ k. get_or slots k slot) m) ∙ sym e

pub live_put : {A : Type 0} (slots : List (Option A)) (id : ℕ) (x y : A) → of_id slots id ≡ Some x → length (live (put slots id (Some y))) ≡ length (live slots)
live_put slots zero x y h = absurd (none-some x h)
live_put slots (suc k) x y h = ap (λ slots. length (live slots)) (put_suc slots k (Some y)) ∙ live_set slots k x y (sym (of_id_suc slots k) ∙ h)

pub live_taken : {A : Type 0} (slots : List (Option A)) (id : ℕ) (x : A) → of_id slots id ≡ Some x → suc (length (live (put slots id None))) ≡ length (live slots)
live_taken slots zero x h = absurd (none-some x h)
live_taken slots (suc k) x h = ap (λ slots. suc (length (live slots))) (put_suc slots k None) ∙ live_gone slots k x (sym (of_id_suc slots k) ∙ h)

-- what stands for an id already
set_same : {A : Type 0} (slots : List (Option A)) (k : ℕ) (x : A) → at_place slots k ≡ Some x → slice_set slots k (Some x) ≡ slots
set_same [] k x h = refl
set_same (None ∷ slots) zero x h = absurd (none-some x h)
set_same (Some z ∷ slots) zero x h = ap (λ z. Some z ∷ slots) (sym (same_Some z x h))
set_same (slot ∷ slots) (suc k) x h = ap (λ slots. slot ∷ slots) (set_same slots k x h)

pub put_same : {A : Type 0} (slots : List (Option A)) (id : ℕ) (x : A) → of_id slots id ≡ Some x → put slots id (Some x) ≡ slots
put_same slots zero x h = absurd (none-some x h)
put_same slots (suc k) x h = put_suc slots k (Some x) ∙ set_same slots k x (sym (of_id_suc slots k) ∙ h)

-- what stands for an id that was given, in a list with something else for one that was given
set_within : {A : Type 0} (slots : List (Option A)) (k j : ℕ) (y : Option A) → k < length slots → at_place (slice_set slots k y) j ≡ (if j == k then y else at_place slots j)
set_within [] k j y h = absurd (omega (arith, h))
set_within (slot ∷ slots) zero zero y h = refl
set_within (slot ∷ slots) zero (suc j) y h = rw (suc_zero j) refl
set_within (slot ∷ slots) (suc k) zero y h = rw (zero_suc k) refl
set_within (slot ∷ slots) (suc k) (suc j) y h = rw (eq_suc j k) (set_within slots k j y (omega (arith, h)))

pub of_id_given : {A : Type 0} (slots : List (Option A)) (id other : ℕ) (y : Option A) → 1 ≤ id → id ≤ length slots → of_id (put slots id y) other ≡ (if other == id then y else of_id slots other)
of_id_given slots zero other y low high = absurd (omega (arith, low))
of_id_given slots (suc k) zero y low high = rw (zero_suc k) refl
of_id_given slots (suc k) (suc j) y low high =
    ap (λ slots. of_id slots (suc j)) (put_suc slots k y) ∙ of_id_suc (slice_set slots k y) j ∙ set_within slots k j y (omega (arith, high))
    ∙ choose (j == k) y (at_place slots j) (of_id slots (suc j)) (sym (of_id_suc slots j)) ∙ ap (λ b. if b then y else of_id slots (suc j)) (sym (eq_suc j k))

-- one more is there
live_more : {A : Type 0} (slots : List (Option A)) (k : ℕ) (y : A) → k < length slots → at_place slots k ≡ None → length (live (slice_set slots k (Some y))) ≡ suc (length (live slots))
live_more [] k y h none = absurd (omega (arith, h))
live_more (None ∷ slots) zero y h none = refl
live_more (Some z ∷ slots) zero y h none = absurd (none-some z (sym none))
live_more (None ∷ slots) (suc k) y h none = live_more slots k y (omega (arith, h)) none
live_more (Some z ∷ slots) (suc k) y h none = ap suc (live_more slots k y (omega (arith, h)) none)

pub live_filled : {A : Type 0} (slots : List (Option A)) (id : ℕ) (y : A) → 1 ≤ id → id ≤ length slots → of_id slots id ≡ None → length (live (put slots id (Some y))) ≡ suc (length (live slots))
live_filled slots zero y low high none = absurd (omega (arith, low))
live_filled slots (suc k) y low high none = ap (λ slots. length (live slots)) (put_suc slots k (Some y)) ∙ live_more slots k y (omega (arith, high)) (sym (of_id_suc slots k) ∙ none)

pub live_none : {A : Type 0} (slots : List (Option A)) → length (live (slots ++ None ∷ [])) ≡ length (live slots)
live_none [] = refl
live_none (None ∷ slots) = live_none slots
live_none (Some z ∷ slots) = ap suc (live_none slots)

-- the last of those that were given, filled
set_last : {A : Type 0} (slots : List (Option A)) (y z : Option A) → slice_set (slots ++ y ∷ []) (length slots) z ≡ slots ++ z ∷ []
set_last [] y z = refl
set_last (slot ∷ slots) y z = ap (λ slots. slot ∷ slots) (set_last slots y z)

pub put_last : {A : Type 0} (slots : List (Option A)) (y z : Option A) → put (slots ++ y ∷ []) (length slots + 1) z ≡ slots ++ z ∷ []
put_last slots y z = let e : length slots + 1 - 1 ≡ length slots = omega arith in ap (λ k. slice_set (slots ++ y ∷ []) k z) e ∙ set_last slots y z

-- an id past the end
beyond : {A : Type 0} (slots : List (Option A)) (k : ℕ) → length slots ≤ k → at_place slots k ≡ None
beyond [] k h = refl
beyond (slot ∷ slots) zero h = absurd (omega (arith, h))
beyond (slot ∷ slots) (suc k) h = beyond slots k (omega (arith, h))

pub not_given : {A : Type 0} (slots : List (Option A)) (id : ℕ) → length slots < id → of_id slots id ≡ None
not_given slots zero h = refl
not_given slots (suc k) h = of_id_suc slots k ∙ beyond slots k (omega (arith, h))

-- nothing has an id that was not given yet
at_past : {A : Type 0} (slots : List (Option A)) → at_place slots (length slots) ≡ None
at_past [] = refl
at_past (slot ∷ slots) = at_past slots

pub past_end : {A : Type 0} (slots : List (Option A)) → of_id slots (length slots + 1) ≡ None
past_end slots = let e : length slots + 1 ≡ suc (length slots) = omega arith in ap (of_id slots) e ∙ of_id_suc slots (length slots) ∙ at_past slots

-- a choice
pub map_choice : {A B : Type 0} (f : A → B) (b : Bool) (x y : Option A) → option_map f (if b then x else y) ≡ (if b then option_map f x else option_map f y)
map_choice f true x y = refl
map_choice f false x y = refl

pub some_choice : {A : Type 0} (b : Bool) (x y : Option A) (t : A) (P : Type 0) → (if b then x else y) ≡ Some t → (b ≡ true → x ≡ Some t → P) → (b ≡ false → y ≡ Some t → P) → P
some_choice true x y t P h first second = first refl h
some_choice false x y t P h first second = second refl h
