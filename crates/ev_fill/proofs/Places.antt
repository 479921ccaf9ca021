-- Runs of samples that lie in one part of the fill.
use Rattle.std.proofs.Common.{◌≡◌, ℕ, suc, zero, ◌+◌, ◌-◌, ◌*◌, ◌/◌, ◌<◌, ◌≤◌, Bool, true, false, ◌&&◌, ◌||◌, List, [], ◌∷◌, map, length, take, drop, replicate, Option, Some, None, inl, inr, refl, sym, ap, ◌∙◌, arith}
use Rattle.std.proofs.lemmas.List.{take_rest}
use Rattle.std.specs.Prelude.{nat_lt, nat_le, slice_get, ◌==◌}
use Rattle.std.specs.List.{range_with_len}
use Rattle.std.proofs.Math.Nat.{mul-div_cancel}
use Rattle.std.proofs.lemmas.Bool.{cases_lt, ne_eqb, eqb-true, lt-ltb, le-ltb, le-leb, lt-leb}
use Rattle.ev_argb.specs.Argb.{Argb}
use Rattle.ev_model.specs.Axis.{low_source, low_part, high_part, middle_source, middle_part, is_middle, source_at}
use Rattle.ev_model.specs.declared.axis.Axis.{Axis}
use Rattle.ev_fill.specs.Parts.{place_sample}
use Rattle.ev_model.proofs.Runs.{run_same, run_constant}

and_false : (b : Bool) → (b && false) ≡ false
and_false true = refl
and_false false = refl

-- where the fill is as long as the image, each place has its own
pub same_place : (axis : Axis) (u : ℕ) → axis.len ≡ axis.source → u < axis.len → source_at axis u ≡ Some u
same_place axis u same within =
    elim (cases_lt u (low_part axis)) [
      | inl low ↦ rw (lt-ltb u (low_part axis) low) refl
      | inr low ↦ elim (cases_lt u (axis.len - high_part axis)) [
        | inl high ↦
            let some : 0 < middle_part axis = omega arith in
            let whole : middle_source axis ≡ middle_part axis = omega arith in
            let not_empty : (middle_source axis == 0) ≡ false = ne_eqb (middle_source axis) 0 (λ none. omega (arith, none)) in
            let place : low_source axis + (u - low_part axis) ≡ u = omega arith in
            rw (le-ltb u (low_part axis) low, lt-leb (axis.len - high_part axis) u high, not_empty)
            (ap (λ (m : ℕ). Some (low_source axis + (u - low_part axis) * m / middle_part axis)) whole
            ∙ ap (λ (q : ℕ). Some (low_source axis + q)) (mul-div_cancel (u - low_part axis) some)
            ∙ ap (λ (x : ℕ). Some x) place)
        | inr high ↦
            let e : axis.source - (axis.len - u) ≡ u = omega arith in
            rw (le-ltb u (low_part axis) low, le-leb (axis.len - high_part axis) u high, e) refl
      ]
    ]

-- a place in the low border
pub low_sample : (row : List Argb) (axis : Axis) (hidden : Bool) (u : ℕ) → u < low_part axis → place_sample row axis hidden u ≡ slice_get row u
low_sample row axis hidden u low =
    let border : is_middle axis u ≡ false = rw (lt-leb (low_part axis) u low) refl in
    rw (border, and_false hidden, lt-ltb u (low_part axis) low) refl

-- a place in the high border
pub high_sample : (row : List Argb) (axis : Axis) (hidden : Bool) (u : ℕ) → low_part axis ≤ u → axis.len - high_part axis ≤ u → place_sample row axis hidden u ≡ slice_get row (axis.source - (axis.len - u))
high_sample row axis hidden u low high =
    let border : is_middle axis u ≡ false = rw (le-ltb u (axis.len - high_part axis) high) (and_false (nat_le (low_part axis) u)) in
    rw (border, and_false hidden, le-ltb u (low_part axis) low, le-leb (axis.len - high_part axis) u high) refl

-- what a place between the borders is
record Middle (axis : Axis) (u : ℕ) : Type 0 where
  test : is_middle axis u ≡ true
  not_low : nat_lt u (low_part axis) ≡ false
  not_high : nat_le (axis.len - high_part axis) u ≡ false

middle_is : (axis : Axis) (u : ℕ) → low_part axis ≤ u → u < axis.len - high_part axis → Middle axis u
middle_is axis u low high = record {
  test = rw (le-leb (low_part axis) u low, lt-ltb u (axis.len - high_part axis) high) refl;
  not_low = le-ltb u (low_part axis) low;
  not_high = lt-leb (axis.len - high_part axis) u high;
}

pub hidden_sample : (row : List Argb) (axis : Axis) (u : ℕ) → low_part axis ≤ u → u < axis.len - high_part axis → place_sample row axis true u ≡ None
hidden_sample row axis u low high = rw (middle_is axis u low high).test refl

pub empty_sample : (row : List Argb) (axis : Axis) (hidden : Bool) (u : ℕ) → low_part axis ≤ u → u < axis.len - high_part axis → middle_source axis ≡ 0 → place_sample row axis hidden u ≡ None
empty_sample row axis true u low high none = hidden_sample row axis u low high
empty_sample row axis false u low high none =
    let at = middle_is axis u low high in
    rw (at.not_low, at.not_high, none) refl

pub middle_sample : (row : List Argb) (axis : Axis) (hidden : Bool) (u : ℕ) → hidden ≡ false → low_part axis ≤ u → u < axis.len - high_part axis → (middle_source axis == 0) ≡ false
    → place_sample row axis hidden u ≡ slice_get row (low_source axis + (u - low_part axis) * middle_source axis / middle_part axis)
middle_sample row axis hidden u seen low high some =
    let at = middle_is axis u low high in
    rw (seen, at.not_low, at.not_high, some) refl

-- runs, in any form

pub low_run : {X : Type 0} (form : Option Argb → X) (row : List Argb) (axis : Axis) (hidden : Bool) (u n : ℕ) → u + n ≤ low_part axis
    → map (λ x. form (slice_get row x)) (range_with_len u n) ≡ map (λ u. form (place_sample row axis hidden u)) (range_with_len u n)
low_run form row axis hidden u n within =
    run_same _ _ u u n (λ k h. ap form (sym (low_sample row axis hidden (u + k) (omega arith))))

pub high_run : {X : Type 0} (form : Option Argb → X) (row : List Argb) (axis : Axis) (hidden : Bool) (u n : ℕ) → length row ≡ axis.source → low_part axis ≤ u → axis.len - high_part axis ≤ u → u + n ≤ axis.len
    → map (λ x. form (slice_get row x)) (range_with_len (axis.source - (axis.len - u)) n) ≡ map (λ u. form (place_sample row axis hidden u)) (range_with_len u n)
high_run form row axis hidden u n len low high within =
    run_same _ _ (axis.source - (axis.len - u)) u n
    (λ k h. ap (λ (x : ℕ). form (slice_get row x)) (sym (further k h)) ∙ ap form (sym (high_sample row axis hidden (u + k) (omega arith) (omega arith))))
  where
    further : (k : ℕ) → k < n → axis.source - (axis.len - (u + k)) ≡ axis.source - (axis.len - u) + k
    further k h = omega arith

pub empty_run : {X : Type 0} (form : Option Argb → X) (row : List Argb) (axis : Axis) (hidden : Bool) (u n : ℕ) → (hidden || middle_source axis == 0) ≡ true → low_part axis ≤ u → u + n ≤ axis.len - high_part axis
    → replicate n (form None) ≡ map (λ u. form (place_sample row axis hidden u)) (range_with_len u n)
empty_run form row axis hidden u n nothing low within =
    sym (run_constant _ u n (form None) (λ k h. ap form (one hidden (u + k) nothing (omega arith) (omega arith))))
  where
    one : (hidden : Bool) (v : ℕ) → (hidden || middle_source axis == 0) ≡ true → low_part axis ≤ v → v < axis.len - high_part axis → place_sample row axis hidden v ≡ None
    one true v nothing low high = hidden_sample row axis v low high
    one false v nothing low high = empty_sample row axis false v low high (eqb-true (middle_source axis) 0 nothing)

record HasSamples (axis : Axis) (hidden : Bool) : Type 0 where
  seen : hidden ≡ false
  some : (middle_source axis == 0) ≡ false

has_samples : (axis : Axis) (hidden : Bool) → (hidden || middle_source axis == 0) ≡ false → HasSamples axis hidden
has_samples axis true e = absurd cc
has_samples axis false e = record { seen = refl; some = e }

pub same_run : {X : Type 0} (form : Option Argb → X) (row : List Argb) (axis : Axis) (hidden : Bool) (u n first low : ℕ) → first ≡ low_source axis → low ≡ low_part axis → (hidden || middle_source axis == 0) ≡ false → middle_source axis ≡ middle_part axis
    → low_part axis ≤ u → u + n ≤ axis.len - high_part axis
    → map (λ x. form (slice_get row x)) (range_with_len (first + (u - low)) n) ≡ map (λ u. form (place_sample row axis hidden u)) (range_with_len u n)
same_run form row axis hidden u n first low e f nothing same below within =
    let has = has_samples axis hidden nothing in
    run_same _ _ (first + (u - low)) u n
    (λ k h. ap (λ (x : ℕ). form (slice_get row x)) (sym (further k h)) ∙ ap form (sym (middle_sample row axis hidden (u + k) has.seen (omega arith) (omega arith) has.some)))
  where
    further : (k : ℕ) → k < n → low_source axis + (u + k - low_part axis) * middle_source axis / middle_part axis ≡ first + (u - low) + k
    further k h =
        let whole : (u + k - low_part axis) * middle_part axis / middle_part axis ≡ u + k - low_part axis = mul-div_cancel (u + k - low_part axis) (omega arith) in
        let g : low_source axis + (u + k - low_part axis) ≡ first + (u - low) + k = omega (arith, e, f) in
        ap (λ (m : ℕ). low_source axis + (u + k - low_part axis) * m / middle_part axis) same ∙ ap (λ (q : ℕ). low_source axis + q) whole ∙ g

pub get_drop : (n : ℕ) (pixels : List Argb) (x : ℕ) → slice_get (drop n pixels) x ≡ slice_get pixels (n + x)
get_drop zero pixels x = let e : 0 + x ≡ x = omega arith in rw e refl
get_drop (suc n) [] x = refl
get_drop (suc n) (p ∷ pixels) x = let e : suc n + x ≡ suc (n + x) = omega arith in rw e (get_drop n pixels x)

pub stretched_run : {X : Type 0} (form : Option Argb → X) (row : List Argb) (axis : Axis) (hidden : Bool) (u n first low source part : ℕ) → first ≡ low_source axis → low ≡ low_part axis → source ≡ middle_source axis → part ≡ middle_part axis
    → (hidden || middle_source axis == 0) ≡ false → low_part axis ≤ u → u + n ≤ axis.len - high_part axis
    → map (λ x. form (slice_get (take (length row - first) (drop first row)) (x * source / part))) (range_with_len (u - low) n) ≡ map (λ u. form (place_sample row axis hidden u)) (range_with_len u n)
stretched_run form row axis hidden u n first low source part a b c d nothing below within =
    let has = has_samples axis hidden nothing in
    run_same _ _ (u - low) u n
    (λ k h. place k ∙ ap form (sym (middle_sample row axis hidden (u + k) has.seen (omega arith) (omega arith) has.some)))
  where
    place : (k : ℕ) → form (slice_get (take (length row - first) (drop first row)) ((u - low + k) * source / part)) ≡ form (slice_get row (low_source axis + (u + k - low_part axis) * middle_source axis / middle_part axis))
    place k =
        let e : u - low + k ≡ u + k - low_part axis = omega (arith, b) in
        ap (λ (middle : List Argb). form (slice_get middle ((u - low + k) * source / part))) (take_rest row first)
        ∙ ap form (get_drop first row ((u - low + k) * source / part))
        ∙ rw (e, a, c, d) refl

shifted : {X : Type 0} (form : Option Argb → X) (p : Argb) (xs : List Argb) (m n : ℕ) → map (λ x. form (slice_get xs x)) (range_with_len m n) ≡ map (λ x. form (slice_get (p ∷ xs) x)) (range_with_len (suc m) n)
shifted form p xs m n = run_same (λ x. form (slice_get xs x)) (λ x. form (slice_get (p ∷ xs) x)) m (suc m) n (λ k h. place k)
  where
    place : (k : ℕ) → form (slice_get xs (m + k)) ≡ form (slice_get (p ∷ xs) (suc m + k))
    place k = let e : suc m + k ≡ suc (m + k) = omega arith in rw e refl

pub copied_run : {X : Type 0} (form : Option Argb → X) (xs : List Argb) (from n : ℕ) → from + n ≤ length xs → map (λ p. form (Some p)) (take n (drop from xs)) ≡ map (λ x. form (slice_get xs x)) (range_with_len from n)
copied_run form [] zero zero within = refl
copied_run form [] zero (suc n) within = absurd (omega arith)
copied_run form [] (suc m) n within = absurd (omega arith)
copied_run form (p ∷ xs) zero zero within = refl
copied_run form (p ∷ xs) zero (suc n) within = ap (λ ys. form (Some p) ∷ ys) (copied_run form xs 0 n (omega arith) ∙ shifted form p xs 0 n)
copied_run form (p ∷ xs) (suc m) n within = copied_run form xs m n (omega arith) ∙ shifted form p xs m n
