-- How far a test holds at the front of a list, and what the edits of a vector there make of the tops.
use Rattle.std.proofs.Common.{◌≡◌, ◌≢◌, ℕ, ℤ, ◌<◌, ◌≤◌, ◌+◌, ◌-◌, true, false, Bool, List, [], ◌∷◌, ◌++◌, Option, Some, None, if◌then◌else◌, ◌==◌, length, zero, suc, not, take, drop, refl, sym, subst, ◌∙◌, ap, eq-eqb, arith}
use Rattle.std.proofs.Math.Seq.{drop-cons}
use Rattle.std.proofs.lemmas.Bool.Decides.{Decides-int_eq}
use Rattle.std.proofs.lemmas.Int.{ints}
use Rattle.std.proofs.lemmas.List.{take-append-drop, take-set, drop-set, drop_all}
use Rattle.std.specs.Prelude.{int_lt, slice_index_or, slice_set, ◌≤ℤ◌}
use Rattle.std.specs.Ordering.{int_eq}
use Rattle.std.specs.List.{insert, remove}
use Rattle.std.specs.List.Sorted.{IsPartitionedBy, IsPartitionPoint}
use Rattle.ev_stack.specs.LayerOrder.{IsFrom, IsLayered}
use Rattle.ev_stack.specs.Links.{last_up_to, last_below}
use Rattle.ev_stack.specs.Tops.{with_top, put_instead, without_top, front_len, below_len, up_to_len, id_before}
use Rattle.ev_stack.proofs.Lists.{neq-eqb}
use Rattle.ev_stack.proofs.Tops.{not_eq}

-- the front ends where the test fails first
pub front_len-point : (test : ℕ × ℤ → Bool) (xs : List (ℕ × ℤ)) (place : ℕ) → place ≤ length xs → IsPartitionPoint (λ one. test one ≡ true) (λ one. test one ≡ false) xs place → place ≡ front_len test xs
front_len-point test [] zero fits point = refl
front_len-point test [] (suc place) fits point = absurd (omega (arith, fits))
front_len-point test (one ∷ rest) zero fits point = rw (point.1 0 one (omega arith) (omega arith)) refl
front_len-point test (one ∷ rest) (suc place) fits point =
    rw (point.0 0 one (omega arith) (omega arith))
    (ap suc (front_len-point test rest place (omega (arith, fits)) ((λ k d low high. point.0 (suc k) d (omega arith) (omega (arith, high))), (λ k d low high. point.1 (suc k) d (omega (arith, low)) (omega (arith, high))))))

get_from : (low : ℤ) (xs : List (ℕ × ℤ)) (j : ℕ) (d : ℕ × ℤ) → IsFrom low xs → j < length xs → low ≤ℤ (slice_index_or xs j d).1
get_from low [] j d from fits = absurd (omega (arith, fits))
get_from low (one ∷ rest) zero d from fits = from.0
get_from low (one ∷ rest) (suc j) d from fits = get_from low rest j d from.1 (omega (arith, fits))

-- a test that holds below each layer in which it holds parts layers that never fall
parted : (test : ℕ × ℤ → Bool) → ((a b : ℕ × ℤ) → a.1 ≤ℤ b.1 → test b ≡ true → test a ≡ true) → (xs : List (ℕ × ℤ)) → IsLayered xs → IsPartitionedBy test xs
parted test down [] layered = λ i j d low fits holds. absurd (omega (arith, fits))
parted test down (one ∷ rest) layered = λ i j d. step i j d (parted test down rest layered.1)
  where
    step : (i j : ℕ) (d : ℕ × ℤ) → IsPartitionedBy test rest → i ≤ j → j < length (one ∷ rest) → test (slice_index_or (one ∷ rest) j d) ≡ true → test (slice_index_or (one ∷ rest) i d) ≡ true
    step zero zero d later low fits holds = holds
    step zero (suc j) d later low fits holds = down one (slice_index_or rest j d) (get_from one.1 rest j d layered.0 (omega (arith, fits))) holds
    step (suc i) zero d later low fits holds = absurd (omega (arith, low))
    step (suc i) (suc j) d later low fits holds = later i j d (omega (arith, low)) (omega (arith, fits)) holds

pub parted_below : (layer : ℤ) (xs : List (ℕ × ℤ)) → IsLayered xs → IsPartitionedBy (λ (one : ℕ × ℤ). int_lt one.1 layer) xs
parted_below layer xs layered = parted (λ one. int_lt one.1 layer) (λ a b low e. down a.1 b.1 low e) xs layered
  where
    down : (a b : ℤ) → a ≤ℤ b → int_lt b layer ≡ true → int_lt a layer ≡ true
    down a b low e = grind (arith, ints)

pub parted_up_to : (layer : ℤ) (xs : List (ℕ × ℤ)) → IsLayered xs → IsPartitionedBy (λ (one : ℕ × ℤ). not (int_lt layer one.1)) xs
parted_up_to layer xs layered = parted (λ one. not (int_lt layer one.1)) (λ a b low e. down a.1 b.1 low (int_lt layer b.1) refl e) xs layered
  where
    up : (a b : ℤ) → a ≤ℤ b → int_lt layer b ≡ false → int_lt layer a ≡ false
    up a b low e = grind (arith, ints)

    down : (a b : ℤ) → a ≤ℤ b → (t : Bool) → int_lt layer b ≡ t → not t ≡ true → not (int_lt layer a) ≡ true
    down a b low true is e = cc
    down a b low false is e = ap not (up a b low is)

-- the place of a layer is the id before the front's end
pub id_before-up_to : (start : ℕ) (xs : List (ℕ × ℤ)) (layer : ℤ) → id_before start xs (up_to_len xs layer) ≡ last_up_to start xs layer
id_before-up_to start [] layer = refl
id_before-up_to start (one ∷ rest) layer =
    let later = id_before-up_to one.0 rest layer in
    elim (int_lt layer one.1) as (λ b. id_before start (one ∷ rest) (if not b then suc (up_to_len rest layer) else 0) ≡ (if b then start else last_up_to one.0 rest layer)) [ true ↦ refl | false ↦ later ]

pub id_before-below : (start : ℕ) (xs : List (ℕ × ℤ)) (layer : ℤ) → id_before start xs (below_len xs layer) ≡ last_below start xs layer
id_before-below start [] layer = refl
id_before-below start (one ∷ rest) layer =
    let later = id_before-below one.0 rest layer in
    elim (int_lt one.1 layer) as (λ b. id_before start (one ∷ rest) (if b then suc (below_len rest layer) else 0) ≡ (if b then last_below one.0 rest layer else start)) [ true ↦ later | false ↦ refl ]

-- the id before a place is that of the element there
get_before : (start : ℕ) (xs : List (ℕ × ℤ)) (k : ℕ) (one : ℕ × ℤ) → k < length xs → one ≡ slice_index_or xs k one → id_before start xs (suc k) ≡ one.0
get_before start [] k one fits is = absurd (omega (arith, fits))
get_before start (head ∷ rest) zero one fits is = ap (λ (o : ℕ × ℤ). o.0) (sym is)
get_before start (head ∷ rest) (suc k) one fits is = get_before head.0 rest k one (omega (arith, fits)) is

pub id_before-get : (start : ℕ) (xs : List (ℕ × ℤ)) (place : ℕ) (one : ℕ × ℤ) → place ≢ 0 → place ≤ length xs → one ≡ slice_index_or xs (place - 1) one → one.0 ≡ id_before start xs place
id_before-get start xs place one some fits is =
    let same : suc (place - 1) ≡ place = omega (arith, some) in
    sym (subst (λ n. id_before start xs n ≡ one.0) same (get_before start xs (place - 1) one (omega (arith, fits, some)) is))

-- ---- what follows the lower layers

-- the tops from this layer on, after an object came into it
abbrev put_head : ℕ → ℤ → ℕ → List (ℕ × ℤ) → List (ℕ × ℤ)
put_head id layer place [] = (id, layer) ∷ []
put_head id layer place (one ∷ rest) = if int_eq one.1 layer then (if one.0 == place then (id, layer) ∷ rest else one ∷ rest) else (id, layer) ∷ one ∷ rest

with_top-at : (xs : List (ℕ × ℤ)) (id : ℕ) (layer : ℤ) (place : ℕ) → with_top xs id layer place ≡ take (below_len xs layer) xs ++ put_head id layer place (drop (below_len xs layer) xs)
with_top-at [] id layer place = refl
with_top-at (one ∷ rest) id layer place =
    let later = with_top-at rest id layer place in
    let put = put_head id layer place (one ∷ rest) in
    elim (int_lt one.1 layer) as (λ b. (if b then one ∷ with_top rest id layer place else put) ≡ take (if b then suc (below_len rest layer) else 0) (one ∷ rest) ++ put_head id layer place (drop (if b then suc (below_len rest layer) else 0) (one ∷ rest))) [
      | true ↦ ap (λ ts. one ∷ ts) later
      | false ↦ refl
    ]

abbrev cut_head : ℕ → ℤ → Option ℕ → List (ℕ × ℤ) → List (ℕ × ℤ)
cut_head id layer instead [] = []
cut_head id layer instead (one ∷ rest) = if one.0 == id then put_instead instead layer rest else one ∷ rest

without_top-at : (xs : List (ℕ × ℤ)) (id : ℕ) (layer : ℤ) (instead : Option ℕ) → without_top xs id layer instead ≡ take (below_len xs layer) xs ++ cut_head id layer instead (drop (below_len xs layer) xs)
without_top-at [] id layer instead = refl
without_top-at (one ∷ rest) id layer instead =
    let later = without_top-at rest id layer instead in
    let cut = cut_head id layer instead (one ∷ rest) in
    elim (int_lt one.1 layer) as (λ b. (if b then one ∷ without_top rest id layer instead else cut) ≡ take (if b then suc (below_len rest layer) else 0) (one ∷ rest) ++ cut_head id layer instead (drop (if b then suc (below_len rest layer) else 0) (one ∷ rest))) [
      | true ↦ ap (λ ts. one ∷ ts) later
      | false ↦ refl
    ]

-- the list around one of its elements
around : (xs : List (ℕ × ℤ)) (k : ℕ) (one : ℕ × ℤ) → k < length xs → one ≡ slice_index_or xs k one → drop k xs ≡ one ∷ drop (suc k) xs
around xs k one fits is = drop-cons xs k one fits ∙ ap (λ o. o ∷ drop (suc k) xs) (sym is)

whole : (xs : List (ℕ × ℤ)) (k : ℕ) (one : ℕ × ℤ) → k < length xs → one ≡ slice_index_or xs k one → take k xs ++ one ∷ drop (suc k) xs ≡ xs
whole xs k one fits is = ap (λ ys. take k xs ++ ys) (sym (around xs k one fits is)) ∙ take-append-drop k xs

written : (xs : List (ℕ × ℤ)) (k : ℕ) (new : ℕ × ℤ) → k < length xs → take k xs ++ new ∷ drop (suc k) xs ≡ slice_set xs k new
written xs k new fits =
    let next : suc k ≡ k + 1 = omega arith in
    rw next (rw (take-set xs k new, drop-set xs k new fits) at (take-append-drop k (slice_set xs k new)))

-- ---- the edits of the vector

pub with_top-at_end : (xs : List (ℕ × ℤ)) (id : ℕ) (layer : ℤ) (place k : ℕ) → k ≡ below_len xs layer → k ≡ length xs → insert xs k (id, layer) ≡ with_top xs id layer place
with_top-at_end xs id layer place k is all =
    let none : drop k xs ≡ [] = drop_all k xs (omega (arith, all)) in
    rw none (sym (rw (← is, none) at (with_top-at xs id layer place)))

pub with_top-new : (xs : List (ℕ × ℤ)) (id : ℕ) (layer : ℤ) (place k : ℕ) (one : ℕ × ℤ) → k ≡ below_len xs layer → k < length xs → one ≡ slice_index_or xs k one → one.1 ≢ layer
    → insert xs k (id, layer) ≡ with_top xs id layer place
with_top-new xs id layer place k one is fits at differ =
    let parts = around xs k one fits at in
    rw parts (sym (rw (← is, parts, not_eq one.1 layer differ) at (with_top-at xs id layer place)))

pub with_top-kept : (xs : List (ℕ × ℤ)) (id : ℕ) (layer : ℤ) (place k : ℕ) (one : ℕ × ℤ) → k ≡ below_len xs layer → k < length xs → one ≡ slice_index_or xs k one → one.1 ≡ layer → one.0 ≢ place
    → xs ≡ with_top xs id layer place
with_top-kept xs id layer place k one is fits at same other =
    let parts = around xs k one fits at in
    sym (rw (← is, parts, (Decides-int_eq one.1 layer).1 same, neq-eqb one.0 place other) at (with_top-at xs id layer place) ∙ whole xs k one fits at)

pub with_top-replaced : (xs : List (ℕ × ℤ)) (id : ℕ) (layer : ℤ) (place k : ℕ) (one : ℕ × ℤ) → k ≡ below_len xs layer → k < length xs → one ≡ slice_index_or xs k one → one.1 ≡ layer → one.0 ≡ place
    → slice_set xs k (id, layer) ≡ with_top xs id layer place
with_top-replaced xs id layer place k one is fits at same here =
    let parts = around xs k one fits at in
    sym (rw (← is, parts, (Decides-int_eq one.1 layer).1 same, eq-eqb one.0 place here) at (with_top-at xs id layer place) ∙ written xs k (id, layer) fits)

pub without_top-at_end : (xs : List (ℕ × ℤ)) (id : ℕ) (layer : ℤ) (instead : Option ℕ) (k : ℕ) → k ≡ below_len xs layer → k ≡ length xs → xs ≡ without_top xs id layer instead
without_top-at_end xs id layer instead k is all =
    let none : drop k xs ≡ [] = drop_all k xs (omega (arith, all)) in
    sym (rw (← is, none) at (without_top-at xs id layer instead) ∙ rw none at (take-append-drop k xs))

pub without_top-kept : (xs : List (ℕ × ℤ)) (id : ℕ) (layer : ℤ) (instead : Option ℕ) (k : ℕ) (one : ℕ × ℤ) → k ≡ below_len xs layer → k < length xs → one ≡ slice_index_or xs k one → one.0 ≢ id
    → xs ≡ without_top xs id layer instead
without_top-kept xs id layer instead k one is fits at other =
    let parts = around xs k one fits at in
    sym (rw (← is, parts, neq-eqb one.0 id other) at (without_top-at xs id layer instead) ∙ whole xs k one fits at)

pub without_top-replaced : (xs : List (ℕ × ℤ)) (id : ℕ) (layer : ℤ) (below k : ℕ) (one : ℕ × ℤ) → k ≡ below_len xs layer → k < length xs → one ≡ slice_index_or xs k one → one.0 ≡ id
    → slice_set xs k (below, layer) ≡ without_top xs id layer (Some below)
without_top-replaced xs id layer below k one is fits at here =
    let parts = around xs k one fits at in
    sym (rw (← is, parts, eq-eqb one.0 id here) at (without_top-at xs id layer (Some below)) ∙ written xs k (below, layer) fits)

pub without_top-removed : (xs : List (ℕ × ℤ)) (id : ℕ) (layer : ℤ) (k : ℕ) (one : ℕ × ℤ) → k ≡ below_len xs layer → k < length xs → one ≡ slice_index_or xs k one → one.0 ≡ id
    → remove xs k ≡ without_top xs id layer None
without_top-removed xs id layer k one is fits at here =
    let parts = around xs k one fits at in
    sym (rw (← is, parts, eq-eqb one.0 id here) at (without_top-at xs id layer None))
