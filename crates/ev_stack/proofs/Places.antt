-- The plain edits are edits after a place.
use Rattle.std.proofs.Common.{◌≡◌, ◌≢◌, ℕ, ℤ, true, false, List, [], ◌∷◌, Some, is_some, inl, inr, if◌then◌else◌, refl, sym, subst, ap, eq-eqb}
use Rattle.std.proofs.lemmas.Bool.Decides.{eqb_tells}
use Rattle.std.specs.Prelude.{int_lt}
use Rattle.ev_stack.specs.LayerOrder.{layer_in, is_in, IsApart, IsDistinct, IsLayered, put_top, put_bottom, put_above, put_below}
use Rattle.ev_stack.specs.Links.{previous_in, put_after, IsPlace, last_up_to, last_below}
use Rattle.ev_stack.proofs.Lists.{neq-eqb, previous_in_apart, in_is_place, in_apart, previous_is_place}
use Rattle.ev_stack.proofs.Layering.{IsLayered-put_top, IsLayered-put_bottom, IsLayered-put_above, IsLayered-put_below}

last_up_to_apart : (start : ℕ) (xs : List (ℕ × ℤ)) (layer : ℤ) (other : ℕ) → IsApart other xs → start ≢ other → last_up_to start xs layer ≢ other
last_up_to_apart start [] layer other apart away = away
last_up_to_apart start (one ∷ rest) layer other apart away =
    elim (int_lt layer one.1) as (λ b. (if b then start else last_up_to one.0 rest layer) ≢ other) [ true ↦ away | false ↦ last_up_to_apart one.0 rest layer other apart.1 apart.0 ]

pub put_top-place : (start : ℕ) (xs : List (ℕ × ℤ)) (id : ℕ) (layer : ℤ) → IsApart start xs → IsDistinct xs → put_after start xs (last_up_to start xs layer) (id, layer) ≡ put_top xs id layer
put_top-place start [] id layer apart distinct = rw (eq-eqb start start refl) refl
put_top-place start (one ∷ rest) id layer apart distinct =
    let later = put_top-place one.0 rest id layer distinct.0 distinct.1 in
    let away : start ≢ last_up_to one.0 rest layer = λ e. last_up_to_apart one.0 rest layer start apart.1 apart.0 (sym e) in
    elim (int_lt layer one.1) as (λ stop. put_after start (one ∷ rest) (if stop then start else last_up_to one.0 rest layer) (id, layer) ≡ (if stop then (id, layer) ∷ one ∷ rest else one ∷ put_top rest id layer)) [
      | true ↦ rw (eq-eqb start start refl) refl
      | false ↦ rw (neq-eqb start (last_up_to one.0 rest layer) away) (ap (λ tail. one ∷ tail) later)
    ]

last_below_apart : (start : ℕ) (xs : List (ℕ × ℤ)) (layer : ℤ) (other : ℕ) → IsApart other xs → start ≢ other → last_below start xs layer ≢ other
last_below_apart start [] layer other apart away = away
last_below_apart start (one ∷ rest) layer other apart away =
    elim (int_lt one.1 layer) as (λ b. (if b then last_below one.0 rest layer else start) ≢ other) [ true ↦ last_below_apart one.0 rest layer other apart.1 apart.0 | false ↦ away ]

pub put_bottom-place : (start : ℕ) (xs : List (ℕ × ℤ)) (id : ℕ) (layer : ℤ) → IsApart start xs → IsDistinct xs → put_after start xs (last_below start xs layer) (id, layer) ≡ put_bottom xs id layer
put_bottom-place start [] id layer apart distinct = rw (eq-eqb start start refl) refl
put_bottom-place start (one ∷ rest) id layer apart distinct =
    let later = put_bottom-place one.0 rest id layer distinct.0 distinct.1 in
    let away : start ≢ last_below one.0 rest layer = λ e. last_below_apart one.0 rest layer start apart.1 apart.0 (sym e) in
    elim (int_lt one.1 layer) as (λ on. put_after start (one ∷ rest) (if on then last_below one.0 rest layer else start) (id, layer) ≡ (if on then one ∷ put_bottom rest id layer else (id, layer) ∷ one ∷ rest)) [
      | true ↦ rw (neq-eqb start (last_below one.0 rest layer) away) (ap (λ tail. one ∷ tail) later)
      | false ↦ rw (eq-eqb start start refl) refl
    ]

put_first : (start : ℕ) (xs : List (ℕ × ℤ)) (place : ℕ) (new : ℕ × ℤ) → start ≡ place → put_after start xs place new ≡ new ∷ xs
put_first start [] place new same = rw (eq-eqb start place same) refl
put_first start (one ∷ rest) place new same = rw (eq-eqb start place same) refl

pub put_above-place : (start : ℕ) (xs : List (ℕ × ℤ)) (other id : ℕ) (layer : ℤ) → start ≢ other → put_after start xs other (id, layer) ≡ put_above xs other id layer
put_above-place start [] other id layer away = rw (neq-eqb start other away) refl
put_above-place start (one ∷ rest) other id layer away =
    elim (eqb_tells one.0 other) [
      | inl same ↦ rw (neq-eqb start other away, same.0) (ap (λ tail. one ∷ tail) (put_first one.0 rest other (id, layer) same.1))
      | inr differ ↦ rw (neq-eqb start other away, differ.0) (ap (λ tail. one ∷ tail) (put_above-place one.0 rest other id layer differ.1))
    ]

pub put_below-place : (start : ℕ) (xs : List (ℕ × ℤ)) (other id : ℕ) (layer : ℤ) → is_in xs other ≡ true → IsApart start xs → IsDistinct xs → put_after start xs (previous_in start xs other) (id, layer) ≡ put_below xs other id layer
put_below-place start [] other id layer there apart distinct = cc
put_below-place start (one ∷ rest) other id layer there apart distinct =
    elim (eqb_tells one.0 other) [
      | inl same ↦ rw (same.0, eq-eqb other one.0 (sym same.1), eq-eqb start start refl) refl
      | inr differ ↦
          let deeper : is_in rest other ≡ true = rw differ.0 at there in
          let away = previous_in_apart one.0 rest other start deeper apart.1 (λ e. apart.0 (sym e)) in
          rw (differ.0, neq-eqb other one.0 (λ e. differ.1 (sym e)), neq-eqb start (previous_in one.0 rest other) (λ e. away (sym e))) (ap (λ tail. one ∷ tail) (put_below-place one.0 rest other id layer deeper distinct.0 distinct.1))
    ]

pub last_up_to-IsPlace : (start : ℕ) (xs : List (ℕ × ℤ)) (layer : ℤ) → IsPlace start xs (last_up_to start xs layer)
last_up_to-IsPlace start [] layer = refl
last_up_to-IsPlace start (one ∷ rest) layer =
    let later = last_up_to-IsPlace one.0 rest layer in
    elim (int_lt layer one.1) as (λ b. IsPlace start (one ∷ rest) (if b then start else last_up_to one.0 rest layer)) [ true ↦ inl refl | false ↦ inr later ]

pub last_below-IsPlace : (start : ℕ) (xs : List (ℕ × ℤ)) (layer : ℤ) → IsPlace start xs (last_below start xs layer)
last_below-IsPlace start [] layer = refl
last_below-IsPlace start (one ∷ rest) layer =
    let later = last_below-IsPlace one.0 rest layer in
    elim (int_lt one.1 layer) as (λ b. IsPlace start (one ∷ rest) (if b then last_below one.0 rest layer else start)) [ true ↦ inr later | false ↦ inl refl ]

-- an edit of the list is an object put after this place, where its layer belongs
pub record IsPut (xs : List (ℕ × ℤ)) (place id : ℕ) (layer : ℤ) (new : List (ℕ × ℤ)) : Type 0 where
  pub at : IsPlace 0 xs place
  pub layered : IsLayered (put_after 0 xs place (id, layer))
  pub order : put_after 0 xs place (id, layer) ≡ new

put_layered : (xs : List (ℕ × ℤ)) (place id : ℕ) (layer : ℤ) (new : List (ℕ × ℤ)) → IsPlace 0 xs place → put_after 0 xs place (id, layer) ≡ new → IsLayered new → IsPut xs place id layer new
put_layered xs place id layer new at order layered = record { at = at; layered = subst IsLayered (sym order) layered; order = order }

pub put_at_top : (xs : List (ℕ × ℤ)) (place id : ℕ) (layer : ℤ) → place ≡ last_up_to 0 xs layer → IsApart 0 xs → IsDistinct xs → IsLayered xs → IsPut xs place id layer (put_top xs id layer)
put_at_top xs place id layer is apart distinct layered =
    put_layered xs place id layer (put_top xs id layer) (rw is (last_up_to-IsPlace 0 xs layer)) (rw is (put_top-place 0 xs id layer apart distinct)) (IsLayered-put_top xs id layer layered)

pub put_at_bottom : (xs : List (ℕ × ℤ)) (place id : ℕ) (layer : ℤ) → place ≡ last_below 0 xs layer → IsApart 0 xs → IsDistinct xs → IsLayered xs → IsPut xs place id layer (put_bottom xs id layer)
put_at_bottom xs place id layer is apart distinct layered =
    put_layered xs place id layer (put_bottom xs id layer) (rw is (last_below-IsPlace 0 xs layer)) (rw is (put_bottom-place 0 xs id layer apart distinct)) (IsLayered-put_bottom xs id layer layered)

pub put_right_above : (xs : List (ℕ × ℤ)) (other id : ℕ) (layer : ℤ) → layer_in xs other ≡ Some layer → IsApart 0 xs → IsLayered xs → IsPut xs other id layer (put_above xs other id layer)
put_right_above xs other id layer its apart layered =
    let there : is_in xs other ≡ true = ap is_some its in
    put_layered xs other id layer (put_above xs other id layer) (in_is_place 0 xs other there) (put_above-place 0 xs other id layer (λ e. in_apart xs other 0 there apart (sym e))) (IsLayered-put_above xs other id layer its layered)

pub put_right_below : (xs : List (ℕ × ℤ)) (place other id : ℕ) (layer : ℤ) → place ≡ previous_in 0 xs other → layer_in xs other ≡ Some layer → IsApart 0 xs → IsDistinct xs → IsLayered xs → IsPut xs place id layer (put_below xs other id layer)
put_right_below xs place other id layer is its apart distinct layered =
    let there : is_in xs other ≡ true = ap is_some its in
    put_layered xs place id layer (put_below xs other id layer) (rw is (previous_is_place 0 xs other there)) (rw is (put_below-place 0 xs other id layer there apart distinct)) (IsLayered-put_below xs other id layer its layered)
