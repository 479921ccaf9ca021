-- The layers of an order that was changed.
use Rattle.std.proofs.Common.{◌≡◌, ◌≢◌, ℕ, ℤ, Bool, true, false, List, [], ◌∷◌, Option, Some, None, Result, Ok, Err, OnOk, OnErr, if◌then◌else◌, ◌==◌, int_lt, refl, sym, ap, ◌∙◌, inl, inr, arith, eq-eqb}
use Rattle.std.specs.Ordering.{int_eq}
use Rattle.std.specs.Cmp.{signed_Decides}
use Rattle.std.proofs.lemmas.Option.{none-some}
use Rattle.std.proofs.lemmas.Bool.Decides.{nat_tests, eqb_tells}
use Rattle.ev_stack.specs.LayerOrder.{layer_in, IsApart, IsDistinct, without, put_top, put_bottom, put_above, put_below, to_top}
use Rattle.std.specs.Result.{result_err}
use Rattle.ev_stack.specs.declared.siblings.StackErr.{StackErr}
use Rattle.ev_stack.specs.declared.siblings.StackErr.TheVariants.{Unknown, Itself, Layer}
use Rattle.ev_stack.specs.StackCalls.{beside_fault, place_fault, raised, lowered, relayered, placed_above, placed_below}
use Rattle.ev_stack.proofs.Lists.{apart_without, layer_in_absent, layer_in-without}

-- one more entry, in front or behind another
in_front : (id q : ℕ) (a t : Option ℤ) → (if id == q then a else t) ≡ (if q == id then a else t)
in_front id q a t = grind (arith, nat_tests)

behind : (id q head : ℕ) (a b t later : Option ℤ) → head ≢ id → later ≡ (if q == id then a else t) → (if head == q then b else later) ≡ (if q == id then a else if head == q then b else t)
behind id q head a b t later apart e = grind (arith, nat_tests)

-- the same, where it stands in front or one of the later ones does
first_or_later : (b : Bool) (one : ℕ × ℤ) (rest new : List (ℕ × ℤ)) (id : ℕ) (layer : ℤ) (q : ℕ) → one.0 ≢ id → layer_in new q ≡ (if q == id then Some layer else layer_in rest q)
    → layer_in (if b then (id, layer) ∷ one ∷ rest else one ∷ new) q ≡ (if q == id then Some layer else layer_in (one ∷ rest) q)
first_or_later true one rest new id layer q apart later = in_front id q (Some layer) (layer_in (one ∷ rest) q)
first_or_later false one rest new id layer q apart later = behind id q one.0 (Some layer) (Some one.1) (layer_in rest q) (layer_in new q) apart later

later_or_first : (b : Bool) (one : ℕ × ℤ) (rest new : List (ℕ × ℤ)) (id : ℕ) (layer : ℤ) (q : ℕ) → one.0 ≢ id → layer_in new q ≡ (if q == id then Some layer else layer_in rest q)
    → layer_in (if b then one ∷ new else (id, layer) ∷ one ∷ rest) q ≡ (if q == id then Some layer else layer_in (one ∷ rest) q)
later_or_first true = first_or_later false
later_or_first false = first_or_later true

pub layer_in-put_top : (xs : List (ℕ × ℤ)) (id : ℕ) (layer : ℤ) (q : ℕ) → IsApart id xs → layer_in (put_top xs id layer) q ≡ (if q == id then Some layer else layer_in xs q)
layer_in-put_top [] id layer q apart = in_front id q (Some layer) None
layer_in-put_top (one ∷ rest) id layer q apart = first_or_later (int_lt layer one.1) one rest (put_top rest id layer) id layer q apart.0 (layer_in-put_top rest id layer q apart.1)

layer_in-put_bottom : (xs : List (ℕ × ℤ)) (id : ℕ) (layer : ℤ) (q : ℕ) → IsApart id xs → layer_in (put_bottom xs id layer) q ≡ (if q == id then Some layer else layer_in xs q)
layer_in-put_bottom [] id layer q apart = in_front id q (Some layer) None
layer_in-put_bottom (one ∷ rest) id layer q apart = later_or_first (int_lt one.1 layer) one rest (put_bottom rest id layer) id layer q apart.0 (layer_in-put_bottom rest id layer q apart.1)

layer_in-put_above : (xs : List (ℕ × ℤ)) (other id : ℕ) (layer beside : ℤ) (q : ℕ) → IsApart id xs → layer_in xs other ≡ Some beside → layer_in (put_above xs other id layer) q ≡ (if q == id then Some layer else layer_in xs q)
layer_in-put_above [] other id layer beside q apart there = absurd (none-some beside there)
layer_in-put_above (one ∷ rest) other id layer beside q apart there = go (one.0 == other) there (λ there. layer_in-put_above rest other id layer beside q apart.1 there) where
  go : (b : Bool) → (if b then Some one.1 else layer_in rest other) ≡ Some beside → (layer_in rest other ≡ Some beside → layer_in (put_above rest other id layer) q ≡ (if q == id then Some layer else layer_in rest q))
      → layer_in (if b then one ∷ (id, layer) ∷ rest else one ∷ put_above rest other id layer) q ≡ (if q == id then Some layer else layer_in (one ∷ rest) q)
  go true there later = behind id q one.0 (Some layer) (Some one.1) (layer_in rest q) (if id == q then Some layer else layer_in rest q) apart.0 (in_front id q (Some layer) (layer_in rest q))
  go false there later = behind id q one.0 (Some layer) (Some one.1) (layer_in rest q) (layer_in (put_above rest other id layer) q) apart.0 (later there)

layer_in-put_below : (xs : List (ℕ × ℤ)) (other id : ℕ) (layer beside : ℤ) (q : ℕ) → IsApart id xs → layer_in xs other ≡ Some beside → layer_in (put_below xs other id layer) q ≡ (if q == id then Some layer else layer_in xs q)
layer_in-put_below [] other id layer beside q apart there = absurd (none-some beside there)
layer_in-put_below (one ∷ rest) other id layer beside q apart there = go (one.0 == other) there (λ there. layer_in-put_below rest other id layer beside q apart.1 there) where
  go : (b : Bool) → (if b then Some one.1 else layer_in rest other) ≡ Some beside → (layer_in rest other ≡ Some beside → layer_in (put_below rest other id layer) q ≡ (if q == id then Some layer else layer_in rest q))
      → layer_in (if b then (id, layer) ∷ one ∷ rest else one ∷ put_below rest other id layer) q ≡ (if q == id then Some layer else layer_in (one ∷ rest) q)
  go true there later = in_front id q (Some layer) (layer_in (one ∷ rest) q)
  go false there later = behind id q one.0 (Some layer) (Some one.1) (layer_in rest q) (layer_in (put_below rest other id layer) q) apart.0 (later there)

-- an object that was taken out, and then put elsewhere
pub layer_in-gone : (xs : List (ℕ × ℤ)) (id q : ℕ) → IsDistinct xs → layer_in (without xs id) q ≡ (if q == id then None else layer_in xs q)
layer_in-gone xs id q distinct = elim (eqb_tells q id) [
  | inl same ↦ rw (same.0, same.1) (layer_in_absent (without xs id) id (apart_without xs id distinct))
  | inr differ ↦ rw differ.0 (layer_in-without xs id q differ.1)
]

-- an object that was put back into its layer
back : (xs : List (ℕ × ℤ)) (id q : ℕ) (layer : ℤ) (now : Option ℤ) → layer_in xs id ≡ Some layer → now ≡ (if q == id then Some layer else layer_in (without xs id) q) → now ≡ layer_in xs q
back xs id q layer now own e = elim (eqb_tells q id) [
  | inl same ↦ (rw same.0 at e) ∙ sym own ∙ ap (layer_in xs) (sym same.1)
  | inr differ ↦ (rw differ.0 at e) ∙ layer_in-without xs id q differ.1
]

moved : (xs : List (ℕ × ℤ)) (id q : ℕ) (layer : ℤ) (now : Option ℤ) → now ≡ (if q == id then Some layer else layer_in (without xs id) q) → now ≡ (if q == id then Some layer else layer_in xs q)
moved xs id q layer now e = elim (eqb_tells q id) [
  | inl same ↦ rw same.0 (rw same.0 at e)
  | inr differ ↦ rw differ.0 ((rw differ.0 at e) ∙ layer_in-without xs id q differ.1)
]

module _ (xs : List (ℕ × ℤ)) (id : ℕ) (layer : ℤ) (own : layer_in xs id ≡ Some layer) (distinct : IsDistinct xs) where
  pub layer_in-raised : (q : ℕ) → layer_in (raised xs id) q ≡ layer_in xs q
  layer_in-raised q = rw own (back xs id q layer _ own (layer_in-put_top (without xs id) id layer q (apart_without xs id distinct)))

  pub layer_in-lowered : (q : ℕ) → layer_in (lowered xs id) q ≡ layer_in xs q
  layer_in-lowered q = rw own (back xs id q layer _ own (layer_in-put_bottom (without xs id) id layer q (apart_without xs id distinct)))

  pub layer_in-relayered : (new : ℤ) (q : ℕ) → layer_in (relayered xs id new) q ≡ (if q == id then Some new else layer_in xs q)
  layer_in-relayered new q = rw own (go (int_eq layer new) refl) where
    go : (b : Bool) → int_eq layer new ≡ b → layer_in (if b then xs else to_top xs id new) q ≡ (if q == id then Some new else layer_in xs q)
    go true e = elim (eqb_tells q id) [
      | inl same ↦ rw same.0 (ap (layer_in xs) same.1 ∙ own ∙ ap Some (int_same layer new e))
      | inr differ ↦ rw differ.0 refl
    ] where
      int_same : (a b : ℤ) → int_eq a b ≡ true → a ≡ b
      int_same a b e = (signed_Decides a b).0 e
    go false e = moved xs id q new _ (layer_in-put_top (without xs id) id new q (apart_without xs id distinct))

  module _ (other : ℕ) (beside : ℤ) (there : layer_in xs other ≡ Some beside) (apart : other ≢ id) where
    pub layer_in-placed_above : (q : ℕ) → layer_in (placed_above xs id other) q ≡ layer_in xs q
    layer_in-placed_above q = rw own (back xs id q layer _ own
        (layer_in-put_above (without xs id) other id layer beside q (apart_without xs id distinct) (layer_in-without xs id other apart ∙ there)))

    pub layer_in-placed_below : (q : ℕ) → layer_in (placed_below xs id other) q ≡ layer_in xs q
    layer_in-placed_below q = rw own (back xs id q layer _ own
        (layer_in-put_below (without xs id) other id layer beside q (apart_without xs id distinct) (layer_in-without xs id other apart ∙ there)))

-- whatever a move answers, the layers stay
pub still_beside : {T : Type 0} (order order' moved : List (ℕ × ℤ)) (id other : ℕ) (result : Result T StackErr) → result_err result ≡ place_fault order id other → OnOk result (order' ≡ moved) → OnErr result (order' ≡ order)
    → ((layer beside : ℤ) → layer_in order id ≡ Some layer → layer_in order other ≡ Some beside → other ≢ id → (q : ℕ) → layer_in moved q ≡ layer_in order q) → (q : ℕ) → layer_in order' q ≡ layer_in order q
still_beside order order' moved id other (Err cause) fault ok err stay q = ap (λ order. layer_in order q) err
still_beside order order' moved id other (Ok done) fault ok err stay q = go (layer_in order id) (layer_in order other) refl refl fault where
  apart : (level : Bool) → None ≡ (if id == other then Some Itself else if level then None else Some Layer) → other ≢ id
  apart level f e = none-some Itself (f ∙ ap (λ same. if same then Some Itself else if level then None else Some Layer) (eq-eqb id other (sym e)))

  go : (own near : Option ℤ) → layer_in order id ≡ own → layer_in order other ≡ near → None ≡ beside_fault own near id other → layer_in order' q ≡ layer_in order q
  go None near e f g = absurd (none-some Unknown g)
  go (Some layer) None e f g = absurd (none-some Unknown g)
  go (Some layer) (Some near) e f g = ap (λ order. layer_in order q) ok ∙ stay layer near e f (apart (int_eq layer near) g) q
