-- Edits in which layers never fall.
use Rattle.std.proofs.Common.{◌≡◌, ℕ, ℤ, true, false, List, [], ◌∷◌, Some, inl, inr, if◌then◌else◌, refl, subst, arith}
use Rattle.std.proofs.lemmas.Bool.Decides.{eqb_tells}
use Rattle.std.proofs.lemmas.Int.{ints}
use Rattle.std.specs.Prelude.{int_lt, ◌≤ℤ◌}
use Rattle.ev_stack.specs.LayerOrder.{layer_in, IsFrom, IsLayered, without, put_top, put_bottom, put_above, put_below}

lower : (a b : ℤ) → int_lt a b ≡ true → a ≤ℤ b
lower a b e = grind (arith, ints)

not_lower : (a b : ℤ) → int_lt a b ≡ false → b ≤ℤ a
not_lower a b e = grind (arith, ints)

chained : (a b c : ℤ) → a ≤ℤ b → b ≤ℤ c → a ≤ℤ c
chained a b c p q = grind (arith, ints)

same : (a : ℤ) → a ≤ℤ a
same a = grind (arith, ints)

IsFrom-weaker : (low high : ℤ) (xs : List (ℕ × ℤ)) → low ≤ℤ high → IsFrom high xs → IsFrom low xs
IsFrom-weaker low high [] p h = tt
IsFrom-weaker low high (one ∷ rest) p h = (chained low high one.1 p h.0, IsFrom-weaker low high rest p h.1)

IsFrom-without : (low : ℤ) (xs : List (ℕ × ℤ)) (id : ℕ) → IsFrom low xs → IsFrom low (without xs id)
IsFrom-without low [] id h = tt
IsFrom-without low (one ∷ rest) id h = elim (eqb_tells one.0 id) [ inl here ↦ rw here.0 h.1 | inr away ↦ rw away.0 (h.0, IsFrom-without low rest id h.1) ]

pub IsLayered-without : (xs : List (ℕ × ℤ)) (id : ℕ) → IsLayered xs → IsLayered (without xs id)
IsLayered-without [] id h = tt
IsLayered-without (one ∷ rest) id h = elim (eqb_tells one.0 id) [ inl here ↦ rw here.0 h.1 | inr away ↦ rw away.0 (IsFrom-without one.1 rest id h.0, IsLayered-without rest id h.1) ]

IsFrom-put_top : (low : ℤ) (xs : List (ℕ × ℤ)) (id : ℕ) (layer : ℤ) → low ≤ℤ layer → IsFrom low xs → IsFrom low (put_top xs id layer)
IsFrom-put_top low [] id layer p h = (p, tt)
IsFrom-put_top low (one ∷ rest) id layer p h =
    let later = IsFrom-put_top low rest id layer p h.1 in
    elim (int_lt layer one.1) as (λ b. IsFrom low (if b then (id, layer) ∷ one ∷ rest else one ∷ put_top rest id layer)) [ true ↦ (p, h) | false ↦ (h.0, later) ]

pub IsLayered-put_top : (xs : List (ℕ × ℤ)) (id : ℕ) (layer : ℤ) → IsLayered xs → IsLayered (put_top xs id layer)
IsLayered-put_top [] id layer h = (tt, tt)
IsLayered-put_top (one ∷ rest) id layer h =
    let later = IsLayered-put_top rest id layer h.1 in
    elim (int_lt layer one.1) as (λ b. int_lt layer one.1 ≡ b → IsLayered (if b then (id, layer) ∷ one ∷ rest else one ∷ put_top rest id layer)) [
      | true ↦ λ e. let p = lower layer one.1 e in ((p, IsFrom-weaker layer one.1 rest p h.0), h)
      | false ↦ λ e. (IsFrom-put_top one.1 rest id layer (not_lower layer one.1 e) h.0, later)
    ] refl

IsFrom-put_bottom : (low : ℤ) (xs : List (ℕ × ℤ)) (id : ℕ) (layer : ℤ) → low ≤ℤ layer → IsFrom low xs → IsFrom low (put_bottom xs id layer)
IsFrom-put_bottom low [] id layer p h = (p, tt)
IsFrom-put_bottom low (one ∷ rest) id layer p h =
    let later = IsFrom-put_bottom low rest id layer p h.1 in
    elim (int_lt one.1 layer) as (λ b. IsFrom low (if b then one ∷ put_bottom rest id layer else (id, layer) ∷ one ∷ rest)) [ true ↦ (h.0, later) | false ↦ (p, h) ]

pub IsLayered-put_bottom : (xs : List (ℕ × ℤ)) (id : ℕ) (layer : ℤ) → IsLayered xs → IsLayered (put_bottom xs id layer)
IsLayered-put_bottom [] id layer h = (tt, tt)
IsLayered-put_bottom (one ∷ rest) id layer h =
    let later = IsLayered-put_bottom rest id layer h.1 in
    elim (int_lt one.1 layer) as (λ b. int_lt one.1 layer ≡ b → IsLayered (if b then one ∷ put_bottom rest id layer else (id, layer) ∷ one ∷ rest)) [
      | true ↦ λ e. (IsFrom-put_bottom one.1 rest id layer (lower one.1 layer e) h.0, later)
      | false ↦ λ e. let p = not_lower one.1 layer e in ((p, IsFrom-weaker layer one.1 rest p h.0), h)
    ] refl

-- the layer of an object of the list is in the list's range
pub in_range : (low : ℤ) (xs : List (ℕ × ℤ)) (id : ℕ) (layer : ℤ) → IsFrom low xs → layer_in xs id ≡ Some layer → low ≤ℤ layer
in_range low [] id layer h e = cc
in_range low (one ∷ rest) id layer h e =
    elim (eqb_tells one.0 id) [
      | inl here ↦ subst (λ l. low ≤ℤ l) (let found : Some one.1 ≡ Some layer = rw here.0 at e in cc) h.0
      | inr away ↦ in_range low rest id layer h.1 (rw away.0 at e)
    ]

IsFrom-put_above : (low : ℤ) (xs : List (ℕ × ℤ)) (other id : ℕ) (layer : ℤ) → low ≤ℤ layer → IsFrom low xs → IsFrom low (put_above xs other id layer)
IsFrom-put_above low [] other id layer p h = tt
IsFrom-put_above low (one ∷ rest) other id layer p h = elim (eqb_tells one.0 other) [ inl here ↦ rw here.0 (h.0, (p, h.1)) | inr away ↦ rw away.0 (h.0, IsFrom-put_above low rest other id layer p h.1) ]

pub IsLayered-put_above : (xs : List (ℕ × ℤ)) (other id : ℕ) (layer : ℤ) → layer_in xs other ≡ Some layer → IsLayered xs → IsLayered (put_above xs other id layer)
IsLayered-put_above [] other id layer its h = tt
IsLayered-put_above (one ∷ rest) other id layer its h =
    elim (eqb_tells one.0 other) [
      | inl here ↦
          let found : one.1 ≡ layer = let e : Some one.1 ≡ Some layer = rw here.0 at its in cc in
          rw here.0 ((subst (λ l. one.1 ≤ℤ l) found (same one.1), h.0), (subst (λ l. IsFrom l rest) found h.0, h.1))
      | inr away ↦
          let deeper : layer_in rest other ≡ Some layer = rw away.0 at its in
          rw away.0 (IsFrom-put_above one.1 rest other id layer (in_range one.1 rest other layer h.0 deeper) h.0, IsLayered-put_above rest other id layer deeper h.1)
    ]

IsFrom-put_below : (low : ℤ) (xs : List (ℕ × ℤ)) (other id : ℕ) (layer : ℤ) → low ≤ℤ layer → IsFrom low xs → IsFrom low (put_below xs other id layer)
IsFrom-put_below low [] other id layer p h = tt
IsFrom-put_below low (one ∷ rest) other id layer p h = elim (eqb_tells one.0 other) [ inl here ↦ rw here.0 (p, h) | inr away ↦ rw away.0 (h.0, IsFrom-put_below low rest other id layer p h.1) ]

pub IsLayered-put_below : (xs : List (ℕ × ℤ)) (other id : ℕ) (layer : ℤ) → layer_in xs other ≡ Some layer → IsLayered xs → IsLayered (put_below xs other id layer)
IsLayered-put_below [] other id layer its h = tt
IsLayered-put_below (one ∷ rest) other id layer its h =
    elim (eqb_tells one.0 other) [
      | inl here ↦
          let found : one.1 ≡ layer = let e : Some one.1 ≡ Some layer = rw here.0 at its in cc in
          rw here.0 ((subst (λ l. l ≤ℤ one.1) found (same one.1), subst (λ l. IsFrom l rest) found h.0), h)
      | inr away ↦
          let deeper : layer_in rest other ≡ Some layer = rw away.0 at its in
          rw away.0 (IsFrom-put_below one.1 rest other id layer (in_range one.1 rest other layer h.0 deeper) h.0, IsLayered-put_below rest other id layer deeper h.1)
    ]
