-- The tops of a list, and how an edit of the list changes them.
use Rattle.std.proofs.Common.{◌≡◌, ◌≢◌, ℕ, ℤ, ◌≤◌, true, false, Bool, List, [], ◌∷◌, Option, Some, None, is_some, inl, inr, ◌⊎◌, if◌then◌else◌, ◌==◌, length, suc, refl, sym, subst, ◌∙◌, ap, eq-eqb, arith}
use Rattle.std.proofs.lemmas.Bool.Decides.{eqb_tells, Decides-int_eq}
use Rattle.std.proofs.lemmas.Int.{ints}
use Rattle.std.specs.Prelude.{int_lt, ◌≤ℤ◌, ◌<ℤ◌}
use Rattle.std.specs.Ordering.{int_eq}
use Rattle.ev_stack.specs.LayerOrder.{layer_in, IsApart, IsDistinct, IsFrom, IsLayered, without}
use Rattle.ev_stack.specs.Links.{previous_in, put_after, IsPlace, last_up_to, last_below}
use Rattle.ev_stack.specs.Tops.{begins_in, tops_of, with_top, without_top, only_in, in_layer}
use Rattle.ev_stack.proofs.Lists.{neq-eqb, in_apart}
use Rattle.ev_stack.proofs.Layering.{in_range}

-- one layer lies below the other, with what the tests say
record IsLower (a b : ℤ) : Type 0 where
  pub below : a <ℤ b
  pub lt : int_lt a b ≡ true
  pub gt : int_lt b a ≡ false
  pub eq : int_eq a b ≡ false
  pub qe : int_eq b a ≡ false

-- the layers are one
record IsSame (a b : ℤ) : Type 0 where
  pub same : a ≡ b
  pub lt : int_lt a b ≡ false
  pub gt : int_lt b a ≡ false
  pub eq : int_eq a b ≡ true
  pub qe : int_eq b a ≡ true

pub not_eq : (a b : ℤ) → a ≢ b → int_eq a b ≡ false
not_eq a b differ = go (int_eq a b) refl
  where
    go : (r : Bool) → int_eq a b ≡ r → int_eq a b ≡ false
    go true e = absurd (differ ((Decides-int_eq a b).0 e))
    go false e = e

layers_tell : (a b : ℤ) → IsLower a b ⊎ (IsSame a b ⊎ IsLower b a)
layers_tell a b = go (int_lt a b) refl (int_lt b a) refl
  where
    lower : (a b : ℤ) → int_lt a b ≡ true → a <ℤ b
    lower a b e = grind (arith, ints)

    apart : (a b : ℤ) → a <ℤ b → a ≢ b
    apart a b e = grind (arith, ints)

    back : (a b : ℤ) → a <ℤ b → int_lt b a ≡ false
    back a b e = grind (arith, ints)

    equal : (a b : ℤ) → int_lt a b ≡ false → int_lt b a ≡ false → a ≡ b
    equal a b e f = grind (arith, ints)

    below : (a b : ℤ) → int_lt a b ≡ true → IsLower a b
    below a b e =
        let less = lower a b e in
        record { below = less; lt = e; gt = back a b less; eq = not_eq a b (apart a b less); qe = not_eq b a (λ f. apart a b less (sym f)) }

    go : (p : Bool) → int_lt a b ≡ p → (q : Bool) → int_lt b a ≡ q → IsLower a b ⊎ (IsSame a b ⊎ IsLower b a)
    go true e q f = inl (below a b e)
    go false e true f = inr (inr (below b a f))
    go false e false f =
        let same = equal a b e f in
        inr (inl (record { same = same; lt = e; gt = f; eq = (Decides-int_eq a b).1 same; qe = (Decides-int_eq b a).1 (sym same) }))

not_over : (a b : ℤ) → a ≤ℤ b → b <ℤ a → ⊥
not_over a b p q = grind (arith, ints)

chained : (a b c : ℤ) → a ≤ℤ b → b ≤ℤ c → a ≤ℤ c
chained a b c p q = grind (arith, ints)

lower_apart : (a b c : ℤ) → a <ℤ b → b ≤ℤ c → c ≢ a
lower_apart a b c p q = grind (arith, ints)

-- ---- the places in the list are those in its tops

pub last_up_to-tops_of : (start : ℕ) (xs : List (ℕ × ℤ)) (layer : ℤ) → last_up_to start (tops_of xs) layer ≡ last_up_to start xs layer
last_up_to-tops_of start [] layer = refl
last_up_to-tops_of start (one ∷ []) layer = refl
last_up_to-tops_of start (one ∷ two ∷ more) layer =
    let later : (s : ℕ) → last_up_to s (tops_of (two ∷ more)) layer ≡ last_up_to s (two ∷ more) layer = λ s. last_up_to-tops_of s (two ∷ more) layer in
    elim (layers_tell two.1 one.1) [
      | inl lower ↦ rw lower.eq (ap (λ t. if int_lt layer one.1 then start else t) (later one.0))
      | inr (inl same) ↦ rw same.eq (later start ∙ merged start one.0 layer two.1 one.1 (last_up_to two.0 more layer) same.same)
      | inr (inr higher) ↦ rw higher.qe (ap (λ t. if int_lt layer one.1 then start else t) (later one.0))
    ]
  where
    merged : (x y : ℕ) (layer a b : ℤ) (z : ℕ) → a ≡ b → (if int_lt layer a then x else z) ≡ (if int_lt layer b then x else (if int_lt layer a then y else z))
    merged x y layer a b z same = rw same (elim (int_lt layer b) as (λ t. (if t then x else z) ≡ (if t then x else (if t then y else z))) [ true ↦ refl | false ↦ refl ])

pub last_below-tops_of : (start : ℕ) (xs : List (ℕ × ℤ)) (layer : ℤ) → last_below start (tops_of xs) layer ≡ last_below start xs layer
last_below-tops_of start [] layer = refl
last_below-tops_of start (one ∷ []) layer = refl
last_below-tops_of start (one ∷ two ∷ more) layer =
    let later : (s : ℕ) → last_below s (tops_of (two ∷ more)) layer ≡ last_below s (two ∷ more) layer = λ s. last_below-tops_of s (two ∷ more) layer in
    elim (layers_tell two.1 one.1) [
      | inl lower ↦ rw lower.eq (ap (λ t. if int_lt one.1 layer then t else start) (later one.0))
      | inr (inl same) ↦ rw same.eq (later start ∙ merged start one.0 layer two.1 one.1 (last_below two.0 more layer) same.same)
      | inr (inr higher) ↦ rw higher.qe (ap (λ t. if int_lt one.1 layer then t else start) (later one.0))
    ]
  where
    merged : (x y : ℕ) (layer a b : ℤ) (z : ℕ) → a ≡ b → (if int_lt a layer then z else x) ≡ (if int_lt b layer then (if int_lt a layer then z else y) else x)
    merged x y layer a b z same = rw same (elim (int_lt b layer) as (λ t. (if t then z else x) ≡ (if t then (if t then z else y) else x)) [ true ↦ refl | false ↦ refl ])

-- ---- what the tops keep of the list

pub length-tops_of : (xs : List (ℕ × ℤ)) → length (tops_of xs) ≤ length xs
length-tops_of [] = omega arith
length-tops_of (one ∷ rest) =
    let later = length-tops_of rest in
    elim (begins_in rest one.1) as (λ b. length (if b then tops_of rest else one ∷ tops_of rest) ≤ suc (length rest)) [ true ↦ omega (arith, later) | false ↦ omega (arith, later) ]

pub IsApart-tops_of : (xs : List (ℕ × ℤ)) (id : ℕ) → IsApart id xs → IsApart id (tops_of xs)
IsApart-tops_of [] id apart = tt
IsApart-tops_of (one ∷ rest) id apart =
    let later = IsApart-tops_of rest id apart.1 in
    elim (begins_in rest one.1) as (λ b. IsApart id (if b then tops_of rest else one ∷ tops_of rest)) [ true ↦ later | false ↦ (apart.0, later) ]

IsFrom-tops_of : (low : ℤ) (xs : List (ℕ × ℤ)) → IsFrom low xs → IsFrom low (tops_of xs)
IsFrom-tops_of low [] from = tt
IsFrom-tops_of low (one ∷ rest) from =
    let later = IsFrom-tops_of low rest from.1 in
    elim (begins_in rest one.1) as (λ b. IsFrom low (if b then tops_of rest else one ∷ tops_of rest)) [ true ↦ later | false ↦ (from.0, later) ]

pub IsLayered-tops_of : (xs : List (ℕ × ℤ)) → IsLayered xs → IsLayered (tops_of xs)
IsLayered-tops_of [] layered = tt
IsLayered-tops_of (one ∷ rest) layered =
    let later = IsLayered-tops_of rest layered.1 in
    let from = IsFrom-tops_of one.1 rest layered.0 in
    elim (begins_in rest one.1) as (λ b. IsLayered (if b then tops_of rest else one ∷ tops_of rest)) [ true ↦ later | false ↦ (from, later) ]

begins_in-tops_of : (xs : List (ℕ × ℤ)) (layer : ℤ) → begins_in (tops_of xs) layer ≡ begins_in xs layer
begins_in-tops_of [] layer = refl
begins_in-tops_of (one ∷ []) layer = refl
begins_in-tops_of (one ∷ two ∷ more) layer =
    elim (layers_tell two.1 one.1) [
      | inl lower ↦ rw lower.eq refl
      | inr (inl same) ↦ rw same.eq (begins_in-tops_of (two ∷ more) layer ∙ ap (λ l. int_eq l layer) same.same)
      | inr (inr higher) ↦ rw higher.qe refl
    ]

-- a list of higher layers doesn't begin in this one
begins_higher : (xs : List (ℕ × ℤ)) (low layer : ℤ) → layer <ℤ low → IsFrom low xs → begins_in xs layer ≡ false
begins_higher [] low layer less from = refl
begins_higher (one ∷ rest) low layer less from = not_eq one.1 layer (lower_apart layer low one.1 less from.0)

-- ---- an object put after a place

-- below all others
with_top_first : (xs : List (ℕ × ℤ)) (id : ℕ) (layer : ℤ) (place : ℕ) → IsFrom layer xs → IsApart place xs → with_top xs id layer place ≡ (if begins_in xs layer then xs else (id, layer) ∷ xs)
with_top_first [] id layer place from apart = refl
with_top_first (one ∷ rest) id layer place from apart =
    elim (layers_tell one.1 layer) [
      | inl lower ↦ absurd (not_over layer one.1 from.0 lower.below)
      | inr (inl same) ↦ rw (same.lt, same.gt, neq-eqb one.0 place apart.0) refl
      | inr (inr higher) ↦ rw (higher.gt, higher.lt) refl
    ]

with_top-lowest : (xs : List (ℕ × ℤ)) (id : ℕ) (layer : ℤ) (place : ℕ) → IsFrom layer xs → IsApart place xs → with_top (tops_of xs) id layer place ≡ tops_of ((id, layer) ∷ xs)
with_top-lowest xs id layer place from apart =
    with_top_first (tops_of xs) id layer place (IsFrom-tops_of layer xs from) (IsApart-tops_of xs place apart)
    ∙ ap (λ b. if b then tops_of xs else (id, layer) ∷ tops_of xs) (begins_in-tops_of xs layer)

-- what was put into a list of at least this layer is in at least this layer
put_from : (start : ℕ) (xs : List (ℕ × ℤ)) (place id : ℕ) (layer low : ℤ) → IsPlace start xs place → IsFrom low (put_after start xs place (id, layer)) → low ≤ℤ layer
put_from start [] place id layer low at from =
    let h : IsFrom low ((id, layer) ∷ []) = rw (eq-eqb start place at) at from in h.0
put_from start (one ∷ rest) place id layer low at from =
    elim (eqb_tells start place) [
      | inl same ↦ (let h : IsFrom low ((id, layer) ∷ one ∷ rest) = rw same.0 at from in h.0)
      | inr differ ↦
          let h : IsFrom low (one ∷ put_after one.0 rest place (id, layer)) = rw differ.0 at from in
          put_from one.0 rest place id layer low (elim at [ inl e ↦ absurd (differ.1 e) | inr later ↦ later ]) h.1
    ]

put_first : (start : ℕ) (xs : List (ℕ × ℤ)) (place : ℕ) (new : ℕ × ℤ) → start ≡ place → put_after start xs place new ≡ new ∷ xs
put_first start [] place new same = rw (eq-eqb start place same) refl
put_first start (one ∷ rest) place new same = rw (eq-eqb start place same) refl

-- directly above the lowest object
put_second : (one : ℕ × ℤ) (rest : List (ℕ × ℤ)) (id : ℕ) (layer : ℤ) → IsApart one.0 rest → IsFrom one.1 ((id, layer) ∷ rest) → IsFrom layer rest
    → tops_of (one ∷ (id, layer) ∷ rest) ≡ with_top (tops_of (one ∷ rest)) id layer one.0
put_second one rest id layer apart from higher =
    let lowest = with_top-lowest rest id layer one.0 higher apart in
    elim (layers_tell one.1 layer) [
      | inl lower ↦
          rw (lower.qe, begins_higher rest layer one.1 lower.below higher, lower.lt) (ap (λ ts. one ∷ ts) (sym lowest))
      | inr (inl same) ↦ joins (begins_in rest one.1) refl same lowest
      | inr (inr over) ↦ absurd (not_over one.1 layer from.0 over.below)
    ]
  where
    joins : (b : Bool) → begins_in rest one.1 ≡ b → IsSame one.1 layer → with_top (tops_of rest) id layer one.0 ≡ tops_of ((id, layer) ∷ rest)
        → tops_of (one ∷ (id, layer) ∷ rest) ≡ with_top (tops_of (one ∷ rest)) id layer one.0
    joins true e same lowest = rw (same.qe, e) (sym lowest)
    joins false e same lowest =
        let first : begins_in rest layer ≡ false = ap (begins_in rest) (sym same.same) ∙ e in
        rw (same.qe, e, same.lt, same.gt, eq-eqb one.0 one.0 refl, first) refl

-- the tops after an object is put where its layer belongs
pub tops_of-put_after : (start : ℕ) (xs : List (ℕ × ℤ)) (place id : ℕ) (layer : ℤ) → IsPlace start xs place → IsApart start xs → IsDistinct xs
    → IsLayered (put_after start xs place (id, layer)) → tops_of (put_after start xs place (id, layer)) ≡ with_top (tops_of xs) id layer place
tops_of-put_after start [] place id layer at apart distinct layered = rw (eq-eqb start place at) refl
tops_of-put_after start (one ∷ rest) place id layer at apart distinct layered =
    elim (eqb_tells start place) [
      | inl same ↦
          let h : IsLayered ((id, layer) ∷ one ∷ rest) = rw same.0 at layered in
          rw same.0 (sym (with_top-lowest (one ∷ rest) id layer place h.0 (subst (λ n. IsApart n (one ∷ rest)) same.1 apart)))
      | inr differ ↦
          let h : IsLayered (one ∷ put_after one.0 rest place (id, layer)) = rw differ.0 at layered in
          let deeper : IsPlace one.0 rest place = elim at [ inl e ↦ absurd (differ.1 e) | inr later ↦ later ] in
          rw differ.0 (above one rest deeper distinct h (tops_of-put_after one.0 rest place id layer deeper distinct.0 distinct.1 h.1))
    ]
  where
    further : (one two : ℕ × ℤ) (put more : List (ℕ × ℤ)) → IsFrom one.1 (two ∷ put) → two.1 ≤ℤ layer
        → tops_of (two ∷ put) ≡ with_top (tops_of (two ∷ more)) id layer place → tops_of (one ∷ two ∷ put) ≡ with_top (tops_of (one ∷ two ∷ more)) id layer place
    further one two put more from high later =
        elim (layers_tell one.1 two.1) [
          | inl lower ↦
              elim (layers_tell one.1 layer) [
                | inl below ↦ rw (lower.qe, below.lt) (ap (λ ts. one ∷ ts) later)
                | inr (inl same) ↦ absurd (not_over two.1 one.1 (subst (λ l. two.1 ≤ℤ l) (sym same.same) high) lower.below)
                | inr (inr over) ↦ absurd (not_over one.1 layer (chained one.1 two.1 layer from.0 high) over.below)
              ]
          | inr (inl same) ↦ rw same.qe later
          | inr (inr over) ↦ absurd (not_over one.1 two.1 from.0 over.below)
        ]

    above : (one : ℕ × ℤ) (rest : List (ℕ × ℤ)) → IsPlace one.0 rest place → IsDistinct (one ∷ rest) → IsLayered (one ∷ put_after one.0 rest place (id, layer))
        → tops_of (put_after one.0 rest place (id, layer)) ≡ with_top (tops_of rest) id layer place
        → tops_of (one ∷ put_after one.0 rest place (id, layer)) ≡ with_top (tops_of (one ∷ rest)) id layer place
    above one rest at distinct layered later =
        elim (eqb_tells one.0 place) [
          | inl here ↦
              let put : put_after one.0 rest place (id, layer) ≡ (id, layer) ∷ rest = put_first one.0 rest place (id, layer) here.1 in
              let h : IsLayered (one ∷ (id, layer) ∷ rest) = rw put at layered in
              rw put (put_second one rest id layer distinct.0 h.0 h.1.0 ∙ ap (with_top (tops_of (one ∷ rest)) id layer) here.1)
          | inr away ↦ deep rest away.0 away.1 at layered later
        ]
      where
        deep : (rest : List (ℕ × ℤ)) → (one.0 == place) ≡ false → one.0 ≢ place → IsPlace one.0 rest place → IsLayered (one ∷ put_after one.0 rest place (id, layer))
            → tops_of (put_after one.0 rest place (id, layer)) ≡ with_top (tops_of rest) id layer place
            → tops_of (one ∷ put_after one.0 rest place (id, layer)) ≡ with_top (tops_of (one ∷ rest)) id layer place
        deep [] e away at layered later = absurd (away at)
        deep (two ∷ more) e away at layered later =
            let put : put_after one.0 (two ∷ more) place (id, layer) ≡ two ∷ put_after two.0 more place (id, layer) = rw e refl in
            let h : IsLayered (one ∷ two ∷ put_after two.0 more place (id, layer)) = rw put at layered in
            let deeper : IsPlace two.0 more place = elim at [ inl e ↦ absurd (away e) | inr next ↦ next ] in
            rw put (further one two (put_after two.0 more place (id, layer)) more h.0 (put_from two.0 more place id layer two.1 deeper h.1.0) (rw put at later))

-- ---- an object taken out

without_top_first : (xs : List (ℕ × ℤ)) (id : ℕ) (layer : ℤ) (instead : Option ℕ) → IsFrom layer xs → IsApart id xs → without_top xs id layer instead ≡ xs
without_top_first [] id layer instead from apart = refl
without_top_first (one ∷ rest) id layer instead from apart =
    elim (layers_tell one.1 layer) [
      | inl lower ↦ absurd (not_over layer one.1 from.0 lower.below)
      | inr (inl same) ↦ rw (same.lt, neq-eqb one.0 id apart.0) refl
      | inr (inr higher) ↦ rw (higher.gt, neq-eqb one.0 id apart.0) refl
    ]

without_top-others : (xs : List (ℕ × ℤ)) (id : ℕ) (layer : ℤ) (instead : Option ℕ) → IsFrom layer xs → IsApart id xs → without_top (tops_of xs) id layer instead ≡ tops_of xs
without_top-others xs id layer instead from apart = without_top_first (tops_of xs) id layer instead (IsFrom-tops_of layer xs from) (IsApart-tops_of xs id apart)

same_lt : (a : ℤ) → int_lt a a ≡ false
same_lt a = grind (arith, ints)

-- the lowest of the list leaves
out_first : (id : ℕ) (layer : ℤ) (rest : List (ℕ × ℤ)) → IsApart id rest → IsFrom layer rest → tops_of rest ≡ without_top (tops_of ((id, layer) ∷ rest)) id layer None
out_first id layer rest apart from = go (begins_in rest layer) refl
  where
    go : (b : Bool) → begins_in rest layer ≡ b → tops_of rest ≡ without_top (tops_of ((id, layer) ∷ rest)) id layer None
    go true e = rw e (sym (without_top-others rest id layer None from apart))
    go false e = rw (e, same_lt layer, eq-eqb id id refl) refl

-- the one above the lowest leaves
out_second : (one : ℕ × ℤ) (id : ℕ) (layer : ℤ) (rest : List (ℕ × ℤ)) → one.1 ≤ℤ layer → IsApart id rest → IsFrom layer rest
    → tops_of (one ∷ rest) ≡ without_top (tops_of (one ∷ (id, layer) ∷ rest)) id layer (only_in (Some one.1) one.0 layer)
out_second one id layer rest low apart from =
    elim (layers_tell one.1 layer) [
      | inl lower ↦
          rw (lower.qe, lower.lt, begins_higher rest layer one.1 lower.below from) (ap (λ ts. one ∷ ts) (out_first id layer rest apart from))
      | inr (inl same) ↦ rw (same.qe, same.eq) (joined (begins_in rest layer) refl same)
      | inr (inr over) ↦ absurd (not_over one.1 layer low over.below)
    ]
  where
    joined : (b : Bool) → begins_in rest layer ≡ b → IsSame one.1 layer → tops_of (one ∷ rest) ≡ without_top (tops_of ((id, layer) ∷ rest)) id layer (Some one.0)
    joined true e same =
        let first : begins_in rest one.1 ≡ true = ap (begins_in rest) same.same ∙ e in
        rw (e, first) (sym (without_top-others rest id layer (Some one.0) from apart))
    joined false e same =
        let first : begins_in rest one.1 ≡ false = ap (begins_in rest) same.same ∙ e in
        rw (e, first, same_lt layer, eq-eqb id id refl) (ap (λ l. (one.0, l) ∷ tops_of rest) same.same)

-- the tops after an object is taken out, where `layers` tells the layer of each object
pub tops_of-without : (layers : ℕ → Option ℤ) (start : ℕ) (xs : List (ℕ × ℤ)) (id : ℕ) (layer : ℤ) → layer_in xs id ≡ Some layer → IsDistinct xs → IsLayered xs
    → layers start ≡ None → ((q : ℕ) (l : ℤ) → layer_in xs q ≡ Some l → layers q ≡ Some l)
    → tops_of (without xs id) ≡ without_top (tops_of xs) id layer (in_layer layers (previous_in start xs id) layer)
tops_of-without layers start [] id layer its distinct layered none known = cc
tops_of-without layers start (one ∷ rest) id layer its distinct layered none known =
    elim (eqb_tells one.0 id) [
      | inl here ↦
          let own : one.1 ≡ layer = let e : Some one.1 ≡ Some layer = rw here.0 at its in cc in
          rw (here.0, eq-eqb id one.0 (sym here.1), none)
          (subst (λ l. tops_of rest ≡ without_top (tops_of (one ∷ rest)) id l None) own
          (subst (λ n. tops_of rest ≡ without_top (tops_of (one ∷ rest)) n one.1 None) here.1 (out_first one.0 one.1 rest distinct.0 layered.0)))
      | inr away ↦
          rw (away.0, neq-eqb id one.0 (λ e. away.1 (sym e)))
          (later one rest (rw away.0 at its) distinct layered (known one.0 one.1 (rw (eq-eqb one.0 one.0 refl) refl))
          (λ q l found. known q l (rw (neq-eqb one.0 q (λ e. in_apart rest q one.0 (ap is_some found) distinct.0 (sym e))) found)))
    ]
  where
    further : (one two : ℕ × ℤ) (out more : List (ℕ × ℤ)) (instead : Option ℕ) → one.1 ≤ℤ two.1 → two.1 ≤ℤ layer
        → tops_of (two ∷ out) ≡ without_top (tops_of (two ∷ more)) id layer instead
        → tops_of (one ∷ two ∷ out) ≡ without_top (tops_of (one ∷ two ∷ more)) id layer instead
    further one two out more instead low high later =
        elim (layers_tell one.1 two.1) [
          | inl lower ↦
              elim (layers_tell one.1 layer) [
                | inl below ↦ rw (lower.qe, below.lt) (ap (λ ts. one ∷ ts) later)
                | inr (inl same) ↦ absurd (not_over two.1 one.1 (subst (λ l. two.1 ≤ℤ l) (sym same.same) high) lower.below)
                | inr (inr over) ↦ absurd (not_over one.1 layer (chained one.1 two.1 layer low high) over.below)
              ]
          | inr (inl same) ↦ rw same.qe later
          | inr (inr over) ↦ absurd (not_over one.1 two.1 low over.below)
        ]

    later : (one : ℕ × ℤ) (rest : List (ℕ × ℤ)) → layer_in rest id ≡ Some layer → IsDistinct (one ∷ rest) → IsLayered (one ∷ rest)
        → layers one.0 ≡ Some one.1 → ((q : ℕ) (l : ℤ) → layer_in rest q ≡ Some l → layers q ≡ Some l)
        → tops_of (one ∷ without rest id) ≡ without_top (tops_of (one ∷ rest)) id layer (in_layer layers (previous_in one.0 rest id) layer)
    later one [] its distinct layered own known = cc
    later one (two ∷ more) its distinct layered own known =
        elim (eqb_tells two.0 id) [
          | inl here ↦
              let found : two.1 ≡ layer = let e : Some two.1 ≡ Some layer = rw here.0 at its in cc in
              rw (here.0, eq-eqb id two.0 (sym here.1), own)
              (subst (λ l. tops_of (one ∷ more) ≡ without_top (tops_of (one ∷ two ∷ more)) id l (only_in (Some one.1) one.0 l)) found
              (subst (λ n. tops_of (one ∷ more) ≡ without_top (tops_of (one ∷ two ∷ more)) n two.1 (only_in (Some one.1) one.0 two.1)) here.1
              (out_second one two.0 two.1 more layered.0.0 distinct.1.0 layered.1.0)))
          | inr away ↦
              let deeper : layer_in more id ≡ Some layer = rw away.0 at its in
              rw (away.0, neq-eqb id two.0 (λ e. away.1 (sym e)))
              (further one two (without more id) more (in_layer layers (previous_in two.0 more id) layer) layered.0.0 (in_range two.1 more id layer layered.1.0 deeper)
              (later two more deeper distinct.1 layered.1 (known two.0 two.1 (rw (eq-eqb two.0 two.0 refl) refl))
              (λ q l found. known q l (rw (neq-eqb two.0 q (λ e. in_apart more q two.0 (ap is_some found) distinct.1.0 (sym e))) found))))
        ]
