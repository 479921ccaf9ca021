-- One step of the pass over the bands of two sets of pixels.
use Rattle.std.proofs.Common.{◌≡◌, ℕ, ◌+◌, ◌≤◌, ◌<◌, Bool, true, false, List, [], ◌∷◌, ◌++◌, refl, sym, ap, ap₂, ◌∙◌, arith, subst, ⊎_elim, ◌⊎◌, inl, inr, zero, suc, append_assoc, append-nil}
use Rattle.std.proofs.lemmas.Bool.{le-leb, lt-leb, cases_lt, cases_eq, eq-eqb, ne_eqb}
use Rattle.std.proofs.lemmas.Bool.Decides.{nat_tests}
use Rattle.ev_geom.specs.Bands.{is_inside, IsRow, Band, row_at, IsBands}
use Rattle.ev_geom.proofs.Rows.{row_unique}
use Rattle.ev_geom.proofs.Banding.{row_at-before, IsBands-sooner}
use Rattle.ev_region.specs.declared.combine.Combine.{Combine}
use Rattle.ev_region.specs.declared.combine.Combine.TheVariants.{Union, Difference, Intersection}
use Rattle.ev_region.specs.Combine.{keeps}
use Rattle.ev_region.specs.RowMerge.{IsRowMerge}
use Rattle.ev_region.specs.BandMerge.{StartsBelow, bands_at, IsNextTop, IsLeft, PassesTop, PushesRow, IsBandMerge, last_edges, kept_bands}

-- bands with none that begins above row y
pub IsBands-from : (limit from y : ℕ) (row : List ℕ) (bands : List Band) → IsBands limit from row bands → StartsBelow y bands → IsBands limit y row bands
IsBands-from limit from y row [] good starts = good
IsBands-from limit from y row (band ∷ bands) good starts = (starts, good.1, good.2, good.3, good.4)

-- the next top is that of a band of either
top_range : (limit from y : ℕ) (row : List ℕ) (bands : List Band) → IsBands limit from row bands → 0 < bands_at y bands → (from ≤ y) × (y ≤ limit)
top_range limit from y row [] good stands = absurd (omega arith)
top_range limit from y row (band ∷ bands) good stands =
    ⊎_elim
    (λ here. (omega (arith, good.0), omega (arith, good.1)))
    (λ other. absurd (let none : bands_at y (band ∷ bands) ≡ 0 = rw (ne_eqb band.top y other) refl in omega arith))
    (cases_eq band.top y)

pub IsNextTop-range : (limit from y : ℕ) (row_a : List ℕ) (a : List Band) (row_b : List ℕ) (b : List Band) → IsBands limit from row_a a → IsBands limit from row_b b → IsNextTop y a b → (from ≤ y) × (y ≤ limit)
IsNextTop-range limit from y row_a a row_b b p q next =
    ⊎_elim
    (λ none. top_range limit from y row_b b q (omega (arith, next.stands)))
    (λ some. top_range limit from y row_a a p some)
    (cases_zero (bands_at y a))
  where
    cases_zero : (n : ℕ) → (n ≡ 0) ⊎ (0 < n)
    cases_zero zero = inl refl
    cases_zero (suc n) = inr (omega arith)

-- at a row where no band begins nothing changes
pub PassesTop-none : (y : ℕ) (row : List ℕ) (bands : List Band) → IsLeft y row bands → bands_at y bands ≡ 0 → PassesTop y row bands row bands
PassesTop-none y row [] left none = record { left = record { row = left.row; bands = left.bands }; before = λ k low. refl; after = λ k high. refl; count = refl }
PassesTop-none y row (band ∷ bands) left none =
    let good : IsBands 1000000 y row (band ∷ bands) = left.bands in
    let later : y + 1 ≤ band.top = grind (arith, nat_tests, good.0, none) in
    record {
      left = record { row = left.row; bands = (later, good.1, good.2, good.3, good.4) };
      before = λ k low. row_at-before 1000000 y row (band ∷ bands) k good low;
      after = λ k high. refl;
      count = omega (arith, none);
    }

-- at its top the first band begins
pub PassesTop-first : (y : ℕ) (row : List ℕ) (band : Band) (bands : List Band) → IsLeft y row (band ∷ bands) → band.top ≡ y → PassesTop y row (band ∷ bands) band.edges bands
PassesTop-first y row band bands left here =
    let good : IsBands 1000000 y row (band ∷ bands) = left.bands in
    record {
      left = record { row = good.3; bands = subst (λ (k : ℕ). IsBands 1000000 (k + 1) band.edges bands) here good.4 };
      before = λ k low. row_at-before 1000000 y row (band ∷ bands) k good low;
      after = λ k high. rw (le-leb band.top k (omega arith)) refl;
      count = rw (eq-eqb band.top y here) (omega arith);
    }

pub last_edges-push : (bands : List Band) (band : Band) → last_edges (bands ++ band ∷ []) ≡ band.edges
last_edges-push [] band = refl
last_edges-push (first ∷ []) band = refl
last_edges-push (first ∷ (next ∷ bands)) band = last_edges-push (next ∷ bands) band

-- where the merged row changes at y, the whole has a band there
pub band_turn : (keeps : Bool → Bool → Bool) (from y : ℕ) (row_a : List ℕ) (a : List Band) (row_b : List ℕ) (b : List Band) (row row_a' : List ℕ) (a' : List Band) (row_b' : List ℕ) (b' : List Band) (band : Band) (rest : List Band) → from ≤ y → y ≤ 1000000 → PassesTop y row_a a row_a' a' → PassesTop y row_b b row_b' b' → IsRowMerge keeps 0 false row_a false row_b false row → IsRow 1000000 0 false band.edges → band.top ≡ y → (band.edges ≡ row → ⊥) → IsBandMerge keeps (y + 1) row_a' a' row_b' b' band.edges rest → IsBandMerge keeps from row_a a row_b b row (band ∷ rest)
band_turn keeps from y row_a a row_b b row row_a' a' row_b' b' band rest low high p q row_is good_row here changes merged = record {
  bands = (omega arith, omega arith, changes, good_row, subst (λ (k : ℕ). IsBands 1000000 (k + 1) band.edges rest) (sym here) merged.bands);
  reads = λ x k. ⊎_elim
      (λ before. rw (lt-leb band.top k (omega arith), p.before k before, q.before k before) (row_is.reads x))
      (λ after. rw (le-leb band.top k (omega arith), p.after k after, q.after k after) (merged.reads x k))
      (cases_lt k y);
}

-- where it doesn't, the rest is the whole
pub band_stay : (keeps : Bool → Bool → Bool) (from y : ℕ) (row_a : List ℕ) (a : List Band) (row_b : List ℕ) (b : List Band) (row row_a' : List ℕ) (a' : List Band) (row_b' : List ℕ) (b' : List Band) (rest : List Band) → from ≤ y → PassesTop y row_a a row_a' a' → PassesTop y row_b b row_b' b' → IsRowMerge keeps 0 false row_a false row_b false row → IsBandMerge keeps (y + 1) row_a' a' row_b' b' row rest → IsBandMerge keeps from row_a a row_b b row rest
band_stay keeps from y row_a a row_b b row row_a' a' row_b' b' rest low p q row_is merged = record {
  bands = IsBands-sooner 1000000 from (y + 1) row rest merged.bands (omega arith);
  reads = λ x k. ⊎_elim
      (λ before. rw (row_at-before 1000000 (y + 1) row rest k merged.bands (omega arith), p.before k before, q.before k before) (row_is.reads x))
      (λ after. rw (p.after k after, q.after k after) (merged.reads x k))
      (cases_lt k y);
}

-- what the pass over the bands keeps: whatever the rest merges to, put after what is there
pub record IsBandMerging (keeps : Bool → Bool → Bool) (first_a first_b : List Band) (row_a : List ℕ) (a : List Band) (row_b : List ℕ) (b : List Band) (merged : List Band) : Type 0 where
  pub from : ℕ
  pub a_left : IsLeft from row_a a
  pub b_left : IsLeft from row_b b
  pub row_is : IsRowMerge keeps 0 false row_a false row_b false (last_edges merged)
  pub so_far : (rest : List Band) → IsBandMerge keeps from row_a a row_b b (last_edges merged) rest → IsBandMerge keeps 0 [] first_a [] first_b [] (merged ++ rest)

pub IsBandMerging-turn : (keeps : Bool → Bool → Bool) (first_a first_b : List Band) (row_a : List ℕ) (a : List Band) (row_b : List ℕ) (b : List Band) (merged : List Band) (y : ℕ) (row_a' : List ℕ) (a' : List Band) (row_b' : List ℕ) (b' : List Band) (band : Band) → IsBandMerging keeps first_a first_b row_a a row_b b merged → IsNextTop y a b → PassesTop y row_a a row_a' a' → PassesTop y row_b b row_b' b' → band.top ≡ y → IsRowMerge keeps 0 false row_a' false row_b' false band.edges → (band.edges ≡ last_edges merged → ⊥) → IsBandMerging keeps first_a first_b row_a' a' row_b' b' (merged ++ band ∷ [])
IsBandMerging-turn keeps first_a first_b row_a a row_b b merged y row_a' a' row_b' b' band was next p q here edges changes =
    let range : (was.from ≤ y) × (y ≤ 1000000) = IsNextTop-range 1000000 was.from y row_a a row_b b was.a_left.bands was.b_left.bands next in
    let last : last_edges (merged ++ band ∷ []) ≡ band.edges = last_edges-push merged band in
    record {
      from = y + 1;
      a_left = p.left;
      b_left = q.left;
      row_is = subst (λ (row : List ℕ). IsRowMerge keeps 0 false row_a' false row_b' false row) (sym last) edges;
      so_far = λ rest merges. rw append_assoc (was.so_far (band ∷ rest)
          (band_turn keeps was.from y row_a a row_b b (last_edges merged) row_a' a' row_b' b' band rest range.0 range.1 p q was.row_is edges.row here changes
          (subst (λ (row : List ℕ). IsBandMerge keeps (y + 1) row_a' a' row_b' b' row rest) last merges)));
    }

pub IsBandMerging-stay : (keeps : Bool → Bool → Bool) (first_a first_b : List Band) (row_a : List ℕ) (a : List Band) (row_b : List ℕ) (b : List Band) (merged : List Band) (y : ℕ) (row_a' : List ℕ) (a' : List Band) (row_b' : List ℕ) (b' : List Band) (edges : List ℕ) → IsBandMerging keeps first_a first_b row_a a row_b b merged → IsNextTop y a b → PassesTop y row_a a row_a' a' → PassesTop y row_b b row_b' b' → IsRowMerge keeps 0 false row_a' false row_b' false edges → edges ≡ last_edges merged → IsBandMerging keeps first_a first_b row_a' a' row_b' b' merged
IsBandMerging-stay keeps first_a first_b row_a a row_b b merged y row_a' a' row_b' b' edges was next p q edges_are stays =
    let range : (was.from ≤ y) × (y ≤ 1000000) = IsNextTop-range 1000000 was.from y row_a a row_b b was.a_left.bands was.b_left.bands next in
    record {
      from = y + 1;
      a_left = p.left;
      b_left = q.left;
      row_is = subst (λ (row : List ℕ). IsRowMerge keeps 0 false row_a' false row_b' false row) stays edges_are;
      so_far = λ rest merges. was.so_far rest
          (band_stay keeps was.from y row_a a row_b b (last_edges merged) row_a' a' row_b' b' rest range.0 p q was.row_is merges);
    }

-- at the next row at which a band of either begins
pub IsBandMerging-pushed : (keeps : Bool → Bool → Bool) (first_a first_b : List Band) (row_a : List ℕ) (a : List Band) (row_b : List ℕ) (b : List Band) (merged : List Band) (y : ℕ) (row_a' : List ℕ) (a' : List Band) (row_b' : List ℕ) (b' merged' : List Band) → IsBandMerging keeps first_a first_b row_a a row_b b merged → IsNextTop y a b → PassesTop y row_a a row_a' a' → PassesTop y row_b b row_b' b' → PushesRow keeps y row_a' row_b' merged merged' → IsBandMerging keeps first_a first_b row_a' a' row_b' b' merged'
IsBandMerging-pushed keeps first_a first_b row_a a row_b b merged y row_a' a' row_b' b' merged' was next p q pushes =
    elim pushes.pushed [
      | inl same ↦
          subst (λ (bands : List Band). IsBandMerging keeps first_a first_b row_a' a' row_b' b' bands) (sym same.1)
          (IsBandMerging-stay keeps first_a first_b row_a a row_b b merged y row_a' a' row_b' b' pushes.row was next p q pushes.merge same.0)
      | inr new ↦
          subst (λ (bands : List Band). IsBandMerging keeps first_a first_b row_a' a' row_b' b' bands) (sym new.1)
          (IsBandMerging-turn keeps first_a first_b row_a a row_b b merged y row_a' a' row_b' b' (record { top = y; edges = pushes.row }) was next p q refl pushes.merge new.0)
    ]

-- before the first band
pub IsBandMerging-begin : (keeps : Bool → Bool → Bool) (a b : List Band) → keeps false false ≡ false → IsBands 1000000 0 [] a → IsBands 1000000 0 [] b → IsBandMerging keeps a b [] a [] b []
IsBandMerging-begin keeps a b none p q = record {
  from = 0;
  a_left = record { row = refl; bands = p };
  b_left = record { row = refl; bands = q };
  row_is = record { row = refl; reads = λ x. sym none };
  so_far = λ rest merges. merges;
}

-- where only the first set has bands left, all or none of them are kept
left_rest : (keeps : Bool → Bool → Bool) (t : Bool) (from : ℕ) (row_a : List ℕ) (a : List Band) (last : List ℕ) → keeps false false ≡ false → keeps true false ≡ t → IsLeft from row_a a → IsRowMerge keeps 0 false row_a false [] false last → IsBandMerge keeps from row_a a [] [] last (kept_bands t a)
left_rest keeps true from row_a a last none all left merge =
    let same : last ≡ row_a = row_unique 1000000 0 false last row_a merge.row left.row (λ x. merge.reads x ∙ as_it_is (is_inside false row_a x)) in
    record {
      bands = subst (λ (row : List ℕ). IsBands 1000000 from row a) (sym same) left.bands;
      reads = λ x y. ap (λ (row : List ℕ). is_inside false (row_at row a y) x) same ∙ sym (as_it_is (is_inside false (row_at row_a a y) x));
    }
  where
    as_it_is : (p : Bool) → keeps p false ≡ p
    as_it_is true = all
    as_it_is false = none
left_rest keeps false from row_a a last none all left merge =
    let empty : last ≡ [] = row_unique 1000000 0 false last [] merge.row refl (λ x. merge.reads x ∙ outside (is_inside false row_a x)) in
    record {
      bands = empty;
      reads = λ x y. merge.reads x ∙ outside (is_inside false row_a x) ∙ sym (outside (is_inside false (row_at row_a a y) x));
    }
  where
    outside : (p : Bool) → keeps p false ≡ false
    outside true = all
    outside false = none

right_rest : (keeps : Bool → Bool → Bool) (t : Bool) (from : ℕ) (row_b : List ℕ) (b : List Band) (last : List ℕ) → keeps false false ≡ false → keeps false true ≡ t → IsLeft from row_b b → IsRowMerge keeps 0 false [] false row_b false last → IsBandMerge keeps from [] [] row_b b last (kept_bands t b)
right_rest keeps t from row_b b last none all left merge =
    let turned = left_rest (λ p q. keeps q p) t from row_b b last none all left (record { row = merge.row; reads = λ x. merge.reads x }) in
    record { bands = turned.bands; reads = λ x y. turned.reads x y }

kept_none : (t : Bool) → kept_bands t [] ≡ []
kept_none true = refl
kept_none false = refl

-- what is left where one set has no bands any more
bands_rest : (keeps : Bool → Bool → Bool) (from : ℕ) (row_a : List ℕ) (a : List Band) (row_b : List ℕ) (b : List Band) (last : List ℕ) → keeps false false ≡ false → (a ≡ []) ⊎ (b ≡ []) → IsLeft from row_a a → IsLeft from row_b b → IsRowMerge keeps 0 false row_a false row_b false last → IsBandMerge keeps from row_a a row_b b last (kept_bands (keeps true false) a ++ kept_bands (keeps false true) b)
bands_rest keeps from row_a a row_b b last none (inl ended) left_a left_b merge =
    let empty : row_a ≡ [] = subst (λ (bands : List Band). IsBands 1000000 from row_a bands) ended left_a.bands in
    rw (ended, empty, kept_none (keeps true false))
    (right_rest keeps (keeps false true) from row_b b last none refl left_b (subst (λ (row : List ℕ). IsRowMerge keeps 0 false row false row_b false last) empty merge))
bands_rest keeps from row_a a row_b b last none (inr ended) left_a left_b merge =
    let empty : row_b ≡ [] = subst (λ (bands : List Band). IsBands 1000000 from row_b bands) ended left_b.bands in
    rw (ended, empty, kept_none (keeps false true), append-nil (kept_bands (keeps true false) a))
    (left_rest keeps (keeps true false) from row_a a last none refl left_a (subst (λ (row : List ℕ). IsRowMerge keeps 0 false row_a false row false last) empty merge))

pub IsBandMerging-end : (keeps : Bool → Bool → Bool) (first_a first_b : List Band) (row_a : List ℕ) (a : List Band) (row_b : List ℕ) (b : List Band) (t t' : Bool) (merged merged' merged'' : List Band) → keeps false false ≡ false → t ≡ keeps true false → t' ≡ keeps false true → (a ≡ []) ⊎ (b ≡ []) → merged' ≡ merged ++ kept_bands t a → merged'' ≡ merged' ++ kept_bands t' b → IsBandMerging keeps first_a first_b row_a a row_b b merged → IsBandMerge keeps 0 [] first_a [] first_b [] merged''
IsBandMerging-end keeps first_a first_b row_a a row_b b t t' merged merged' merged'' none t_is t'_is ended first second was =
    let ka : List Band = kept_bands (keeps true false) a in
    let kb : List Band = kept_bands (keeps false true) b in
    let whole : merged'' ≡ merged ++ (ka ++ kb) = second ∙ ap₂ (λ (l : List Band) (u : Bool). l ++ kept_bands u b) (first ∙ ap (λ (u : Bool). merged ++ kept_bands u a) t_is) t'_is ∙ append_assoc merged ka kb in
    subst (λ (bands : List Band). IsBandMerge keeps 0 [] first_a [] first_b [] bands) (sym whole)
    (was.so_far (ka ++ kb) (bands_rest keeps was.from row_a a row_b b (last_edges merged) none ended was.a_left was.b_left was.row_is))

pub keeps-none : (how : Combine) → keeps how false false ≡ false
keeps-none Union = refl
keeps-none Difference = refl
keeps-none Intersection = refl
