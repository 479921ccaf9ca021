-- One step of the pass over the edges of two rows.
use Rattle.std.proofs.Common.{◌≡◌, ℕ, ◌+◌, ◌%◌, eqb, ◌≤◌, ◌<◌, Bool, true, false, not, List, [], ◌∷◌, ◌++◌, refl, sym, ◌∙◌, arith, subst, ⊎_elim, ◌⊎◌, inl, inr, zero, suc, append_assoc, append-nil, ap, length, take, length-append}
use Rattle.std.proofs.Math.Seq.{take-append_seam}
use Rattle.std.proofs.lemmas.Bool.{le-leb, lt-leb, cases_lt, cases_eq, eq-eqb, ne_eqb}
use Rattle.std.proofs.lemmas.Bool.Decides.{nat_tests}
use mathlib.Core.Bool.{beq}
use Rattle.ev_geom.specs.Bands.{IsRow, is_inside}
use Rattle.ev_geom.proofs.Rows.{is_inside-before, IsRow-sooner}
use Rattle.ev_region.specs.RowMerge.{begins_inside, StartsFrom, edges_at, IsNext, Passes, IsRowMerge, AddsRowMerge, IsKept, kept_edges}

-- a row with no edge before x
pub IsRow-from : (limit from x : ℕ) (inside : Bool) (edges : List ℕ) → IsRow limit from inside edges → StartsFrom x edges → IsRow limit x inside edges
IsRow-from limit from x inside [] row starts = row
IsRow-from limit from x inside (edge ∷ edges) row starts = (starts, row.1, row.2)

-- the next edge is an edge of one of the rows
edge_range : (limit from x : ℕ) (inside : Bool) (edges : List ℕ) → IsRow limit from inside edges → 0 < edges_at x edges → (from ≤ x) × (x ≤ limit)
edge_range limit from x inside [] row stands = absurd (omega arith)
edge_range limit from x inside (edge ∷ edges) row stands =
    ⊎_elim
    (λ here. (omega (arith, row.0), omega (arith, row.1)))
    (λ other. absurd (let none : edges_at x (edge ∷ edges) ≡ 0 = rw (ne_eqb edge x other) refl in omega arith))
    (cases_eq edge x)

pub IsNext-range : (limit from x : ℕ) (in_a : Bool) (a : List ℕ) (in_b : Bool) (b : List ℕ) → IsRow limit from in_a a → IsRow limit from in_b b → IsNext x a b → (from ≤ x) × (x ≤ limit)
IsNext-range limit from x in_a a in_b b p q next =
    ⊎_elim
    (λ none. edge_range limit from x in_b b q (omega (arith, next.stands)))
    (λ some. edge_range limit from x in_a a p some)
    (cases_zero (edges_at x a))
  where
    cases_zero : (n : ℕ) → (n ≡ 0) ⊎ (0 < n)
    cases_zero zero = inl refl
    cases_zero (suc n) = inr (omega arith)

-- at a column with no edge nothing changes
pub Passes-none : (x : ℕ) (inside : Bool) (edges : List ℕ) → IsRow 1000000 x inside edges → edges_at x edges ≡ 0 → Passes x inside edges inside edges
Passes-none x inside [] row none = record { row = row; before = λ k low. refl; after = λ k high. refl; count = refl }
Passes-none x inside (edge ∷ edges) row none =
    let later : x + 1 ≤ edge = grind (arith, nat_tests, row.0, none) in
    record {
      row = (later, row.1, row.2);
      before = λ k low. is_inside-before 1000000 x inside (edge ∷ edges) k row low;
      after = λ k high. refl;
      count = omega (arith, none);
    }

-- at its first edge the row turns
pub Passes-first : (x : ℕ) (inside : Bool) (edges : List ℕ) → IsRow 1000000 x inside (x ∷ edges) → Passes x inside (x ∷ edges) (not inside) edges
Passes-first x inside edges row = record {
  row = row.2;
  before = λ k low. is_inside-before 1000000 x inside (x ∷ edges) k row low;
  after = λ k high. rw (le-leb x k high) refl;
  count = rw (eq-eqb x x refl) (omega arith);
}

-- a row that ends outside has an odd number of edges where it begins inside
pub row_begins : (limit from : ℕ) (inside : Bool) (edges : List ℕ) → IsRow limit from inside edges → begins_inside edges ≡ inside
row_begins limit from inside [] row = sym row
row_begins limit from inside (edge ∷ edges) row =
    one_more (length edges) ∙ ap not (row_begins limit (edge + 1) (not inside) edges row.2) ∙ twice inside
  where
    one_more : (n : ℕ) → eqb (suc n % 2) 1 ≡ not (eqb (n % 2) 1)
    one_more zero = refl
    one_more (suc zero) = refl
    one_more (suc (suc n)) =
        let here : suc (suc n) % 2 ≡ n % 2 = omega arith in
        let next : suc (suc (suc n)) % 2 ≡ suc n % 2 = omega arith in
        rw (here, next) (one_more n)

    twice : (b : Bool) → not (not b) ≡ b
    twice true = refl
    twice false = refl

pub Passes-turn : (x : ℕ) (edges : List ℕ) → IsRow 1000000 x (begins_inside (x ∷ edges)) (x ∷ edges) → Passes x (begins_inside (x ∷ edges)) (x ∷ edges) (begins_inside edges) edges
Passes-turn x edges row =
    subst (λ (side : Bool). Passes x (begins_inside (x ∷ edges)) (x ∷ edges) side edges) (sym (row_begins 1000000 (x + 1) (not (begins_inside (x ∷ edges))) edges row.2))
    (Passes-first x (begins_inside (x ∷ edges)) edges row)

-- what the test of two sides says
pub sides_differ : (a b : Bool) → not (beq a b) ≡ true → a ≡ not b
sides_differ true true test = cc
sides_differ true false test = refl
sides_differ false true test = refl
sides_differ false false test = cc

pub sides_agree : (a b : Bool) → not (beq a b) ≡ false → a ≡ b
sides_agree true true test = refl
sides_agree true false test = cc
sides_agree false true test = cc
sides_agree false false test = refl

-- where the merged row turns at x, the whole has x in front
pub merge_turn : (keeps : Bool → Bool → Bool) (from x : ℕ) (in_a : Bool) (a : List ℕ) (in_b : Bool) (b : List ℕ) (inside : Bool) (in_a' : Bool) (a' : List ℕ) (in_b' : Bool) (b' : List ℕ) (kept : Bool) (rest : List ℕ) → from ≤ x → x ≤ 1000000 → Passes x in_a a in_a' a' → Passes x in_b b in_b' b' → inside ≡ keeps in_a in_b → kept ≡ not inside → IsRowMerge keeps (x + 1) in_a' a' in_b' b' kept rest → IsRowMerge keeps from in_a a in_b b inside (x ∷ rest)
merge_turn keeps from x in_a a in_b b inside in_a' a' in_b' b' kept rest low high p q inside_is turned merged = record {
  row = (low, high, subst (λ (side : Bool). IsRow 1000000 (x + 1) side rest) turned merged.row);
  reads = λ k. ⊎_elim
      (λ before. rw (lt-leb x k before, p.before k before, q.before k before) inside_is)
      (λ after. rw (le-leb x k after, p.after k after, q.after k after, ← turned) (merged.reads k))
      (cases_lt k x);
}

-- where the merged row doesn't turn at x, the rest is the whole
pub merge_stay : (keeps : Bool → Bool → Bool) (from x : ℕ) (in_a : Bool) (a : List ℕ) (in_b : Bool) (b : List ℕ) (inside : Bool) (in_a' : Bool) (a' : List ℕ) (in_b' : Bool) (b' : List ℕ) (kept : Bool) (rest : List ℕ) → from ≤ x → Passes x in_a a in_a' a' → Passes x in_b b in_b' b' → inside ≡ keeps in_a in_b → kept ≡ inside → IsRowMerge keeps (x + 1) in_a' a' in_b' b' kept rest → IsRowMerge keeps from in_a a in_b b inside rest
merge_stay keeps from x in_a a in_b b inside in_a' a' in_b' b' kept rest low p q inside_is stays merged =
    let row : IsRow 1000000 (x + 1) inside rest = subst (λ (side : Bool). IsRow 1000000 (x + 1) side rest) stays merged.row in
    record {
      row = IsRow-sooner 1000000 from (x + 1) inside rest row (omega arith);
      reads = λ k. ⊎_elim
          (λ before. is_inside-before 1000000 (x + 1) inside rest k row (omega arith) ∙ rw (p.before k before, q.before k before) inside_is)
          (λ after. rw (p.after k after, q.after k after, ← stays) (merged.reads k))
          (cases_lt k x);
    }

-- what the pass over the edges keeps: whatever the rest merges to, put after what is there
pub record IsMerging (keeps : Bool → Bool → Bool) (first_a first_b : List ℕ) (in_a : Bool) (a : List ℕ) (in_b : Bool) (b : List ℕ) (inside : Bool) (merged : List ℕ) : Type 0 where
  pub from : ℕ
  pub a_row : IsRow 1000000 from in_a a
  pub b_row : IsRow 1000000 from in_b b
  pub inside_is : inside ≡ keeps in_a in_b
  pub so_far : (rest : List ℕ) → IsRowMerge keeps from in_a a in_b b inside rest → IsRowMerge keeps 0 false first_a false first_b false (merged ++ rest)

pub IsMerging-turn : (keeps : Bool → Bool → Bool) (first_a first_b : List ℕ) (in_a : Bool) (a : List ℕ) (in_b : Bool) (b : List ℕ) (inside : Bool) (merged : List ℕ) (x : ℕ) (in_a' : Bool) (a' : List ℕ) (in_b' : Bool) (b' : List ℕ) (kept : Bool) → IsMerging keeps first_a first_b in_a a in_b b inside merged → IsNext x a b → Passes x in_a a in_a' a' → Passes x in_b b in_b' b' → kept ≡ keeps in_a' in_b' → kept ≡ not inside → IsMerging keeps first_a first_b in_a' a' in_b' b' kept (merged ++ x ∷ [])
IsMerging-turn keeps first_a first_b in_a a in_b b inside merged x in_a' a' in_b' b' kept was next p q kept_is turned =
    let range : (was.from ≤ x) × (x ≤ 1000000) = IsNext-range 1000000 was.from x in_a a in_b b was.a_row was.b_row next in
    record {
      from = x + 1;
      a_row = p.row;
      b_row = q.row;
      inside_is = kept_is;
      so_far = λ rest merges. rw append_assoc (was.so_far (x ∷ rest)
          (merge_turn keeps was.from x in_a a in_b b inside in_a' a' in_b' b' kept rest range.0 range.1 p q was.inside_is turned merges));
    }

pub IsMerging-stay : (keeps : Bool → Bool → Bool) (first_a first_b : List ℕ) (in_a : Bool) (a : List ℕ) (in_b : Bool) (b : List ℕ) (inside : Bool) (merged : List ℕ) (x : ℕ) (in_a' : Bool) (a' : List ℕ) (in_b' : Bool) (b' : List ℕ) (kept : Bool) → IsMerging keeps first_a first_b in_a a in_b b inside merged → IsNext x a b → Passes x in_a a in_a' a' → Passes x in_b b in_b' b' → kept ≡ keeps in_a' in_b' → kept ≡ inside → IsMerging keeps first_a first_b in_a' a' in_b' b' inside merged
IsMerging-stay keeps first_a first_b in_a a in_b b inside merged x in_a' a' in_b' b' kept was next p q kept_is stays =
    let range : (was.from ≤ x) × (x ≤ 1000000) = IsNext-range 1000000 was.from x in_a a in_b b was.a_row was.b_row next in
    record {
      from = x + 1;
      a_row = p.row;
      b_row = q.row;
      inside_is = sym stays ∙ kept_is;
      so_far = λ rest merges. was.so_far rest
          (merge_stay keeps was.from x in_a a in_b b inside in_a' a' in_b' b' kept rest range.0 p q was.inside_is stays
          (subst (λ (side : Bool). IsRowMerge keeps (x + 1) in_a' a' in_b' b' side rest) (sym stays) merges));
    }

-- where only the first row has edges left, all or none of them are kept
left_rest : (keeps : Bool → Bool → Bool) (t : Bool) (from : ℕ) (in_a : Bool) (a : List ℕ) (inside : Bool) → keeps false false ≡ false → keeps true false ≡ t → IsRow 1000000 from in_a a → inside ≡ keeps in_a false → IsRowMerge keeps from in_a a false [] inside (kept_edges t a)
left_rest keeps true from in_a a inside none all row inside_is =
    let same : inside ≡ in_a = inside_is ∙ as_it_is in_a in
    record {
      row = subst (λ (side : Bool). IsRow 1000000 from side a) (sym same) row;
      reads = λ x. ap (λ side. is_inside side a x) same ∙ sym (as_it_is (is_inside in_a a x));
    }
  where
    as_it_is : (p : Bool) → keeps p false ≡ p
    as_it_is true = all
    as_it_is false = none
left_rest keeps false from in_a a inside none all row inside_is =
    record { row = inside_is ∙ outside in_a; reads = λ x. inside_is ∙ outside in_a ∙ sym (outside (is_inside in_a a x)) }
  where
    outside : (p : Bool) → keeps p false ≡ false
    outside true = all
    outside false = none

right_rest : (keeps : Bool → Bool → Bool) (t : Bool) (from : ℕ) (in_b : Bool) (b : List ℕ) (inside : Bool) → keeps false false ≡ false → keeps false true ≡ t → IsRow 1000000 from in_b b → inside ≡ keeps false in_b → IsRowMerge keeps from false [] in_b b inside (kept_edges t b)
right_rest keeps t from in_b b inside none all row inside_is =
    let turned = left_rest (λ p q. keeps q p) t from in_b b inside none all row inside_is in
    record { row = turned.row; reads = λ x. turned.reads x }

kept_none : (t : Bool) → kept_edges t [] ≡ []
kept_none true = refl
kept_none false = refl

-- what is left where one row has ended
row_rest : (keeps : Bool → Bool → Bool) (from : ℕ) (in_a : Bool) (a : List ℕ) (in_b : Bool) (b : List ℕ) (inside : Bool) → keeps false false ≡ false → (a ≡ []) ⊎ (b ≡ []) → IsRow 1000000 from in_a a → IsRow 1000000 from in_b b → inside ≡ keeps in_a in_b → IsRowMerge keeps from in_a a in_b b inside (kept_edges (keeps true false) a ++ kept_edges (keeps false true) b)
row_rest keeps from in_a a in_b b inside none (inl ended) row_a row_b inside_is =
    let outside : in_a ≡ false = subst (λ (edges : List ℕ). IsRow 1000000 from in_a edges) ended row_a in
    let side : inside ≡ keeps false in_b = inside_is ∙ ap (λ p. keeps p in_b) outside in
    rw (ended, outside, kept_none (keeps true false)) (right_rest keeps (keeps false true) from in_b b inside none refl row_b side)
row_rest keeps from in_a a in_b b inside none (inr ended) row_a row_b inside_is =
    let outside : in_b ≡ false = subst (λ (edges : List ℕ). IsRow 1000000 from in_b edges) ended row_b in
    let side : inside ≡ keeps in_a false = inside_is ∙ ap (keeps in_a) outside in
    rw (ended, outside, kept_none (keeps false true), append-nil (kept_edges (keeps true false) a)) (left_rest keeps (keeps true false) from in_a a inside none refl row_a side)

-- the same pass, where the edges are added to a list
pub record IsAdding (keeps : Bool → Bool → Bool) (old : List ℕ) (first_a first_b : List ℕ) (in_a : Bool) (a : List ℕ) (in_b : Bool) (b : List ℕ) (inside : Bool) (list : List ℕ) : Type 0 where
  pub row : List ℕ
  pub added : list ≡ old ++ row
  pub merging : IsMerging keeps first_a first_b in_a a in_b b inside row

pub IsAdding-begin : (keeps : Bool → Bool → Bool) (old a b : List ℕ) → keeps false false ≡ false → IsRow 1000000 0 false a → IsRow 1000000 0 false b → IsAdding keeps old a b false a false b false old
IsAdding-begin keeps old a b none p q = record {
  row = [];
  added = sym (append-nil old);
  merging = record { from = 0; a_row = p; b_row = q; inside_is = sym none; so_far = λ rest merges. merges };
}

pub IsAdding-rows : (keeps : Bool → Bool → Bool) (old a b : List ℕ) → keeps false false ≡ false → IsRow 1000000 0 false a → IsRow 1000000 0 false b → IsAdding keeps old a b (begins_inside a) a (begins_inside b) b false old
IsAdding-rows keeps old a b none p q =
    rw (row_begins 1000000 0 false a p, row_begins 1000000 0 false b q) (IsAdding-begin keeps old a b none p q)

pub IsAdding-turn : (keeps : Bool → Bool → Bool) (old first_a first_b : List ℕ) (in_a : Bool) (a : List ℕ) (in_b : Bool) (b : List ℕ) (inside : Bool) (list : List ℕ) (x : ℕ) (in_a' : Bool) (a' : List ℕ) (in_b' : Bool) (b' : List ℕ) (kept : Bool) → IsAdding keeps old first_a first_b in_a a in_b b inside list → IsNext x a b → Passes x in_a a in_a' a' → Passes x in_b b in_b' b' → kept ≡ keeps in_a' in_b' → kept ≡ not inside → IsAdding keeps old first_a first_b in_a' a' in_b' b' kept (list ++ x ∷ [])
IsAdding-turn keeps old first_a first_b in_a a in_b b inside list x in_a' a' in_b' b' kept was next p q kept_is turned = record {
  row = was.row ++ x ∷ [];
  added = ap (λ (edges : List ℕ). edges ++ x ∷ []) was.added ∙ append_assoc old was.row (x ∷ []);
  merging = IsMerging-turn keeps first_a first_b in_a a in_b b inside was.row x in_a' a' in_b' b' kept was.merging next p q kept_is turned;
}

pub IsAdding-stay : (keeps : Bool → Bool → Bool) (old first_a first_b : List ℕ) (in_a : Bool) (a : List ℕ) (in_b : Bool) (b : List ℕ) (inside : Bool) (list : List ℕ) (x : ℕ) (in_a' : Bool) (a' : List ℕ) (in_b' : Bool) (b' : List ℕ) (kept : Bool) → IsAdding keeps old first_a first_b in_a a in_b b inside list → IsNext x a b → Passes x in_a a in_a' a' → Passes x in_b b in_b' b' → kept ≡ keeps in_a' in_b' → kept ≡ inside → IsAdding keeps old first_a first_b in_a' a' in_b' b' inside list
IsAdding-stay keeps old first_a first_b in_a a in_b b inside list x in_a' a' in_b' b' kept was next p q kept_is stays = record {
  row = was.row;
  added = was.added;
  merging = IsMerging-stay keeps first_a first_b in_a a in_b b inside was.row x in_a' a' in_b' b' kept was.merging next p q kept_is stays;
}

pub IsAdding-end : (keeps : Bool → Bool → Bool) (old first_a first_b : List ℕ) (in_a : Bool) (a : List ℕ) (in_b : Bool) (b : List ℕ) (inside : Bool) (list list' list'' : List ℕ) → keeps false false ≡ false → (a ≡ []) ⊎ (b ≡ []) → list' ≡ list ++ kept_edges (keeps true false) a → list'' ≡ list' ++ kept_edges (keeps false true) b → IsAdding keeps old first_a first_b in_a a in_b b inside list → AddsRowMerge keeps first_a first_b old list''
IsAdding-end keeps old first_a first_b in_a a in_b b inside list list' list'' none ended first second was =
    let ka : List ℕ = kept_edges (keeps true false) a in
    let kb : List ℕ = kept_edges (keeps false true) b in
    record {
      row = was.row ++ (ka ++ kb);
      merge = was.merging.so_far (ka ++ kb) (row_rest keeps was.merging.from in_a a in_b b inside none ended was.merging.a_row was.merging.b_row was.merging.inside_is);
      added = second ∙ ap (λ (l : List ℕ). l ++ kb) first ∙ append_assoc list ka kb ∙ ap (λ (l : List ℕ). l ++ (ka ++ kb)) was.added ∙ append_assoc old was.row (ka ++ kb);
    }

-- a list to which something was added has its beginning still
kept_of : (old row list : List ℕ) → list ≡ old ++ row → IsKept old list
kept_of old row list added = record {
  front = ap (take (length old)) added ∙ take-append_seam old row;
  longer = omega (arith, ap length added, length-append old row);
}

pub IsAdding-kept : (keeps : Bool → Bool → Bool) (old first_a first_b : List ℕ) (in_a : Bool) (a : List ℕ) (in_b : Bool) (b : List ℕ) (inside : Bool) (list list' : List ℕ) → list' ≡ list → IsAdding keeps old first_a first_b in_a a in_b b inside list → IsKept old list'
IsAdding-kept keeps old first_a first_b in_a a in_b b inside list list' same was = kept_of old was.row list' (same ∙ was.added)

pub IsAdding-longer : (keeps : Bool → Bool → Bool) (old first_a first_b : List ℕ) (in_a : Bool) (a : List ℕ) (in_b : Bool) (b : List ℕ) (inside : Bool) (list more list' list'' : List ℕ) → list' ≡ list ++ more → list'' ≡ list' → IsAdding keeps old first_a first_b in_a a in_b b inside list → IsKept old list''
IsAdding-longer keeps old first_a first_b in_a a in_b b inside list more list' list'' added same was =
    kept_of old (was.row ++ more) list'' (same ∙ added ∙ ap (λ (l : List ℕ). l ++ more) was.added ∙ append_assoc old was.row more)

pub IsAdding-both : (keeps : Bool → Bool → Bool) (old first_a first_b : List ℕ) (list'' : List ℕ) → AddsRowMerge keeps first_a first_b old list'' → IsKept old list''
IsAdding-both keeps old first_a first_b list'' adds = kept_of old adds.row list'' adds.added
