-- The banded list of a set is the one that is found by looking at each pixel.
use Rattle.std.proofs.Common.{◌≡◌, ℕ, zero, suc, ◌+◌, ◌≤◌, Bool, true, false, not, List, [], ◌∷◌, refl, sym, ap, ◌∙◌, arith, subst, ⊎_elim}
use Rattle.std.specs.Prelude.{ℤ, pos, negsuc}
use Rattle.std.specs.Str.{bytes_eq}
use mathlib.Core.Bool.{beq}
use Rattle.std.proofs.lemmas.Bool.{le-leb, cases_Bool, cases_order}
use Rattle.std.proofs.lemmas.Slice.Eq.{bytes_eq-Decides}
use Rattle.std.proofs.lemmas.Bool.Decides.{not_from_Decides}
use Rattle.ev_geom.specs.Area.{Area}
use Rattle.ev_geom.specs.Bands.{has_pixel, is_inside, IsRow, Band, row_at, IsBands, rects_of, IsBanded, IsBandsOf}
use Rattle.ev_geom.specs.Scan.{scanned_edges, scanned_bands, scanned_rects, IsWithin}
use Rattle.ev_geom.proofs.Rows.{is_inside-before, IsRow-sooner}
use Rattle.ev_geom.proofs.Banding.{row_at-before, IsBands-sooner}
use Rattle.ev_geom.proofs.Listing.{banded_same, has_pixel-rects_of, banded_right, banded_below}

IsRow-later : (limit limit' from : ℕ) (inside : Bool) (edges : List ℕ) → limit ≤ limit' → IsRow limit from inside edges → IsRow limit' from inside edges
IsRow-later limit limit' from inside [] more row = row
IsRow-later limit limit' from inside (edge ∷ edges) more row = (row.0, omega (arith, row.1), IsRow-later limit limit' (edge + 1) (not inside) edges more row.2)

IsBands-later : (limit limit' from : ℕ) (above : List ℕ) (bands : List Band) → limit ≤ limit' → IsBands limit from above bands → IsBands limit' from above bands
IsBands-later limit limit' from above [] more good = good
IsBands-later limit limit' from above (band ∷ bands) more good =
    (good.0, omega (arith, good.1), good.2, IsRow-later limit limit' 0 false band.edges more good.3, IsBands-later limit limit' (band.top + 1) band.edges bands more good.4)

sides_agree : (a b : Bool) → beq a b ≡ true → a ≡ b
sides_agree true true test = refl
sides_agree true false test = cc
sides_agree false true test = cc
sides_agree false false test = refl

sides_differ : (a b : Bool) → beq a b ≡ false → a ≡ not b
sides_differ true true test = cc
sides_differ true false test = refl
sides_differ false true test = refl
sides_differ false false test = cc

-- a place is the first one or comes after it
split_from : {A : Type 0} (x k : ℕ) → x ≤ k → (k ≡ x → A) → (x + 1 ≤ k → A) → A
split_from x k from here later = ⊎_elim here (λ other. ⊎_elim (λ low. absurd (omega arith)) (λ high. later (omega arith)) other) (cases_order k x)

-- the edges are those of a row with these pixels
record IsScanned (limit : ℕ) (row : ℕ → Bool) (x : ℕ) (inside : Bool) (edges : List ℕ) : Type 0 where
  good : IsRow limit x inside edges
  reads : (k : ℕ) → x ≤ k → is_inside inside edges k ≡ row k

stays : (limit : ℕ) (row : ℕ → Bool) (x : ℕ) (inside : Bool) (edges : List ℕ) → row x ≡ inside → IsScanned limit row (x + 1) inside edges → IsScanned limit row x inside edges
stays limit row x inside edges same rest = record {
  good = IsRow-sooner limit x (x + 1) inside edges rest.good (omega arith);
  reads = λ k from. split_from x k from
      (λ here. is_inside-before limit (x + 1) inside edges k rest.good (omega arith) ∙ sym same ∙ ap row (sym here))
      (λ later. rest.reads k later);
}

turns : (limit : ℕ) (row : ℕ → Bool) (x : ℕ) (inside : Bool) (edges : List ℕ) → x ≤ limit → row x ≡ not inside → IsScanned limit row (x + 1) (row x) edges → IsScanned limit row x inside (x ∷ edges)
turns limit row x inside edges low turn rest = record {
  good = (omega arith, low, subst (λ (side : Bool). IsRow limit (x + 1) side edges) turn rest.good);
  reads = λ k from. rw (le-leb x k from, ← turn) (split_from x k from
      (λ here. is_inside-before limit (x + 1) (row x) edges k rest.good (omega arith) ∙ ap row (sym here))
      (λ later. rest.reads k later));
}

scanned : (limit : ℕ) (row : ℕ → Bool) (x count : ℕ) (inside : Bool) → x + count ≡ limit → ((k : ℕ) → limit ≤ k → row k ≡ false) → IsScanned limit row x inside (scanned_edges row x count inside)
unfolding scanned_edges
scanned limit row x zero true all out = record {
  good = (omega arith, omega arith, refl);
  reads = λ k from. rw (le-leb x k from) (sym (out k (omega arith)));
}
scanned limit row x zero false all out = record {
  good = refl;
  reads = λ k from. sym (out k (omega arith));
}
scanned limit row x (suc count) inside all out =
    let more : (side : Bool) → IsScanned limit row (x + 1) side (scanned_edges row (x + 1) count side) =
    λ side. scanned limit row (x + 1) count side (omega arith) out in
    ⊎_elim
    (λ same. rw same (stays limit row x inside (scanned_edges row (x + 1) count inside) (sides_agree (row x) inside same) (more inside)))
    (λ differs. rw differs (turns limit row x inside (scanned_edges row (x + 1) count (row x)) (omega arith) (sides_differ (row x) inside differs) (more (row x))))
    (cases_Bool (beq (row x) inside))

-- the bands are those of these rows
record AreScanned (limit : ℕ) (rows : ℕ → List ℕ) (y : ℕ) (above : List ℕ) (bands : List Band) : Type 0 where
  good : IsBands limit y above bands
  reads : (k : ℕ) → y ≤ k → row_at above bands k ≡ rows k

stay : (limit : ℕ) (rows : ℕ → List ℕ) (y : ℕ) (above : List ℕ) (bands : List Band) → rows y ≡ above → AreScanned limit rows (y + 1) above bands → AreScanned limit rows y above bands
stay limit rows y above bands same rest = record {
  good = IsBands-sooner limit y (y + 1) above bands rest.good (omega arith);
  reads = λ k from. split_from y k from
      (λ here. row_at-before limit (y + 1) above bands k rest.good (omega arith) ∙ sym same ∙ ap rows (sym here))
      (λ later. rest.reads k later);
}

turn : (limit : ℕ) (rows : ℕ → List ℕ) (y : ℕ) (above : List ℕ) (bands : List Band) → y ≤ limit → (rows y ≡ above → ⊥) → IsRow limit 0 false (rows y) → AreScanned limit rows (y + 1) (rows y) bands → AreScanned limit rows y above (record { top = y; edges = rows y } ∷ bands)
turn limit rows y above bands low differs row rest = record {
  good = (omega arith, low, differs, row, rest.good);
  reads = λ k from. rw (le-leb y k from) (split_from y k from
      (λ here. row_at-before limit (y + 1) (rows y) bands k rest.good (omega arith) ∙ ap rows (sym here))
      (λ later. rest.reads k later));
}

same_edges : (a b : List ℕ) → bytes_eq a b ≡ true → a ≡ b
same_edges a b test = (bytes_eq-Decides a b).0 test

other_edges : (a b : List ℕ) → bytes_eq a b ≡ false → a ≡ b → ⊥
other_edges a b test = not_from_Decides (bytes_eq a b) (bytes_eq-Decides a b) test

all_scanned : (limit : ℕ) (rows : ℕ → List ℕ) (y count : ℕ) (above : List ℕ) → y + count ≡ limit → ((k : ℕ) → IsRow limit 0 false (rows k)) → ((k : ℕ) → limit ≤ k → rows k ≡ []) → AreScanned limit rows y above (scanned_bands rows y count above)
unfolding scanned_bands
all_scanned limit rows y zero above all good out = ⊎_elim
    (λ same. rw same (record {
      good = sym (same_edges [] above same);
      reads = λ k from. sym (same_edges [] above same) ∙ sym (out k (omega arith));
    }))
    (λ differs. rw differs (record {
      good = (omega arith, omega arith, other_edges [] above differs, refl, refl);
      reads = λ k from. rw (le-leb y k from) (sym (out k (omega arith)));
    }))
    (cases_Bool (bytes_eq [] above))
all_scanned limit rows y (suc count) above all good out =
    let more : (edges : List ℕ) → AreScanned limit rows (y + 1) edges (scanned_bands rows (y + 1) count edges) =
    λ edges. all_scanned limit rows (y + 1) count edges (omega arith) good out in
    ⊎_elim
    (λ same. rw same (stay limit rows y above (scanned_bands rows (y + 1) count above) (same_edges (rows y) above same) (more above)))
    (λ differs. rw differs (turn limit rows y above (scanned_bands rows (y + 1) count (rows y)) (omega arith) (other_edges (rows y) above differs) (good y) (more (rows y))))
    (cases_Bool (bytes_eq (rows y) above))

-- a row with no pixels has no edges
scanned-none : (row : ℕ → Bool) (x count : ℕ) → ((k : ℕ) → row k ≡ false) → scanned_edges row x count false ≡ []
unfolding scanned_edges
scanned-none row x zero none = refl
scanned-none row x (suc count) none = rw (none x) (scanned-none row (x + 1) count none)

-- the list that is found by looking at each pixel is the banded list of the set
pub scanned_rects-is : (size : ℕ) (set : ℤ → ℤ → Bool) (rects : List Area) → size ≤ 1000000 → IsWithin size set → IsBandsOf set rects → rects ≡ scanned_rects size set
unfolding scanned_rects
scanned_rects-is size set rects small within is =
    let row : (y : ℕ) → ℕ → Bool = λ y x. set (pos x) (pos y) in
    let rows : ℕ → List ℕ = λ y. scanned_edges (row y) 0 size false in
    let bands : List Band = scanned_bands rows 0 size [] in
    let each : (y : ℕ) → IsScanned size (row y) 0 false (rows y) = λ y. scanned size (row y) 0 size false (omega arith) (λ k far. within.right k y far) in
    let all : AreScanned size rows 0 [] bands =
    all_scanned size rows 0 size [] (omega arith) (λ y. (each y).good) (λ y far. scanned-none (row y) 0 size (λ k. within.below k y far)) in
    let good : IsBands 1000000 0 [] bands = IsBands-later size 1000000 0 [] bands small all.good in
    let banded : IsBanded (rects_of bands) = record { bands = bands; canonical = good; listed = refl } in
    let pixels : (x y : ℕ) → has_pixel (rects_of bands) (pos x) (pos y) ≡ set (pos x) (pos y) =
    λ x y. has_pixel-rects_of 1000000 0 [] bands x y good ∙ ap (λ (edges : List ℕ). is_inside false edges x) (all.reads y (omega arith)) ∙ (each y).reads x (omega arith) in
    banded_same rects (rects_of bands) is.banded banded (λ x y. same_at rects (rects_of bands) set is banded pixels x y)
  where
    same_at : (a b : List Area) (set : ℤ → ℤ → Bool) → IsBandsOf set a → IsBanded b → ((x y : ℕ) → has_pixel b (pos x) (pos y) ≡ set (pos x) (pos y)) → (x y : ℤ) → has_pixel a x y ≡ has_pixel b x y
    same_at a b set is banded pixels (negsuc x) y = banded_right a x y is.banded ∙ sym (banded_right b x y banded)
    same_at a b set is banded pixels (pos x) (negsuc y) = banded_below a (pos x) y is.banded ∙ sym (banded_below b (pos x) y banded)
    same_at a b set is banded pixels (pos x) (pos y) = is.pixels (pos x) (pos y) ∙ sym (pixels x y)
