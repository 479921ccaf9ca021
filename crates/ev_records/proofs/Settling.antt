-- What is kept of the start before is forgotten.
use Rattle.std.proofs.Common.{◌≡◌, ◌≢◌, ℕ, zero, suc, ◌<◌, ◌≤◌, ◌+◌, ⊎_elim, inr, List, [], ◌∷◌, map, get_or, set, length, Option, Some, None, refl, sym, ap, ap₂, ◌∙◌, arith, subst, get_or-set_other, get_or-set_same}
use Rattle.std.proofs.lemmas.Grind.{common_steps}
use Rattle.std.proofs.Math.Seq.{map-set_same}
use Rattle.ev_model.specs.Look.{Look}
use Rattle.ev_records.specs.Showing.{Showing, showing, settled, Shows, HavePlaces}
use Rattle.ev_records.specs.Cells.{look_in, former_at, shown, AreTied, AreCells, settled_cell, AreSettled}
use Rattle.ev_records.specs.declared.cell.Cell.{Cell}
use Rattle.ev_records.specs.declared.cell.Former.{Former}
use Rattle.ev_records.proofs.Changing.{same_or, less_or, no_mark}

-- of the formers, those before this one are forgotten
pub record IsSettling (formers : List Former) (cells initial : List Cell) (i : ℕ) : Type 0 where
  pub same : map (λ c. c.present) cells ≡ map (λ c. c.present) initial
  pub long : length cells ≡ length initial
  pub rest : (place k : ℕ) (d : Cell) → place < length cells → (get_or cells place d).mark ≡ Some k → (i ≤ k) × (k < length formers) × ((former_at formers k).place ≡ place)

pub settling_none : (formers : List Former) (cells : List Cell) → AreTied formers cells → IsSettling formers cells cells 0
settling_none formers cells tied = record { same = refl; long = refl; rest = λ place k d l e. let r = tied.kept place k d l e in (omega arith, r.0, r.1) }

pub settling_more : (formers : List Former) (cells initial : List Cell) (i : ℕ) (f : Former) (c new : Cell) → IsSettling formers cells initial i → f.place ≡ (former_at formers i).place → f.place < length cells → c ≡ get_or cells f.place c → new ≡ settled_cell c
    → IsSettling formers (set cells f.place new) initial (i + 1)
settling_more formers cells initial i f c new so_far s low is e =
    let n : length (set cells f.place new) ≡ length cells = grind (arith, common_steps) in
    record {
      same = map-set_same (λ c. c.present) cells f.place new c (ap (λ c. c.present) (e ∙ ap settled_cell is)) ∙ so_far.same;
      long = n ∙ so_far.long;
      rest = λ place k d l m. ⊎_elim
          (λ q. absurd (none_some (ap (λ c. c.mark) (get_or-set_same cells f.place new d low ∙ e)) (sym (ap (λ j. (get_or (set cells f.place new) j d).mark) q) ∙ m)))
          (λ ne.
          let r = so_far.rest place k d (omega (arith, n, l)) (sym (ap (λ c. c.mark) (get_or-set_other cells f.place place new d ne)) ∙ m) in
          let a = r.0 in
          let other : i ≢ k = λ q. ne (sym r.2 ∙ ap (λ j. (former_at formers j).place) (sym q) ∙ sym s) in
          (above i k a other, r.1, r.2))
          (same_or place f.place);
    }
  where
    none_some : {o : Option ℕ} {k : ℕ} → o ≡ None → o ≡ Some k → ⊥
    none_some {o} {k} a b = cc

    above : (i k : ℕ) → i ≤ k → i ≢ k → i + 1 ≤ k
    above i k l ne = ⊎_elim (λ m. omega (arith, m)) (λ m. absurd (ne (omega (arith, l, m)))) (less_or i k)

pub all_settled : (formers : List Former) (cells initial : List Cell) (i : ℕ) → IsSettling formers cells initial i → length formers ≤ i → AreSettled initial cells
all_settled formers cells initial i so_far past = record {
  same = so_far.same;
  none = λ place d l. go place d l (get_or cells place d).mark refl;
} where
  go : (place : ℕ) (d : Cell) → place < length cells → (o : Option ℕ) → (get_or cells place d).mark ≡ o → (get_or cells place d).mark ≡ None
  go place d l None e = e
  go place d l (Some k) e = let r = so_far.rest place k d l e in let a = r.0 in let b = r.1 in absurd (omega (arith, past, a, b))

-- what is shown now counts as shown at the start before
pub shown_settled : (formers : List Former) (old new : List Cell) → map (λ c. c.present) new ≡ map (λ c. c.present) old → ((place : ℕ) (d : Cell) → place < length new → (get_or new place d).mark ≡ None) → shown [] new ≡ map settled (shown formers old)
shown_settled formers [] [] e h = refl
shown_settled formers [] (n ∷ ns) e h = cc
shown_settled formers (o ∷ os) [] e h = cc
shown_settled formers (o ∷ os) (n ∷ ns) e h =
    let a : n.present ≡ o.present = cc in
    let b : map (λ c. c.present) ns ≡ map (λ c. c.present) os = cc in
    ap₂ ◌∷◌ (no_mark [] n (h 0 n (omega arith)) ∙ ap (λ p. record { was = look_in p; now = look_in p }) a) (shown_settled formers os ns b (λ place d l. h (suc place) d (omega (arith, l))))

pub settled_at : (all : List Showing) (i : ℕ) → showing (map settled all) i ≡ settled (showing all i)
settled_at [] i = refl
settled_at (s ∷ all) zero = refl
settled_at (s ∷ all) (suc i) = settled_at all i

places_settled : (all : List Showing) → HavePlaces all → HavePlaces (map settled all)
places_settled all have = record {
  one = λ i j l m s t e. have.one i j l m (here i l s) (here j m t) e;
  inside = λ i l s. have.inside i l (here i l s);
} where
  here : (i : ℕ) (l : Look) → Shows (showing (map settled all) i) l → Shows (showing all i) l
  here i l s = ⊎_elim (λ e. inr (sym (ap (λ s. s.was) (settled_at all i)) ∙ e)) (λ e. inr (sym (ap (λ s. s.now) (settled_at all i)) ∙ e)) s

pub settled_cells : (formers : List Former) (old new : List Cell) → AreCells formers old → AreSettled old new → AreCells [] new
settled_cells formers old new are done =
    let P : List Showing → Type 0 = HavePlaces in
    record {
      places = subst P (sym (shown_settled formers old new done.same done.none)) (places_settled (shown formers old) are.places);
      tied = record {
        kept = λ place k d l e. absurd (none_some (done.none place d l) e);
        marked = λ k d l. absurd (omega (arith, l));
      };
    }
  where
    none_some : {o : Option ℕ} {k : ℕ} → o ≡ None → o ≡ Some k → ⊥
    none_some {o} {k} a b = cc
