-- Looks that stand in opposite order are those whose places have turned.
use Rattle.std.proofs.Common.{◌≡◌, ◌≢◌, ℕ, zero, suc, ◌<◌, ⊎_elim, inl, inr, ℤ, Bool, true, false, ◌&&◌, ◌||◌, ◌==◌, nat_lt, is_some, List, [], ◌∷◌, map, filter_map, length, get_or, All, AllPairs, Option, Some, None, option_map, refl, sym, ap, ap₂, ◌∙◌, arith}
use Rattle.std.proofs.lemmas.Bool.{eqb-true, eq-eqb, ne_eqb, lt-ltb, le-ltb, cases_lt}
use Rattle.std.proofs.lemmas.List.Folds.{list_any_at}
use Rattle.std.specs.List.{list_any, cons_option}
use Rattle.ev_geom.specs.Area.{Area, holds}
use Rattle.ev_geom.specs.Bands.{has_pixel, IsBandsOf, FitsRegion}
use Rattle.ev_model.specs.Look.{Look, look_of}
use Rattle.ev_model.specs.declared.scene.Record.{Record}
use Rattle.ev_damage.specs.Same.{same_look}
use Rattle.ev_damage.specs.Damage.{is_kept, in_unkept, in_order, is_crossed, in_crossed, is_damaged}
use Rattle.ev_damage.specs.Places.{HaveOwnIds, place_of, placed, in_turned, Adds}
use Rattle.ev_damage.specs.declared.turned.Placed.{Placed}
use Rattle.ev_damage.proofs.Members.{In, Distinct, distinct_of, both, any_In, In_map}
use Rattle.ev_damage.proofs.Staying.{id_of}
use Rattle.ev_damage.proofs.Placing.{first_is, some_is}

In_get : (ms : List Look) (k : ℕ) (d : Look) → k < length ms → In (get_or ms k d) ms
In_get [] k d l = absurd (omega (arith, l))
In_get (m ∷ ms) zero d l = inl refl
In_get (m ∷ ms) (suc k) d l = inr (In_get ms k d (omega (arith, l)))

absent : (k : ℕ) (ms : List Look) → (In k (map id_of ms) → ⊥) → list_any (λ m. m.id == k) ms ≡ false
absent k ms new = go (list_any (λ m. m.id == k) ms) refl where
  go : (b : Bool) → list_any (λ m. m.id == k) ms ≡ b → list_any (λ m. m.id == k) ms ≡ false
  go true e = let r = any_In (λ m. m.id == k) ms e in
      let m : In (id_of r.0) (map id_of ms) = In_map id_of r.0 ms r.1 in
      absurd (new (rw (eqb-true r.0.id k r.2) at m))
  go false e = e

and_false : (a b : Bool) → b ≡ false → (a && b) ≡ false
and_false true b e = e
and_false false b e = refl

no_order : (j k : ℕ) (ms : List Look) → (In k (map id_of ms) → ⊥) → in_order j k ms ≡ false
no_order j k [] new = refl
no_order j k (m ∷ ms) new = ap₂ ◌||◌ (and_false (m.id == j) (list_any (λ m. m.id == k) ms) (absent k ms (λ i. new (inr i)))) (no_order j k ms (λ i. new (inr i)))

or_right : (a b : Bool) → a ≡ false → (a || b) ≡ b
or_right a b e = rw e refl

-- the order of two ids is that of their places
order_places : (ms : List Look) (i j : ℕ) (d : Look) → Distinct (map id_of ms) → i < length ms → j < length ms → in_order (id_of (get_or ms j d)) (id_of (get_or ms i d)) ms ≡ nat_lt j i
order_places [] i j d p l k = absurd (omega (arith, l))
order_places (m ∷ ms) zero j d p l k =
    ap₂ ◌||◌ (and_false (m.id == id_of (get_or (m ∷ ms) j d)) (list_any (λ n. n.id == m.id) ms) (absent m.id ms p.0)) (no_order (id_of (get_or (m ∷ ms) j d)) m.id ms p.0)
    ∙ sym (le-ltb j 0 (omega arith))
order_places (m ∷ ms) (suc i) zero d p l k =
    ap (λ t. t || in_order m.id (id_of (get_or ms i d)) ms) (ap₂ ◌&&◌ (eq-eqb m.id m.id refl) (list_any_at (λ n. n.id == id_of (get_or ms i d)) ms i d (omega (arith, l)) (eq-eqb (id_of (get_or ms i d)) (id_of (get_or ms i d)) refl)))
    ∙ sym (lt-ltb 0 (suc i) (omega arith))
order_places (m ∷ ms) (suc i) (suc j) d p l k =
    let there : In (id_of (get_or ms j d)) (map id_of ms) = In_map id_of (get_or ms j d) ms (In_get ms j d (omega (arith, k))) in
    let apart : m.id ≢ id_of (get_or ms j d) = λ e. p.0 (rw e there) in
    or_right (m.id == id_of (get_or ms j d) && list_any (λ n. n.id == id_of (get_or ms i d)) ms) (in_order (id_of (get_or ms j d)) (id_of (get_or ms i d)) ms) (ap (λ t. t && list_any (λ n. n.id == id_of (get_or ms i d)) ms) (ne_eqb m.id (id_of (get_or ms j d)) apart))
    ∙ order_places ms i j d p.1 (omega (arith, l)) (omega (arith, k))
    ∙ ⊎_elim (λ lt. lt-ltb j i lt ∙ sym (lt-ltb (suc j) (suc i) (omega (arith, lt)))) (λ ge. le-ltb j i ge ∙ sym (le-ltb (suc j) (suc i) (omega (arith, ge)))) (cases_lt j i)

-- what stands at a place
pub record IsAt (others : List Look) (l : Look) (at : ℕ) : Type 0 where
  pub within : at < length others
  pub id : (d : Look) → id_of (get_or others at d) ≡ id_of l

at_place : (others : List Look) (l : Look) (at : ℕ) → place_of others l ≡ Some at → IsAt others l at
at_place others l at h =
    let f = first_is (λ m. m.id == l.id && same_look l m) 0 others at h in
    let e : f.k ≡ at = omega (arith, f.place) in
    record {
      within = omega (arith, f.within, e);
      id = λ d. ap (λ k. id_of (get_or others k d)) (sym e) ∙ eqb-true (get_or others f.k d).id l.id ((both ((get_or others f.k d).id == l.id) (same_look l (get_or others f.k d)) (f.passes d)).0);
    }

kept_at : (others : List Look) (l : Look) (o : Option ℕ) → place_of others l ≡ o → is_kept others l ≡ is_some o
kept_at others l o e = sym (some_is (λ m. m.id == l.id && same_look l m) 0 others) ∙ ap is_some e

order_at : (others : List Look) (l m : Look) (i j : ℕ) → HaveOwnIds others → place_of others l ≡ Some i → place_of others m ≡ Some j → is_crossed others l m ≡ nat_lt j i
order_at others l m i j own h g =
    let a = at_place others l i h in
    let b = at_place others m j g in
    ap₂ ◌&&◌ (ap₂ ◌&&◌ (kept_at others l (Some i) h) (kept_at others m (Some j) g)) (ap₂ (λ p q. in_order p q others) (sym (b.id l)) (sym (a.id l)) ∙ order_places others i j l (distinct_of (map id_of others) own.differ) a.within b.within)

-- one look against those after it
crossed_row_step : (others : List Look) (l m : Look) (i : ℕ) (x y : ℤ) (o : Option ℕ) (rest : Bool) (ps : List Placed) → HaveOwnIds others → place_of others l ≡ Some i → place_of others m ≡ o
    → rest ≡ list_any (λ q. nat_lt q.at i && (holds l.area x y && holds q.area x y)) ps
    → ((is_crossed others l m && (holds l.area x y && holds m.area x y)) || rest) ≡ list_any (λ q. nat_lt q.at i && (holds l.area x y && holds q.area x y)) (cons_option (option_map (λ at. record { at = at; area = m.area }) o) ps)
crossed_row_step others l m i x y None rest ps own h g e =
    let off : is_crossed others l m ≡ false = ap (λ t. t && in_order m.id l.id others) (and_false (is_kept others l) (is_kept others m) (kept_at others m None g)) in
    ap₂ ◌||◌ (ap (λ t. t && (holds l.area x y && holds m.area x y)) off) e
crossed_row_step others l m i x y (Some j) rest ps own h g e = ap₂ ◌||◌ (ap (λ t. t && (holds l.area x y && holds m.area x y)) (order_at others l m i j own h g)) e

crossed_row : (others : List Look) (l : Look) (i : ℕ) (ls : List Look) (x y : ℤ) → HaveOwnIds others → place_of others l ≡ Some i
    → list_any (λ m. is_crossed others l m && (holds l.area x y && holds m.area x y)) ls ≡ list_any (λ q. nat_lt q.at i && (holds l.area x y && holds q.area x y)) (filter_map (placed others) ls)
crossed_row others l i [] x y own h = refl
crossed_row others l i (m ∷ ls) x y own h = crossed_row_step others l m i x y (place_of others m) (list_any (λ m. is_crossed others l m && (holds l.area x y && holds m.area x y)) ls) (filter_map (placed others) ls) own h refl (crossed_row others l i ls x y own h)

no_row : (others : List Look) (l : Look) (ls : List Look) (x y : ℤ) → place_of others l ≡ None → list_any (λ m. is_crossed others l m && (holds l.area x y && holds m.area x y)) ls ≡ false
no_row others l [] x y h = refl
no_row others l (m ∷ ls) x y h = ap₂ ◌||◌ (ap (λ t. t && is_kept others m && in_order m.id l.id others && (holds l.area x y && holds m.area x y)) (kept_at others l None h)) (no_row others l ls x y h)

turned_step : (others : List Look) (l : Look) (ls : List Look) (x y : ℤ) (o : Option ℕ) → HaveOwnIds others → place_of others l ≡ o → in_crossed others ls x y ≡ in_turned (filter_map (placed others) ls) x y
    → in_crossed others (l ∷ ls) x y ≡ in_turned (cons_option (option_map (λ at. record { at = at; area = l.area }) o) (filter_map (placed others) ls)) x y
turned_step others l ls x y None own h rest = ap₂ ◌||◌ (no_row others l ls x y h) rest
turned_step others l ls x y (Some i) own h rest = ap₂ ◌||◌ (crossed_row others l i ls x y own h) rest

pub crossed_is_turned : (others ls : List Look) (x y : ℤ) → HaveOwnIds others → in_crossed others ls x y ≡ in_turned (filter_map (placed others) ls) x y
crossed_is_turned others [] x y own = refl
crossed_is_turned others (l ∷ ls) x y own = turned_step others l ls x y (place_of others l) own refl (crossed_is_turned others ls x y own)

-- the places differ
from_placed_step : (others : List Look) (l : Look) (ls : List Look) (p : ℕ) (o : Option ℕ) → place_of others l ≡ o → (In p (map (λ p. p.at) (filter_map (placed others) ls)) → (m : Look) × In m ls × (place_of others m ≡ Some p))
    → In p (map (λ p. p.at) (cons_option (option_map (λ at. record { at = at; area = l.area }) o) (filter_map (placed others) ls))) → (m : Look) × In m (l ∷ ls) × (place_of others m ≡ Some p)
from_placed_step others l ls p None e rest i = let r = rest i in (r.0, inr r.1, r.2)
from_placed_step others l ls p (Some j) e rest (inl s) = (l, inl refl, e ∙ ap Some (sym s))
from_placed_step others l ls p (Some j) e rest (inr i) = let r = rest i in (r.0, inr r.1, r.2)

from_placed : (others ls : List Look) (p : ℕ) → In p (map (λ p. p.at) (filter_map (placed others) ls)) → (m : Look) × In m ls × (place_of others m ≡ Some p)
from_placed others [] p i = absurd i
from_placed others (l ∷ ls) p i = from_placed_step others l ls p (place_of others l) refl (from_placed others ls p) i

distinct_places_step : (others : List Look) (l : Look) (ls : List Look) (o : Option ℕ) → place_of others l ≡ o → (In (id_of l) (map id_of ls) → ⊥) → Distinct (map (λ p. p.at) (filter_map (placed others) ls)) → Distinct (map (λ p. p.at) (cons_option (option_map (λ at. record { at = at; area = l.area }) o) (filter_map (placed others) ls)))
distinct_places_step others l ls None e new rest = rest
distinct_places_step others l ls (Some j) e new rest = (
  λ i. (
      let r = from_placed others ls j i in
      let a = at_place others l j e in
      let b = at_place others r.0 j r.2 in
      let same : id_of l ≡ id_of r.0 = sym (a.id l) ∙ b.id l in
      let m : In (id_of r.0) (map id_of ls) = In_map id_of r.0 ls r.1 in
      new (rw same m)),
  rest,
)

distinct_places : (others ls : List Look) → Distinct (map id_of ls) → Distinct (map (λ p. p.at) (filter_map (placed others) ls))
distinct_places others [] h = tt
distinct_places others (l ∷ ls) h = distinct_places_step others l ls (place_of others l) refl h.0 (distinct_places others ls h.1)

pub In_number : (ks : List ℕ) (k : ℕ) (d : ℕ) → k < length ks → In (get_or ks k d) ks
In_number [] k d l = absurd (omega (arith, l))
In_number (j ∷ ks) zero d l = inl refl
In_number (j ∷ ks) (suc k) d l = inr (In_number ks k d (omega (arith, l)))

of_distinct : (ks : List ℕ) → Distinct ks → AllPairs (λ a b. a ≢ b) ks
of_distinct [] h i j d lt l = absurd (omega (arith, l))
of_distinct (k ∷ ks) h zero zero d lt l = absurd (omega (arith, lt))
of_distinct (k ∷ ks) h zero (suc j) d lt l = λ e. (let m : In (get_or ks j d) ks = In_number ks j d (omega (arith, l)) in h.0 (rw e m))
of_distinct (k ∷ ks) h (suc i) zero d lt l = absurd (omega (arith, lt))
of_distinct (k ∷ ks) h (suc i) (suc j) d lt l = of_distinct ks h.1 i j d (omega (arith, lt)) (omega (arith, l))

pub places_differ : (others ls : List Look) → HaveOwnIds ls → AllPairs (λ i j. i ≢ j) (map (λ p. p.at) (filter_map (placed others) ls))
places_differ others ls own = of_distinct (map (λ p. p.at) (filter_map (placed others) ls)) (distinct_places others ls (distinct_of (map id_of ls) own.differ))

-- and their areas fit
fits_step : (others : List Look) (l : Look) (ps : List Placed) (o : Option ℕ) → FitsRegion l.area → All (λ p. FitsRegion p.area) ps → All (λ p. FitsRegion p.area) (cons_option (option_map (λ at. record { at = at; area = l.area }) o) ps)
fits_step others l ps None h rest k d i = rest k d i
fits_step others l ps (Some j) h rest zero d k = h
fits_step others l ps (Some j) h rest (suc n) d k = rest n d (omega (arith, k))

pub places_fit : (others : List Look) (rs : List Record) → All (λ r. FitsRegion r.area) rs → All (λ p. FitsRegion p.area) (filter_map (placed others) (map look_of rs))
places_fit others [] h k d l = absurd (omega (arith, l))
places_fit others (r ∷ rs) h k d l = fits_step others (look_of r) (filter_map (placed others) (map look_of rs)) (place_of others (look_of r)) (h 0 r (omega arith)) (places_fit others rs (λ k d l. h (suc k) d (omega (arith, l)))) k d l

-- all damage
pub all_damage : (old new : List Look) (r1 r2 both r3 : List Area) → HaveOwnIds new → IsBandsOf (in_unkept new old) r1 → IsBandsOf (in_unkept old new) r2 → IsBandsOf (λ x y. has_pixel r1 x y || has_pixel r2 x y) both
    → Adds (in_turned (filter_map (placed new) old)) both r3 → IsBandsOf (is_damaged old new) r3
all_damage old new r1 r2 both r3 own a b u c = record {
  pixels = λ x y. c.pixels x y ∙ ap₂ ◌||◌ (u.pixels x y ∙ ap₂ ◌||◌ (a.pixels x y) (b.pixels x y)) (sym (crossed_is_turned new old x y own));
  banded = c.banded u.banded;
}
