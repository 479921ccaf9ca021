-- Looks that stand in opposite orders are those of places whose numbers have turned.
use Rattle.std.proofs.Common.{◌≡◌, ◌≢◌, ℕ, zero, suc, ◌<◌, ◌⊎◌, ⊎_elim, inl, inr, ℤ, Bool, true, false, ◌&&◌, ◌||◌, ◌==◌, nat_lt, List, [], ◌∷◌, filter_map, get_or, length, AllPairs, Option, Some, None, if◌then◌else◌, refl, sym, ap, ap₂, ◌∙◌, arith, true≢false, subst}
use Rattle.std.proofs.lemmas.Bool.{eqb-true, eq-eqb, lt-ltb, le-ltb, cases_lt}
use Rattle.std.specs.List.{list_any, cons_option}
use Rattle.ev_geom.specs.Area.{Area, holds}
use Rattle.ev_geom.specs.Bands.{has_pixel, IsBandsOf}
use Rattle.ev_model.specs.Look.{Look}
use Rattle.ev_damage.specs.Same.{same_look}
use Rattle.ev_damage.specs.Marked.{is_marked}
use Rattle.ev_damage.specs.Damage.{is_kept, in_unkept, in_order, is_crossed, in_crossed, is_damaged}
use Rattle.ev_damage.proofs.Members.{In, Ordered, both, either, or_left, or_right, any_In, In_any}
use Rattle.ev_records.specs.Showing.{Showing, showing, looks_now, looks_before, HavePlaces, Have}
use Rattle.ev_records.specs.Changes.{is_same, changes}
use Rattle.ev_records.specs.Standing.{Standings, rank, Rises, Stays}
use Rattle.ev_records.specs.Turned.{is_turned, still_area, still, held_in, in_pair, any_below, in_turned, Gathers}
use Rattle.ev_records.proofs.Lining.{agree_was_now, agree_now_was, same_in, kept_told, ordered_looks, order_looks, Keeps, gone, gone_both, unkept_told, any_or, any_same, any_moved, iff_same, changes_told, changes_at, changed_touched}

place_in : (k : ℕ) (ks : List ℕ) → In k ks → (i : ℕ) × (i < length ks) × (get_or ks i 0 ≡ k)
place_in k [] m = absurd m
place_in k (j ∷ ks) (inl s) = (0, omega arith, sym s)
place_in k (j ∷ ks) (inr m) = let r = place_in k ks m in (suc r.0, omega (arith, r.1), r.2)

-- two in this order have numbers in this order
ordered_rise : (ranks order : List ℕ) (i j : ℕ) → AllPairs (λ i j. rank ranks i < rank ranks j) order → Ordered i j order → rank ranks i < rank ranks j
ordered_rise ranks [] i j h o = absurd o
ordered_rise ranks (k ∷ ks) i j h (inl e) =
    let r = place_in j ks e.1 in
    let t : rank ranks k < rank ranks (get_or ks r.0 0) = h 0 (suc r.0) 0 (omega arith) (omega (arith, r.1)) in
    let a : rank ranks i ≡ rank ranks k = ap (rank ranks) e.0 in
    let b : rank ranks (get_or ks r.0 0) ≡ rank ranks j = ap (rank ranks) r.2 in
    omega (arith, t, a, b)
ordered_rise ranks (k ∷ ks) i j h (inr o) = ordered_rise ranks ks i j (λ i j d lt within. h (suc i) (suc j) d (omega (arith, lt)) (omega (arith, within))) o

total : (a b : ℕ) (order : List ℕ) → In a order → In b order → a ≢ b → Ordered a b order ⊎ Ordered b a order
total a b [] i j ne = absurd i
total a b (k ∷ ks) (inl e) (inl f) ne = absurd (ne (e ∙ sym f))
total a b (k ∷ ks) (inl e) (inr j) ne = inl (inl (e, j))
total a b (k ∷ ks) (inr i) (inl f) ne = inr (inl (f, i))
total a b (k ∷ ks) (inr i) (inr j) ne = ⊎_elim (λ o. inl (inr o)) (λ o. inr (inr o)) (total a b ks i j ne)

by_rank : (ranks order : List ℕ) (a b : ℕ) → Rises ranks order → In a order → In b order → rank ranks a < rank ranks b → Ordered a b order
by_rank ranks order a b h i j lt =
    let ne : a ≢ b = λ e. (let s : rank ranks a ≡ rank ranks b = ap (rank ranks) e in omega (arith, s, lt)) in
    ⊎_elim (λ o. o) (λ o. absurd (let r : rank ranks b < rank ranks a = ordered_rise ranks order b a h.rising o in omega (arith, r, lt))) (total a b order i j ne)

-- a pair that is crossed
crossed_pair : (others ls : List Look) (x y : ℤ) → in_crossed others ls x y ≡ true → (l : Look) × (m : Look) × Ordered l m ls × (is_crossed others l m ≡ true) × (holds l.area x y ≡ true) × (holds m.area x y ≡ true)
crossed_pair others [] x y e = absurd (true≢false (sym e))
crossed_pair others (l ∷ ls) x y e = ⊎_elim
    (λ t.
    let r = any_In (λ m. is_crossed others l m && (holds l.area x y && holds m.area x y)) ls t in
    let s = both (is_crossed others l r.0) (holds l.area x y && holds r.0.area x y) r.2 in
    let u = both (holds l.area x y) (holds r.0.area x y) s.1 in
    (l, r.0, inl (refl, r.1), s.0, u.0, u.1))
    (λ t. let r = crossed_pair others ls x y t in (r.0, r.1, inr r.2, r.3, r.4, r.5))
    (either (list_any (λ m. is_crossed others l m && (holds l.area x y && holds m.area x y)) ls) (in_crossed others ls x y) e)

pair_here : (others : List Look) (l m : Look) (ls : List Look) (x y : ℤ) → In m ls → is_crossed others l m ≡ true → holds l.area x y ≡ true → holds m.area x y ≡ true
    → list_any (λ m. is_crossed others l m && (holds l.area x y && holds m.area x y)) ls ≡ true
pair_here others l m ls x y i c h k = In_any (λ m. is_crossed others l m && (holds l.area x y && holds m.area x y)) m ls i (ap₂ ◌&&◌ c (ap₂ ◌&&◌ h k))

pair_crossed : (others : List Look) (l m : Look) (ls : List Look) (x y : ℤ) → Ordered l m ls → is_crossed others l m ≡ true → holds l.area x y ≡ true → holds m.area x y ≡ true → in_crossed others ls x y ≡ true
pair_crossed others l m [] x y o c h k = absurd o
pair_crossed others l m (n ∷ ls) x y (inl e) c h k =
    or_left (list_any (λ m. is_crossed others n m && (holds n.area x y && holds m.area x y)) ls) (in_crossed others ls x y)
    (let P : Look → Type 0 = λ n. list_any (λ m. is_crossed others n m && (holds n.area x y && holds m.area x y)) ls ≡ true in subst P e.0 (pair_here others l m ls x y e.1 c h k))
pair_crossed others l m (n ∷ ls) x y (inr o) c h k =
    or_right (list_any (λ m. is_crossed others n m && (holds n.area x y && holds m.area x y)) ls) (in_crossed others ls x y) (pair_crossed others l m ls x y o c h k)

-- looks of ids that stand in this order
In_onto : (l : Look) (o : Option Look) (rest : List Look) → o ≡ Some l → In l (cons_option o rest)
In_onto l None rest e = cc
In_onto l (Some n) rest e = inl cc

In_under : (l : Look) (o : Option Look) (rest : List Look) → In l rest → In l (cons_option o rest)
In_under l None rest i = i
In_under l (Some n) rest i = inr i

look_into : (f : ℕ → Option Look) (l : Look) (i : ℕ) (order : List ℕ) → In i order → f i ≡ Some l → In l (filter_map f order)
look_into f l i [] h e = absurd h
look_into f l i (k ∷ ks) (inl s) e = In_onto l (f k) (filter_map f ks) (ap f (sym s) ∙ e)
look_into f l i (k ∷ ks) (inr h) e = In_under l (f k) (filter_map f ks) (look_into f l i ks h e)

Ordered_onto : (l m : Look) (o : Option Look) (rest : List Look) → o ≡ Some l → In m rest → Ordered l m (cons_option o rest)
Ordered_onto l m None rest e i = cc
Ordered_onto l m (Some n) rest e i = inl (cc, i)

Ordered_under : (l m : Look) (o : Option Look) (rest : List Look) → Ordered l m rest → Ordered l m (cons_option o rest)
Ordered_under l m None rest o = o
Ordered_under l m (Some n) rest o = inr o

ordered_back : (f : ℕ → Option Look) (l m : Look) (i j : ℕ) (order : List ℕ) → Ordered i j order → f i ≡ Some l → f j ≡ Some m → Ordered l m (filter_map f order)
ordered_back f l m i j [] o e h = absurd o
ordered_back f l m i j (k ∷ ks) (inl s) e h = Ordered_onto l m (f k) (filter_map f ks) (ap f (sym s.0) ∙ e) (look_into f m j ks s.1 h)
ordered_back f l m i j (k ∷ ks) (inr o) e h = Ordered_under l m (f k) (filter_map f ks) (ordered_back f l m i j ks o e h)

ordered_in : (l m : Look) (ls : List Look) → Ordered l m ls → in_order l.id m.id ls ≡ true
ordered_in l m [] o = absurd o
ordered_in l m (k ∷ ks) (inl e) =
    or_left (k.id == l.id && list_any (λ n. n.id == m.id) ks) (in_order l.id m.id ks)
    (ap₂ ◌&&◌ (eq-eqb k.id l.id (ap (λ n. n.id) (sym e.0))) (In_any (λ n. n.id == m.id) m ks e.1 (eq-eqb m.id m.id refl)))
ordered_in l m (k ∷ ks) (inr o) = or_right (k.id == l.id && list_any (λ n. n.id == m.id) ks) (in_order l.id m.id ks) (ordered_in l m ks o)

-- what lies in the area of a place that shows the same
pub still_told : (o p : Option Look) (x y : ℤ) → held_in (still_area o p) x y ≡ true → (l : Look) × (m : Look) × (o ≡ Some l) × (p ≡ Some m) × (is_same l m ≡ true) × (holds l.area x y ≡ true)
still_told None p x y e = absurd (true≢false (sym e))
still_told (Some l) None x y e = absurd (true≢false (sym e))
still_told (Some l) (Some m) x y e = go (is_same l m) refl e where
  go : (t : Bool) → is_same l m ≡ t → held_in (if t then Some l.area else None) x y ≡ true → (k : Look) × (n : Look) × (Some l ≡ Some k) × (Some m ≡ Some n) × (is_same k n ≡ true) × (holds k.area x y ≡ true)
  go true s h = (l, m, refl, refl, s, h)
  go false s h = absurd (true≢false (sym h))

still_is : (o p : Option Look) (l m : Look) (x y : ℤ) → o ≡ Some l → p ≡ Some m → is_same l m ≡ true → holds l.area x y ≡ true → held_in (still_area o p) x y ≡ true
still_is o p l m x y e f s h = ap₂ (λ a b. held_in (still_area a b) x y) e f ∙ ap (λ t. held_in (if t then Some l.area else None) x y) s ∙ h

same_told : (l : Look) (o : Option Look) → same_in l o ≡ true → (m : Look) × (o ≡ Some m) × (is_same l m ≡ true)
same_told l None e = absurd (true≢false (sym e))
same_told l (Some m) e = (m, refl, e)

pub marked_In : (ks : List ℕ) (k : ℕ) → is_marked ks k ≡ true → In k ks
marked_In ks k e = let r = any_In (λ j. j == k) ks e in let P : ℕ → Type 0 = λ i. In i ks in subst P (eqb-true r.0 k r.2) r.1

pub In_marked : (ks : List ℕ) (k : ℕ) → In k ks → is_marked ks k ≡ true
In_marked ks k i = In_any (λ j. j == k) k ks i (eq-eqb k k refl)

pub below_at : (p : ℕ → Bool) (n k : ℕ) → k < n → p k ≡ true → any_below p n ≡ true
below_at p zero k l e = absurd (omega (arith, l))
below_at p (suc n) k l e = ⊎_elim
    (λ less. or_left (any_below p n) (p n) (below_at p n k less e))
    (λ ge. let s : k ≡ n = omega (arith, ge, l) in or_right (any_below p n) (p n) (ap p (sym s) ∙ e))
    (cases_lt k n)

pub at_below : (p : ℕ → Bool) (n : ℕ) → any_below p n ≡ true → (k : ℕ) × (p k ≡ true)
at_below p zero e = absurd (true≢false (sym e))
at_below p (suc n) e = ⊎_elim (λ t. at_below p n t) (λ t. (n, t)) (either (any_below p n) (p n) e)

in_range : (all : List Showing) (place : ℕ) (l : Look) → (showing all place).was ≡ Some l → place < length all
in_range [] place l e = cc
in_range (s ∷ all) zero l e = omega arith
in_range (s ∷ all) (suc place) l e = let r : place < length all = in_range all place l e in omega (arith, r)

lt_is : (a b : ℕ) → nat_lt a b ≡ true → a < b
lt_is a b e = ⊎_elim (λ l. l) (λ ge. absurd (true≢false (sym e ∙ le-ltb a b ge))) (cases_lt a b)

-- one of two that turned was moved
one_moved : (st : Standings) (moved : List ℕ) (i j : ℕ) → Stays st moved → rank st.stood i < rank st.stood j → rank st.stands j < rank st.stands i → (is_marked moved i ≡ true) ⊎ (is_marked moved j ≡ true)
one_moved st moved i j stays a b = go (is_marked moved i) (is_marked moved j) refl refl where
  go : (s t : Bool) → is_marked moved i ≡ s → is_marked moved j ≡ t → (is_marked moved i ≡ true) ⊎ (is_marked moved j ≡ true)
  go true t e f = inl e
  go false true e f = inr f
  go false false e f = absurd (let u = stays.kept i e in let v = stays.kept j f in omega (arith, u, v, a, b))

-- whether two stand in the other order now
abbrev turns : Standings → ℕ → ℕ → Bool
turns st i j = nat_lt (rank st.stood i) (rank st.stood j) && nat_lt (rank st.stands j) (rank st.stands i)

turns_is : (st : Standings) (i j : ℕ) → rank st.stood i < rank st.stood j → rank st.stands j < rank st.stands i → turns st i j ≡ true
turns_is st i j a b = ap₂ ◌&&◌ (lt-ltb (rank st.stood i) (rank st.stood j) a) (lt-ltb (rank st.stands j) (rank st.stands i) b)

-- looks that are crossed are of places that turned
pub crossed_turned : (all : List Showing) (st : Standings) (before after moved : List ℕ) (x y : ℤ) → HavePlaces all → Rises st.stood before → Rises st.stands after → Stays st moved
    → in_crossed (looks_now all after) (looks_before all before) x y ≡ true → in_turned all st moved x y ≡ true
crossed_turned all st before after moved x y places rise rise' stays e =
    let f : ℕ → Option Look = λ place. (showing all place).was in
    let g : ℕ → Option Look = λ place. (showing all place).now in
    let agree = agree_was_now all places in
    let r = crossed_pair (looks_now all after) (looks_before all before) x y e in
    let l : Look = r.0 in
    let m : Look = r.1 in
    let c = both (is_kept (looks_now all after) l && is_kept (looks_now all after) m) (in_order m.id l.id (looks_now all after)) r.3 in
    let k = both (is_kept (looks_now all after) l) (is_kept (looks_now all after) m) c.0 in
    let o = ordered_looks f l m before r.2 in
    let i : ℕ = o.0 in
    let j : ℕ = o.1 in
    let fl : f i ≡ Some l = o.2 in
    let fm : f j ≡ Some m = o.3 in
    let p = order_looks g m.id l.id after c.1 in
    let sj : p.0 ≡ j = sym (agree.one j p.0 m p.2 fm p.4 (sym p.5)) in
    let si : p.1 ≡ i = sym (agree.one i p.1 l p.3 fl p.6 (sym p.7)) in
    let a : rank st.stood i < rank st.stood j = ordered_rise st.stood before i j rise.rising o.4 in
    let b : rank st.stands j < rank st.stands i =
    let P : ℕ → Type 0 = λ n. rank st.stands j < rank st.stands n in
    let Q : ℕ → Type 0 = λ n. rank st.stands n < rank st.stands p.1 in
    subst P si (subst Q sj (ordered_rise st.stands after p.0 p.1 rise'.rising p.8)) in
    let sl = same_told l (g i) ((both (is_marked after i) (same_in l (g i)) (sym (kept_told f g l i after agree fl) ∙ k.0)).1) in
    let sm = same_told m (g j) ((both (is_marked after j) (same_in m (g j)) (sym (kept_told f g m j after agree fm) ∙ k.1)).1) in
    let hl : held_in (still (showing all i)) x y ≡ true = still_is (f i) (g i) l sl.0 x y fl sl.1 sl.2 r.4 in
    let hm : held_in (still (showing all j)) x y ≡ true = still_is (f j) (g j) m sm.0 x y fm sm.1 sm.2 r.5 in
    ⊎_elim
    (λ t. In_any (λ a. any_below (in_pair all st x y a) (length all)) i moved (marked_In moved i t)
    (below_at (in_pair all st x y i) (length all) j (in_range all j m fm) (ap₂ ◌&&◌ (or_left (turns st i j) (turns st j i) (turns_is st i j a b)) (ap₂ ◌&&◌ hm hl))))
    (λ t. In_any (λ a. any_below (in_pair all st x y a) (length all)) j moved (marked_In moved j t)
    (below_at (in_pair all st x y j) (length all) i (in_range all i l fl) (ap₂ ◌&&◌ (or_right (turns st j i) (turns st i j) (turns_is st i j a b)) (ap₂ ◌&&◌ hl hm))))
    (one_moved st moved i j stays a b)

-- two that show the same and turned are crossed
pair_turned : (all : List Showing) (st : Standings) (before after : List ℕ) (i j : ℕ) (x y : ℤ) → HavePlaces all → Rises st.stood before → Rises st.stands after → Have before after all
    → rank st.stood i < rank st.stood j → rank st.stands j < rank st.stands i → held_in (still (showing all i)) x y ≡ true → held_in (still (showing all j)) x y ≡ true
    → in_crossed (looks_now all after) (looks_before all before) x y ≡ true
pair_turned all st before after i j x y places rise rise' have a b hi hj =
    let f : ℕ → Option Look = λ place. (showing all place).was in
    let g : ℕ → Option Look = λ place. (showing all place).now in
    let agree = agree_was_now all places in
    let s = still_told (f i) (g i) x y hi in
    let t = still_told (f j) (g j) x y hj in
    let l : Look = s.0 in
    let m : Look = t.0 in
    let il : s.1.id ≡ l.id = eqb-true s.1.id l.id ((both (s.1.id == l.id) (same_look l s.1) s.4).0) in
    let im : t.1.id ≡ m.id = eqb-true t.1.id m.id ((both (t.1.id == m.id) (same_look m t.1) t.4).0) in
    let o : Ordered i j before = by_rank st.stood before i j rise (marked_In before i (have.was i l s.2)) (marked_In before j (have.was j m t.2)) a in
    let p : Ordered j i after = by_rank st.stands after j i rise' (marked_In after j (have.now j t.1 t.3)) (marked_In after i (have.now i s.1 s.3)) b in
    let turned : in_order m.id l.id (looks_now all after) ≡ true =
    ap₂ (λ u v. in_order u v (looks_now all after)) (sym im) (sym il) ∙ ordered_in t.1 s.1 (looks_now all after) (ordered_back g t.1 s.1 j i after p t.3 s.3) in
    let kl : is_kept (looks_now all after) l ≡ true = kept_told f g l i after agree s.2 ∙ ap₂ ◌&&◌ (have.now i s.1 s.3) (ap (same_in l) s.3 ∙ s.4) in
    let km : is_kept (looks_now all after) m ≡ true = kept_told f g m j after agree t.2 ∙ ap₂ ◌&&◌ (have.now j t.1 t.3) (ap (same_in m) t.3 ∙ t.4) in
    pair_crossed (looks_now all after) l m (looks_before all before) x y (ordered_back f l m i j before o s.2 t.2) (ap₂ ◌&&◌ (ap₂ ◌&&◌ kl km) turned) s.5 t.5

pub turned_crossed : (all : List Showing) (st : Standings) (before after moved : List ℕ) (x y : ℤ) → HavePlaces all → Rises st.stood before → Rises st.stands after → Have before after all
    → in_turned all st moved x y ≡ true → in_crossed (looks_now all after) (looks_before all before) x y ≡ true
turned_crossed all st before after moved x y places rise rise' have e =
    let r = any_In (λ a. any_below (in_pair all st x y a) (length all)) moved e in
    let a : ℕ = r.0 in
    let q = at_below (in_pair all st x y a) (length all) r.2 in
    let b : ℕ = q.0 in
    let s = both (is_turned st a b) (held_in (still (showing all b)) x y && held_in (still (showing all a)) x y) q.1 in
    let h = both (held_in (still (showing all b)) x y) (held_in (still (showing all a)) x y) s.1 in
    ⊎_elim
    (λ t. let u = both (nat_lt (rank st.stood a) (rank st.stood b)) (nat_lt (rank st.stands b) (rank st.stands a)) t in
    pair_turned all st before after a b x y places rise rise' have (lt_is (rank st.stood a) (rank st.stood b) u.0) (lt_is (rank st.stands b) (rank st.stands a) u.1) h.1 h.0)
    (λ t. let u = both (nat_lt (rank st.stood b) (rank st.stood a)) (nat_lt (rank st.stands a) (rank st.stands b)) t in
    pair_turned all st before after b a x y places rise rise' have (lt_is (rank st.stood b) (rank st.stood a) u.0) (lt_is (rank st.stands a) (rank st.stands b) u.1) h.0 h.1)
    (either (turns st a b) (turns st b a) s.0)

gone_shown : (o p : Option Look) (x y : ℤ) → gone o p x y ≡ true → (l : Look) × (o ≡ Some l)
gone_shown None p x y e = absurd (true≢false (sym e))
gone_shown (Some l) p x y e = (l, refl)

-- the damage is in the areas of what was touched, and in those of what turned
pub restacked_damage : (all : List Showing) (st : Standings) (before after touched moved : List ℕ) (x y : ℤ) → HavePlaces all → Rises st.stood before → Rises st.stands after → Have before after all → Keeps touched all → Stays st moved
    → is_damaged (looks_before all before) (looks_now all after) x y ≡ (has_pixel (changes all touched) x y || in_turned all st moved x y)
restacked_damage all st before after touched moved x y places rise rise' have keep stays =
    let f : ℕ → Option Look = λ place. (showing all place).was in
    let g : ℕ → Option Look = λ place. (showing all place).now in
    let p : ℕ → Bool = λ k. gone (f k) (g k) x y in
    let q : ℕ → Bool = λ k. gone (g k) (f k) x y in
    let one : in_unkept (looks_now all after) (looks_before all before) x y ≡ list_any p touched =
    unkept_told f g before after x y (agree_was_now all places) (λ k m e. have.now k m e)
    ∙ iff_same (list_any p before) (list_any p touched)
    (any_moved p before touched (λ k e. changed_touched all touched x y keep k (sym (gone_both (f k) (g k) x y) ∙ or_left (p k) (q k) e)))
    (any_moved p touched before (λ k e. let r = gone_shown (f k) (g k) x y e in have.was k r.0 r.1)) in
    let two : in_unkept (looks_before all before) (looks_now all after) x y ≡ list_any q touched =
    unkept_told g f after before x y (agree_now_was all places) (λ k m e. have.was k m e)
    ∙ iff_same (list_any q after) (list_any q touched)
    (any_moved q after touched (λ k e. changed_touched all touched x y keep k (sym (gone_both (f k) (g k) x y) ∙ or_right (p k) (q k) e)))
    (any_moved q touched after (λ k e. let r = gone_shown (g k) (f k) x y e in have.now k r.0 r.1)) in
    let three : in_crossed (looks_now all after) (looks_before all before) x y ≡ in_turned all st moved x y =
    iff_same (in_crossed (looks_now all after) (looks_before all before) x y) (in_turned all st moved x y)
    (crossed_turned all st before after moved x y places rise rise' stays)
    (turned_crossed all st before after moved x y places rise rise' have) in
    ap₂ ◌||◌ (ap₂ ◌||◌ one two ∙ any_or p q touched ∙ any_same (λ k. p k || q k) (changes_at all x y) touched (λ k i. gone_both (f k) (g k) x y) ∙ sym (changes_told all touched x y)) three

-- the pixels of all that was gathered are the damage
pub restacked_of : (all : List Showing) (st : Standings) (touched moved before after : List ℕ) (changed areas region : List Area) → HavePlaces all → Keeps touched all → Stays st moved
    → changed ≡ changes all touched → Gathers (in_turned all st moved) changed areas → Rises st.stood before → Rises st.stands after → Have before after all → IsBandsOf (has_pixel areas) region
    → IsBandsOf (is_damaged (looks_before all before) (looks_now all after)) region
restacked_of all st touched moved before after changed areas region places keep stays is more rise rise' have bands = record {
  pixels = λ x y. bands.pixels x y ∙ more.pixels x y
      ∙ ap (λ a. has_pixel a x y || in_turned all st moved x y) is
      ∙ sym (restacked_damage all st before after touched moved x y places rise rise' have keep stays);
  banded = bands.banded;
}
