-- Outside the damage the same looks are painted.
use Rattle.std.proofs.Common.{◌≡◌, ℕ, ℤ, pos, Bool, true, false, ◌&&◌, ◌||◌, ◌==◌, not, List, [], ◌∷◌, map, refl, sym, ap, ap₂, ◌∙◌, subst, true≢false, inl, inr}
use Rattle.std.proofs.lemmas.Bool.{eqb-true, eq-eqb}
use Rattle.std.specs.List.{list_any, AllZip}
use Rattle.ev_geom.specs.Area.{holds}
use Rattle.ev_model.specs.Look.{Look, IsSameLook}
use Rattle.ev_damage.specs.Same.{same_look}
use Rattle.ev_damage.specs.Damage.{is_kept, in_unkept, in_order, is_crossed, in_crossed, is_damaged}
use Rattle.ev_damage.specs.Stay.{covering}
use Rattle.ev_damage.proofs.Members.{In, Ordered, Distinct, or_left, or_right, neither, both, any_In, In_any, filter_In, In_filter, In_map, map_In, ordered_filter, ordered_map, ordered_first, ordered_second, distinct_filter, same_keys, same_elements}
use Rattle.ev_damage.proofs.Sameness.{same_look_is}

abbrev pub id_of : Look → ℕ
id_of l = l.id

-- a look that is kept has an equal one
pub kept_is : (looks : List Look) (l : Look) → is_kept looks l ≡ true → (m : Look) × In m looks × (l.id ≡ m.id) × IsSameLook l m
kept_is looks l e =
    let r = any_In (λ m. m.id == l.id && same_look l m) looks e in
    let t = both (r.0.id == l.id) (same_look l r.0) r.2 in
    (r.0, r.1, sym (eqb-true r.0.id l.id t.0), same_look_is l r.0 t.1)

-- a look that covers a pixel which is not damaged is kept
kept_there : (others ls : List Look) (l : Look) (x y : ℤ) → in_unkept others ls x y ≡ false → In l ls → holds l.area x y ≡ true → is_kept others l ≡ true
kept_there others ls l x y e m h = go (is_kept others l) refl where
  go : (b : Bool) → is_kept others l ≡ b → is_kept others l ≡ true
  go true k = k
  go false k = absurd (true≢false (sym (In_any (λ l. not (is_kept others l) && holds l.area x y) l ls m (ap₂ ◌&&◌ (ap not k) h)) ∙ e))

-- looks that stand in this order
pub order_is : (l m : Look) (looks : List Look) → Ordered l m looks → in_order l.id m.id looks ≡ true
order_is l m [] o = absurd o
order_is l m (k ∷ ks) (inl o) = or_left (k.id == l.id && list_any (λ j. j.id == m.id) ks) (in_order l.id m.id ks)
    (ap₂ ◌&&◌ (eq-eqb k.id l.id (ap id_of (sym o.0))) (In_any (λ j. j.id == m.id) m ks o.1 (eq-eqb m.id m.id refl)))
order_is l m (k ∷ ks) (inr o) = or_right (k.id == l.id && list_any (λ j. j.id == m.id) ks) (in_order l.id m.id ks) (order_is l m ks o)

-- a pair that is crossed and covers a pixel damages it
crossed_is : (others ls : List Look) (l m : Look) (x y : ℤ) → Ordered l m ls → is_crossed others l m ≡ true → holds l.area x y ≡ true → holds m.area x y ≡ true → in_crossed others ls x y ≡ true
crossed_is others [] l m x y o c g h = absurd o
crossed_is others (k ∷ ks) l m x y (inl o) c g h = or_left (list_any (λ j. is_crossed others k j && (holds k.area x y && holds j.area x y)) ks) (in_crossed others ks x y)
    (In_any (λ j. is_crossed others k j && (holds k.area x y && holds j.area x y)) m ks o.1 (let s : l ≡ k = o.0 in
    let P : Look → Type 0 = λ k. (is_crossed others k m && (holds k.area x y && holds m.area x y)) ≡ true in subst P s (ap₂ ◌&&◌ c (ap₂ ◌&&◌ g h))))
crossed_is others (k ∷ ks) l m x y (inr o) c g h = or_right (list_any (λ j. is_crossed others k j && (holds k.area x y && holds j.area x y)) ks) (in_crossed others ks x y) (crossed_is others ks l m x y o c g h)

-- outside the damage the same looks cover a pixel, in the same order
pub still_looks : (old new : List Look) (x y : ℕ) → Distinct (map id_of old) → Distinct (map id_of new) → is_damaged old new (pos x) (pos y) ≡ false → AllZip (λ l m. (id_of l ≡ id_of m) × IsSameLook l m) (covering old x y) (covering new x y)
still_looks old new x y p q e =
    let parts = neither (in_unkept new old (pos x) (pos y) || in_unkept old new (pos x) (pos y)) (in_crossed new old (pos x) (pos y)) e in
    let unkept = neither (in_unkept new old (pos x) (pos y)) (in_unkept old new (pos x) (pos y)) parts.0 in
    let covers : Look → Bool = λ l. holds l.area (pos x) (pos y) in
    let into : (l : Look) → In l (covering old x y) → (m : Look) × In m (covering new x y) × (l.id ≡ m.id) × IsSameLook l m = λ l i.
    (let f = filter_In covers l old i in
    let k = kept_is new l (kept_there new old l (pos x) (pos y) unkept.0 f.0 f.1) in
    (k.0, In_filter covers k.0 new k.1 (ap (λ area. holds area (pos x) (pos y)) (sym k.3.area) ∙ f.1), k.2, k.3)) in
    let from : (m : Look) → In m (covering new x y) → (l : Look) × In l (covering old x y) × (m.id ≡ l.id) × IsSameLook m l = λ m i.
    (let f = filter_In covers m new i in
    let k = kept_is old m (kept_there old new m (pos x) (pos y) unkept.1 f.0 f.1) in
    (k.0, In_filter covers k.0 old k.1 (ap (λ area. holds area (pos x) (pos y)) (sym k.3.area) ∙ f.1), k.2, k.3)) in
    let keys : map id_of (covering old x y) ≡ map id_of (covering new x y) = same_keys (map id_of (covering old x y)) (map id_of (covering new x y))
    (distinct_filter id_of covers old p) (distinct_filter id_of covers new q)
    (λ k i. (let r = map_In id_of k (covering old x y) i in let t = into r.0 r.1 in let n : In (id_of t.0) (map id_of (covering new x y)) = In_map id_of t.0 (covering new x y) t.1 in rw (r.2 ∙ t.2) n))
    (λ k i. (let r = map_In id_of k (covering new x y) i in let t = from r.0 r.1 in let n : In (id_of t.0) (map id_of (covering old x y)) = In_map id_of t.0 (covering old x y) t.1 in rw (r.2 ∙ t.2) n))
    (λ a b o n. (
    let r = ordered_map id_of a b (covering old x y) o in
    let f = ordered_filter covers r.0 r.1 old r.2 in
    let s = ordered_map id_of b a (covering new x y) n in
    let g = ordered_filter covers s.0 s.1 new s.2 in
    let one = kept_there new old r.0 (pos x) (pos y) unkept.0 (ordered_first r.0 r.1 old f.0) f.1 in
    let two = kept_there new old r.1 (pos x) (pos y) unkept.0 (ordered_second r.0 r.1 old f.0) f.2 in
    let first : id_of s.0 ≡ id_of r.1 = sym s.3 ∙ r.4 in
    let second : id_of s.1 ≡ id_of r.0 = sym s.4 ∙ r.3 in
    let order : in_order (id_of r.1) (id_of r.0) new ≡ true = rw (← first, ← second) (order_is s.0 s.1 new g.0) in
    true≢false (sym (crossed_is new old r.0 r.1 (pos x) (pos y) f.0 (ap₂ ◌&&◌ (ap₂ ◌&&◌ one two) order) f.1 f.2) ∙ parts.1))) in
    same_elements id_of IsSameLook (covering old x y) (covering new x y) (distinct_filter id_of covers new q) keys into
