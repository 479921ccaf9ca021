-- Two lists with the same ids in the same order.
use Rattle.std.proofs.Common.{◌≡◌, ◌≢◌, ℕ, zero, suc, ◌<◌, ◌+◌, ℤ, Bool, true, false, not, ◌&&◌, ◌||◌, ◌==◌, if◌then◌else◌, List, [], ◌∷◌, ◌++◌, map, length, get_or, take, drop, take-append-drop, subst, All, refl, sym, ap, ap₂, ◌∙◌, arith, true≢false, inl, inr, ⊎_elim}
use Rattle.std.proofs.Math.Bool.{or-false}
use Rattle.std.proofs.lemmas.Bool.{eqb-true, eq-eqb, ne_eqb, and_left, and_right}
use Rattle.std.proofs.lemmas.Grind.{common_steps}
use Rattle.std.proofs.lemmas.List.Folds.{list_any-append}
use Rattle.std.proofs.lemmas.List.{append_assoc, drop_more}
use Rattle.std.proofs.lemmas.List.Elements.{All-nil, All-append, All-drop}
use Rattle.std.specs.List.{list_any}
use Rattle.ev_geom.specs.Area.{Area, holds}
use Rattle.ev_geom.specs.Bands.{has_pixel, FitsRegion, IsBandsOf}
use Rattle.ev_model.specs.Look.{Look, look_of}
use Rattle.ev_model.specs.declared.scene.Record.{Record}
use Rattle.ev_damage.specs.Same.{same_look}
use Rattle.ev_damage.specs.Damage.{is_kept, in_unkept, in_order, is_crossed, in_crossed, is_damaged}
use Rattle.ev_damage.specs.Marked.{may_differ, AreKept}
use Rattle.ev_damage.specs.Places.{look_ids, HaveOwnIds}
use Rattle.ev_damage.specs.Step.{changed, changes}
use Rattle.ev_damage.proofs.Members.{In, Ordered, Distinct, distinct_of, both, either, any_In, In_map, ordered_second}
use Rattle.ev_damage.proofs.Staying.{id_of, kept_is}
use Rattle.ev_damage.proofs.Gathering.{kept_here}
use Rattle.ev_damage.proofs.Telling.{tells}

-- equal looks are equal both ways
turned_same : (l m : Look) → same_look l m ≡ true → same_look m l ≡ true
turned_same l m e = let s = (tells l m).0 e in
    (tells m l).1 (record { area = sym s.area; rect = sym s.rect; op = sym s.op; color = sym s.color; figure = sym s.figure })

pub same_turned : (l m : Look) → same_look l m ≡ same_look m l
same_turned l m = go (same_look l m) (same_look m l) refl refl where
  go : (s t : Bool) → same_look l m ≡ s → same_look m l ≡ t → same_look l m ≡ same_look m l
  go true t e f = e ∙ sym (turned_same l m e)
  go false true e f = turned_same m l f ∙ sym f
  go false false e f = e ∙ sym f

-- a look whose id no other has is kept where the one of this id is equal
not_kept : (looks : List Look) (l : Look) → (In l.id (map id_of looks) → ⊥) → is_kept looks l ≡ false
not_kept looks l new = go (is_kept looks l) refl where
  go : (b : Bool) → is_kept looks l ≡ b → is_kept looks l ≡ false
  go true e = let k = kept_is looks l e in let n : In k.0.id (map id_of looks) = In_map id_of k.0 looks k.1 in absurd (new (rw k.2 n))
  go false e = e

pub kept_by_id : (looks : List Look) (l m : Look) → Distinct (map id_of looks) → In m looks → l.id ≡ m.id → is_kept looks l ≡ same_look l m
kept_by_id [] l m p i e = absurd i
kept_by_id (n ∷ ns) l m p (inl s) e =
    let here : n.id ≡ l.id = sym (e ∙ ap id_of s) in
    ap₂ ◌||◌ (ap (λ t. t && same_look l n) (eq-eqb n.id l.id here)) (not_kept ns l (λ h. p.0 (rw here h)))
    ∙ or-false (same_look l n) ∙ ap (same_look l) (sym s)
kept_by_id (n ∷ ns) l m p (inr i) e =
    let there : In m.id (map id_of ns) = In_map id_of m ns i in
    let apart : n.id ≢ l.id = λ h. p.0 (rw (h ∙ e) there) in
    ap (λ t. (t && same_look l n) || is_kept ns l) (ne_eqb n.id l.id apart) ∙ kept_by_id ns l m p.1 i e

-- the pixels of looks that are not kept are those of the changes
one_change : (s h k u v : Bool) (a b : Area) (x y : ℤ) → holds a x y ≡ h → holds b x y ≡ k → (((not s && h) || u) || ((not s && k) || v)) ≡ (has_pixel (if s then [] else a ∷ (b ∷ [])) x y || (u || v))
one_change true h k u v a b x y e f = refl
one_change false true k u v a b x y e f = rw e refl
one_change false false true true v a b x y e f = rw (e, f) refl
one_change false false true false v a b x y e f = rw (e, f) refl
one_change false false false u v a b x y e f = rw (e, f) refl

unkept_changes : (old new ls ms : List Look) (x y : ℤ) → Distinct (map id_of old) → Distinct (map id_of new) → map id_of ls ≡ map id_of ms → ((l : Look) → In l ls → In l old) → ((m : Look) → In m ms → In m new)
    → (in_unkept new ls x y || in_unkept old ms x y) ≡ has_pixel (changes ls ms) x y
unkept_changes old new [] [] x y p q e f g = refl
unkept_changes old new [] (m ∷ ms) x y p q e f g = absurd (let n : length (map id_of []) ≡ length (map id_of (m ∷ ms)) = ap length e in omega (arith, n))
unkept_changes old new (l ∷ ls) [] x y p q e f g = absurd (let n : length (map id_of (l ∷ ls)) ≡ length (map id_of []) = ap length e in omega (arith, n))
unkept_changes old new (l ∷ ls) (m ∷ ms) x y p q e f g =
    let head : l.id ≡ m.id = cc in
    let rest : map id_of ls ≡ map id_of ms = cc in
    let one : is_kept new l ≡ same_look l m = kept_by_id new l m q (g m (inl refl)) head in
    let two : is_kept old m ≡ same_look l m = kept_by_id old m l p (f l (inl refl)) (sym head) ∙ same_turned m l in
    ap₂ (λ s t. ((not s && holds l.area x y) || in_unkept new ls x y) || ((not t && holds m.area x y) || in_unkept old ms x y)) one two
    ∙ one_change (same_look l m) (holds l.area x y) (holds m.area x y) (in_unkept new ls x y) (in_unkept old ms x y) l.area m.area x y refl refl
    ∙ ap (λ t. has_pixel (changed l m) x y || t) (unkept_changes old new ls ms x y p q rest (λ k i. f k (inr i)) (λ k i. g k (inr i)))
    ∙ sym (list_any-append (λ area. holds area x y) (changed l m) (changes ls ms))

-- no two distinct numbers stand in both orders
one_order : (ks : List ℕ) (a b : ℕ) → Distinct ks → Ordered a b ks → Ordered b a ks → ⊥
one_order [] a b p o n = o
one_order (k ∷ ks) a b p (inl o) (inl n) = p.0 (rw (sym n.0) o.1)
one_order (k ∷ ks) a b p (inl o) (inr n) = p.0 (rw (sym o.0) (ordered_second b a ks n))
one_order (k ∷ ks) a b p (inr o) (inl n) = p.0 (rw (sym n.0) (ordered_second a b ks o))
one_order (k ∷ ks) a b p (inr o) (inr n) = one_order ks a b p.1 o n

-- the order of looks is that of their ids
ids_ordered : (a b : ℕ) (looks : List Look) → in_order a b looks ≡ true → Ordered a b (map id_of looks)
ids_ordered a b [] e = absurd (true≢false (sym e))
ids_ordered a b (l ∷ ls) e = ⊎_elim
    (λ t. (let s = both (l.id == a) (list_any (λ m. m.id == b) ls) t in
    let r = any_In (λ m. m.id == b) ls s.1 in
    let there : In r.0.id (map id_of ls) = In_map id_of r.0 ls r.1 in
    inl (sym (eqb-true l.id a s.0), rw (sym (eqb-true r.0.id b r.2)) there)))
    (λ t. inr (ids_ordered a b ls t))
    (either (l.id == a && list_any (λ m. m.id == b) ls) (in_order a b ls) e)

ordered_ids : (l m : Look) (looks : List Look) → Ordered l m looks → Ordered l.id m.id (map id_of looks)
ordered_ids l m [] o = o
ordered_ids l m (k ∷ ks) (inl o) = inl (ap id_of o.0, In_map id_of m ks o.1)
ordered_ids l m (k ∷ ks) (inr o) = inr (ordered_ids l m ks o)

-- where no two looks stand in the opposite order, none are crossed
none_passes : {X : Type 0} (p : X → Bool) (xs : List X) → ((x : X) → In x xs → p x ≡ false) → list_any p xs ≡ false
none_passes p [] h = refl
none_passes p (x ∷ xs) h = ap₂ ◌||◌ (h x (inl refl)) (none_passes p xs (λ y i. h y (inr i)))

none_crossed : (others ls : List Look) (x y : ℤ) → ((l m : Look) → Ordered l m ls → in_order m.id l.id others ≡ false) → in_crossed others ls x y ≡ false
none_crossed others [] x y h = refl
none_crossed others (l ∷ ls) x y h = ap₂ ◌||◌
    (none_passes (λ m. is_crossed others l m && (holds l.area x y && holds m.area x y)) ls
    (λ m i. and_left (is_crossed others l m) (holds l.area x y && holds m.area x y) (and_right (is_kept others l && is_kept others m) (in_order m.id l.id others) (h l m (inl (refl, i))))))
    (none_crossed others ls x y (λ k j o. h k j (inr o)))

-- the damage is that of the changes
pub step_damage : (old new : List Look) (x y : ℤ) → HaveOwnIds old → HaveOwnIds new → look_ids old ≡ look_ids new → is_damaged old new x y ≡ has_pixel (changes old new) x y
step_damage old new x y own own' same =
    let p : Distinct (map id_of old) = distinct_of (map id_of old) own.differ in
    let q : Distinct (map id_of new) = distinct_of (map id_of new) own'.differ in
    ap₂ ◌||◌ (unkept_changes old new old new x y p q same (λ l i. i) (λ m i. i)) (none_crossed new old x y (λ l m o. in_step l m o (in_order m.id l.id new) refl))
    ∙ or-false (has_pixel (changes old new) x y)
  where
    in_step : (l m : Look) → Ordered l m old → (b : Bool) → in_order m.id l.id new ≡ b → in_order m.id l.id new ≡ false
    in_step l m o true e = absurd (
        let n : Ordered m.id l.id (map id_of new) = ids_ordered m.id l.id new e in
        let t : Ordered m.id l.id (map id_of old) = rw same n in
        one_order (map id_of old) l.id m.id (distinct_of (map id_of old) own.differ) (ordered_ids l m old o) t)
    in_step l m o false e = e

-- the area of each change fits
pub changes_fit : (os ns : List Record) → All (λ r. FitsRegion r.area) os → All (λ r. FitsRegion r.area) ns → All FitsRegion (changes (map look_of os) (map look_of ns))
changes_fit [] ns h k = All-nil FitsRegion
changes_fit (o ∷ os) [] h k = All-nil FitsRegion
changes_fit (o ∷ os) (n ∷ ns) h k = All-append FitsRegion (changed (look_of o) (look_of n)) (changes (map look_of os) (map look_of ns))
    (both_fit (same_look (look_of o) (look_of n)))
    (changes_fit os ns (λ i d l. h (suc i) d (omega (arith, l))) (λ i d l. k (suc i) d (omega (arith, l))))
  where
    both_fit : (s : Bool) → All FitsRegion (if s then [] else o.area ∷ (n.area ∷ []))
    both_fit true i d l = absurd (omega (arith, l))
    both_fit false zero d l = h 0 o (omega arith)
    both_fit false (suc zero) d l = k 0 n (omega arith)
    both_fit false (suc (suc i)) d l = absurd (omega (arith, l))

-- two records at one place have one id
same_id_at : (os ns : List Record) (i : ℕ) (d e : Record) → look_ids (map look_of os) ≡ look_ids (map look_of ns) → i < length os → (get_or os i d).id ≡ (get_or ns i e).id
same_id_at [] ns i d e same l = absurd (omega (arith, l))
same_id_at (o ∷ os) [] i d e same l = absurd (let n : length (look_ids (map look_of (o ∷ os))) ≡ length (look_ids []) = ap length same in omega (arith, n))
same_id_at (o ∷ os) (n ∷ ns) zero d e same l = cc
same_id_at (o ∷ os) (n ∷ ns) (suc i) d e same l = let rest : look_ids (map look_of os) ≡ look_ids (map look_of ns) = cc in same_id_at os ns i d e rest (omega (arith, l))

look_at : (rs : List Record) (i : ℕ) (r : Record) → i < length rs → r ≡ get_or rs i r → In (look_of r) (map look_of rs)
look_at [] i r l e = absurd (omega (arith, l))
look_at (s ∷ rs) zero r l e = inl (ap look_of e)
look_at (s ∷ rs) (suc i) r l e = inr (look_at rs i r (omega (arith, l)) e)

same_length : (os ns : List Record) → look_ids (map look_of os) ≡ look_ids (map look_of ns) → length os ≡ length ns
same_length os ns same = let n : length (look_ids (map look_of os)) ≡ length (look_ids (map look_of ns)) = ap length same in grind (arith, common_steps, n)

-- records that may not differ are equal
pub same_here : (any : Bool) (ids : List ℕ) (os ns : List Record) (i : ℕ) (o n : Record) → look_ids (map look_of os) ≡ look_ids (map look_of ns) → HaveOwnIds (map look_of ns) → AreKept any ids (map look_of ns) (map look_of os)
    → i < length os → o ≡ get_or os i o → n ≡ get_or ns i n → may_differ any ids o.id ≡ false → same_look (look_of o) (look_of n) ≡ true
same_here any ids os ns i o n same own unmarked inside is is' e =
    let id : o.id ≡ n.id = ap (λ r. r.id) is ∙ same_id_at os ns i o n same inside ∙ ap (λ r. r.id) (sym is') in
    let there : In (look_of n) (map look_of ns) = look_at ns i n (omega (arith, inside, same_length os ns same)) is' in
    sym (kept_by_id (map look_of ns) (look_of o) (look_of n) (distinct_of (map id_of (map look_of ns)) own.differ) there id) ∙ kept_here any ids (map look_of ns) os i o unmarked inside is e

-- the changes of one more place
pub changes_more : (os ns : List Record) (i : ℕ) (o n : Record) (now new all : List Area) → now ++ changes (map look_of (drop i os)) (map look_of (drop i ns)) ≡ all → i < length os → look_ids (map look_of os) ≡ look_ids (map look_of ns) → o ≡ get_or os i o → n ≡ get_or ns i n
    → new ≡ now ++ changed (look_of o) (look_of n) → new ++ changes (map look_of (drop (i + 1) os)) (map look_of (drop (i + 1) ns)) ≡ all
changes_more os ns i o n now new all so_far inside same is is' e =
    let rest : List Area = changes (map look_of (drop (i + 1) os)) (map look_of (drop (i + 1) ns)) in
    let left : drop i os ≡ o ∷ drop (i + 1) os = drop_more os i o inside ∙ ap (λ r. r ∷ drop (i + 1) os) (sym is) in
    let right : drop i ns ≡ n ∷ drop (i + 1) ns = drop_more ns i n (omega (arith, inside, same_length os ns same)) ∙ ap (λ r. r ∷ drop (i + 1) ns) (sym is') in
    ap (λ areas. areas ++ rest) e ∙ append_assoc now (changed (look_of o) (look_of n)) rest ∙ ap (λ areas. now ++ areas) (sym (ap₂ (λ a b. changes (map look_of a) (map look_of b)) left right)) ∙ so_far

-- the pixels of all areas are those of two halves
pub areas_halved : (areas front back a b new : List Area) (n : ℕ) → front ≡ take n areas → back ≡ drop n areas → IsBandsOf (has_pixel front) a → IsBandsOf (has_pixel back) b → IsBandsOf (λ x y. has_pixel a x y || has_pixel b x y) new → IsBandsOf (has_pixel areas) new
areas_halved areas front back a b new n f g one two all = record {
  pixels = λ x y. all.pixels x y ∙ ap₂ ◌||◌ (one.pixels x y) (two.pixels x y) ∙ sym (list_any-append (λ area. holds area x y) front back) ∙ ap (λ rects. has_pixel rects x y) (ap₂ ◌++◌ f g ∙ take-append-drop n areas);
  banded = all.banded;
}

pub fit_behind : (areas back : List Area) (n : ℕ) → back ≡ drop n areas → All FitsRegion areas → All FitsRegion back
fit_behind areas back n e fit = let P : List Area → Type 0 = All FitsRegion in subst P (sym e) (All-drop FitsRegion n areas fit)

-- the pixels of the changes are the damage
pub damage_of : (old new : List Look) (areas region : List Area) → HaveOwnIds old → HaveOwnIds new → look_ids old ≡ look_ids new → areas ≡ changes old new → IsBandsOf (has_pixel areas) region → IsBandsOf (is_damaged old new) region
damage_of old new areas region own own' same e is = record {
  pixels = λ x y. is.pixels x y ∙ ap (λ rects. has_pixel rects x y) e ∙ sym (step_damage old new x y own own' same);
  banded = is.banded;
}
