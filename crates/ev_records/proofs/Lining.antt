-- What the looks of places keep, and which of them are gone.
use Rattle.std.proofs.Common.{◌≡◌, ◌≢◌, ℕ, ◌⊎◌, ⊎_elim, inl, inr, ℤ, Bool, true, false, not, ◌&&◌, ◌||◌, ◌==◌, List, [], ◌∷◌, filter_map, Option, Some, None, refl, sym, ap, ap₂, ◌∙◌, true≢false, if◌then◌else◌}
use Rattle.std.proofs.Math.Bool.{or-false}
use Rattle.std.proofs.lemmas.Bool.{eqb-true, eq-eqb, ne_eqb, and_right}
use Rattle.std.proofs.lemmas.List.Folds.{list_any-append}
use Rattle.std.specs.List.{list_any, cons_option}
use Rattle.ev_geom.specs.Area.{Area, holds}
use Rattle.ev_geom.specs.Bands.{has_pixel}
use Rattle.ev_model.specs.Look.{Look}
use Rattle.ev_damage.specs.Same.{same_look}
use Rattle.ev_damage.specs.Marked.{is_marked}
use Rattle.ev_damage.specs.Damage.{is_kept, in_unkept, in_order}
use Rattle.ev_damage.proofs.Members.{In, Ordered, both, either, any_In, In_any}
use Rattle.ev_damage.proofs.Stepping.{same_turned}
use Rattle.ev_damage.proofs.Telling.{tells}
use Rattle.ev_records.specs.Showing.{Showing, showing, HavePlaces}
use Rattle.ev_records.specs.Changes.{is_same, changed, changed_in, changes}

-- of the looks that two functions give to places, those of one object are of one place
pub record Agree (f g : ℕ → Option Look) : Type 0 where
  pub one : (i j : ℕ) (l m : Look) → f i ≡ Some l → g j ≡ Some m → l.id ≡ m.id → i ≡ j

pub agree_was_now : (all : List Showing) → HavePlaces all → Agree (λ k. (showing all k).was) (λ k. (showing all k).now)
agree_was_now all have = record { one = λ i j l m e f. have.one i j l m (inl e) (inr f) }

pub agree_now_was : (all : List Showing) → HavePlaces all → Agree (λ k. (showing all k).now) (λ k. (showing all k).was)
agree_now_was all have = record { one = λ i j l m e f. have.one i j l m (inr e) (inl f) }

-- a look is equal to itself, and equal both ways
pub same_self : (l : Look) → is_same l l ≡ true
same_self l = ap₂ ◌&&◌ (eq-eqb l.id l.id refl) ((tells l l).1 (record { area = refl; rect = refl; op = refl; color = refl; figure = refl }))

turned_id : (a b : ℕ) → (a == b) ≡ (b == a)
turned_id a b = go (a == b) (b == a) refl refl where
  go : (s t : Bool) → (a == b) ≡ s → (b == a) ≡ t → (a == b) ≡ (b == a)
  go true t e f = e ∙ sym (eq-eqb b a (sym (eqb-true a b e)))
  go false true e f = eq-eqb a b (sym (eqb-true b a f)) ∙ sym f
  go false false e f = e ∙ sym f

pub is_same_turned : (l m : Look) → is_same l m ≡ is_same m l
is_same_turned l m = ap₂ ◌&&◌ (turned_id m.id l.id) (same_turned l m)

-- whether there is a look that passes
abbrev pub any_of : (Look → Bool) → Option Look → Bool
any_of p None = false
any_of p (Some l) = p l

any_cons : (p : Look → Bool) (o : Option Look) (rest : List Look) → list_any p (cons_option o rest) ≡ (any_of p o || list_any p rest)
any_cons p None rest = refl
any_cons p (Some l) rest = refl

pub any_looks : (p : Look → Bool) (f : ℕ → Option Look) (order : List ℕ) → list_any p (filter_map f order) ≡ list_any (λ k. any_of p (f k)) order
any_looks p f [] = refl
any_looks p f (k ∷ ks) = any_cons p (f k) (filter_map f ks) ∙ ap (λ t. any_of p (f k) || t) (any_looks p f ks)

-- tests that agree on all elements
pub any_same : {X : Type 0} (p q : X → Bool) (xs : List X) → ((x : X) → In x xs → p x ≡ q x) → list_any p xs ≡ list_any q xs
any_same p q [] h = refl
any_same p q (x ∷ xs) h = ap₂ ◌||◌ (h x (inl refl)) (any_same p q xs (λ y i. h y (inr i)))

or_four : (a b c d : Bool) → ((a || b) || (c || d)) ≡ ((a || c) || (b || d))
or_four true b c d = refl
or_four false true true d = refl
or_four false true false d = refl
or_four false false true d = refl
or_four false false false d = refl

pub any_or : {X : Type 0} (p q : X → Bool) (xs : List X) → (list_any p xs || list_any q xs) ≡ list_any (λ x. p x || q x) xs
any_or p q [] = refl
any_or p q (x ∷ xs) = or_four (p x) (list_any p xs) (q x) (list_any q xs) ∙ ap (λ t. (p x || q x) || t) (any_or p q xs)

-- two tests of which each follows from the other
pub iff_same : (a b : Bool) → (a ≡ true → b ≡ true) → (b ≡ true → a ≡ true) → a ≡ b
iff_same true b f g = sym (f refl)
iff_same false true f g = g refl
iff_same false false f g = refl

-- what passes among some passes among others that have all that pass
pub any_moved : (p : ℕ → Bool) (xs ys : List ℕ) → ((k : ℕ) → p k ≡ true → is_marked ys k ≡ true) → list_any p xs ≡ true → list_any p ys ≡ true
any_moved p xs ys h e =
    let r = any_In p xs e in
    let s = any_In (λ j. j == r.0) ys (h r.0 r.2) in
    In_any p s.0 ys s.1 (ap p (eqb-true s.0 r.0 s.2) ∙ r.2)

-- whether the look that may stand there is this one
abbrev pub same_in : Look → Option Look → Bool
same_in l o = any_of (λ m. is_same l m) o

absorbed : (b c : Bool) → (b || (c && b)) ≡ b
absorbed true c = refl
absorbed false true = refl
absorbed false false = refl

-- in other places stands nothing equal
elsewhere : (l : Look) (o : Option Look) → ((m : Look) → o ≡ Some m → m.id ≢ l.id) → same_in l o ≡ false
elsewhere l None ne = refl
elsewhere l (Some m) ne = ap (λ t. t && same_look l m) (ne_eqb m.id l.id (ne m refl))

kept_step : (g : ℕ → Option Look) (l : Look) (i k : ℕ) (rest marked : Bool) → ((j : ℕ) (m : Look) → g j ≡ Some m → m.id ≡ l.id → j ≡ i) → (t : Bool) → (k == i) ≡ t → rest ≡ (marked && same_in l (g i))
    → (same_in l (g k) || rest) ≡ ((t || marked) && same_in l (g i))
kept_step g l i k rest marked own true e h = ap₂ ◌||◌ (ap (λ j. same_in l (g j)) (eqb-true k i e)) h ∙ absorbed (same_in l (g i)) marked
kept_step g l i k rest marked own false e h =
    let ne : k ≢ i = λ s. true≢false (sym (eq-eqb k i s) ∙ e) in
    ap₂ ◌||◌ (elsewhere l (g k) (λ m q s. ne (own k m q s))) h

kept_any : (g : ℕ → Option Look) (l : Look) (i : ℕ) (order : List ℕ) → ((j : ℕ) (m : Look) → g j ≡ Some m → m.id ≡ l.id → j ≡ i) → list_any (λ k. same_in l (g k)) order ≡ (is_marked order i && same_in l (g i))
kept_any g l i [] own = refl
kept_any g l i (k ∷ ks) own = kept_step g l i k (list_any (λ k. same_in l (g k)) ks) (is_marked ks i) own (k == i) refl (kept_any g l i ks own)

-- a look of this place is kept where the other look of the place is equal
pub kept_told : (f g : ℕ → Option Look) (l : Look) (i : ℕ) (order : List ℕ) → Agree f g → f i ≡ Some l → is_kept (filter_map g order) l ≡ (is_marked order i && same_in l (g i))
kept_told f g l i order agree e = any_looks (λ m. m.id == l.id && same_look l m) g order ∙ kept_any g l i order (λ j m q s. sym (agree.one i j l m e q (sym s)))

-- whether the pixel lies in the area of a look that is not the other one
abbrev pub gone : Option Look → Option Look → ℤ → ℤ → Bool
gone None m x y = false
gone (Some l) m x y = not (same_in l m) && holds l.area x y

gone_here : (f g : ℕ → Option Look) (order : List ℕ) (x y : ℤ) (k : ℕ) (o : Option Look) → Agree f g → f k ≡ o → ((m : Look) → g k ≡ Some m → is_marked order k ≡ true)
    → any_of (λ l. not (is_kept (filter_map g order) l) && holds l.area x y) o ≡ gone o (g k) x y
gone_here f g order x y k None agree e h = refl
gone_here f g order x y k (Some l) agree e h =
    let t : is_kept (filter_map g order) l ≡ same_in l (g k) = kept_told f g l k order agree e ∙ met (g k) refl in
    ap (λ b. not b && holds l.area x y) t
  where
    met : (n : Option Look) → g k ≡ n → (is_marked order k && same_in l (g k)) ≡ same_in l (g k)
    met None q = ap (λ n. is_marked order k && same_in l n) q ∙ and_right (is_marked order k) false refl ∙ sym (ap (same_in l) q)
    met (Some m) q = ap (λ b. b && same_in l (g k)) (h m q)

-- the pixels of looks that the others do not have
pub unkept_told : (f g : ℕ → Option Look) (order order' : List ℕ) (x y : ℤ) → Agree f g → ((k : ℕ) (m : Look) → g k ≡ Some m → is_marked order' k ≡ true)
    → in_unkept (filter_map g order') (filter_map f order) x y ≡ list_any (λ k. gone (f k) (g k) x y) order
unkept_told f g order order' x y agree stand =
    any_looks (λ l. not (is_kept (filter_map g order') l) && holds l.area x y) f order
    ∙ any_same (λ k. any_of (λ l. not (is_kept (filter_map g order') l) && holds l.area x y) (f k)) (λ k. gone (f k) (g k) x y) order
    (λ k i. gone_here f g order' x y k (f k) agree refl (λ m q. stand k m q))

two_pixels : (s : Bool) (a b : Area) (x y : ℤ) → ((not s && holds a x y) || (not s && holds b x y)) ≡ has_pixel (if s then [] else a ∷ (b ∷ [])) x y
two_pixels true a b x y = refl
two_pixels false a b x y = ap (λ t. holds a x y || t) (sym (or-false (holds b x y)))

-- the pixels of a change
pub gone_both : (o p : Option Look) (x y : ℤ) → (gone o p x y || gone p o x y) ≡ has_pixel (changed o p) x y
gone_both None None x y = refl
gone_both None (Some m) x y = sym (or-false (holds m.area x y))
gone_both (Some l) None x y = refl
gone_both (Some l) (Some m) x y = ap (λ t. (not (is_same l m) && holds l.area x y) || (not t && holds m.area x y)) (is_same_turned m l) ∙ two_pixels (is_same l m) l.area m.area x y

pub changes_told : (all : List Showing) (places : List ℕ) (x y : ℤ) → has_pixel (changes all places) x y ≡ list_any (λ k. has_pixel (changed_in (showing all k)) x y) places
changes_told all [] x y = refl
changes_told all (k ∷ ks) x y = list_any-append (λ area. holds area x y) (changed_in (showing all k)) (changes all ks) ∙ ap (λ t. has_pixel (changed_in (showing all k)) x y || t) (changes_told all ks x y)

-- a look comes of a place
In_cons : (l : Look) (o : Option Look) (rest : List Look) → In l (cons_option o rest) → (o ≡ Some l) ⊎ In l rest
In_cons l None rest i = inr i
In_cons l (Some m) rest (inl e) = inl (ap Some (sym e))
In_cons l (Some m) rest (inr i) = inr i

pub look_from : (f : ℕ → Option Look) (l : Look) (order : List ℕ) → In l (filter_map f order) → (k : ℕ) × In k order × (f k ≡ Some l)
look_from f l [] i = absurd i
look_from f l (k ∷ ks) i = ⊎_elim (λ e. (k, inl refl, e)) (λ j. let r = look_from f l ks j in (r.0, inr r.1, r.2)) (In_cons l (f k) (filter_map f ks) i)

-- the order of looks is that of their places
Ordered_cons : (l m : Look) (o : Option Look) (rest : List Look) → Ordered l m (cons_option o rest) → ((o ≡ Some l) × In m rest) ⊎ Ordered l m rest
Ordered_cons l m None rest i = inr i
Ordered_cons l m (Some n) rest (inl e) = inl (ap Some (sym e.0), e.1)
Ordered_cons l m (Some n) rest (inr i) = inr i

pub ordered_looks : (f : ℕ → Option Look) (l m : Look) (order : List ℕ) → Ordered l m (filter_map f order) → (i : ℕ) × (j : ℕ) × (f i ≡ Some l) × (f j ≡ Some m) × Ordered i j order
ordered_looks f l m [] o = absurd o
ordered_looks f l m (k ∷ ks) o = ⊎_elim
    (λ e. let r = look_from f m ks e.1 in (k, r.0, e.0, r.2, inl (refl, r.1)))
    (λ t. let r = ordered_looks f l m ks t in (r.0, r.1, r.2, r.3, inr r.4))
    (Ordered_cons l m (f k) (filter_map f ks) o)

order_cons : (a b : ℕ) (o : Option Look) (rest : List Look) → in_order a b (cons_option o rest) ≡ true → ((l : Look) × (o ≡ Some l) × (l.id ≡ a) × (list_any (λ m. m.id == b) rest ≡ true)) ⊎ (in_order a b rest ≡ true)
order_cons a b None rest e = inr e
order_cons a b (Some l) rest e = ⊎_elim
    (λ t. let s = both (l.id == a) (list_any (λ m. m.id == b) rest) t in inl (l, refl, eqb-true l.id a s.0, s.1))
    (λ t. inr t)
    (either (l.id == a && list_any (λ m. m.id == b) rest) (in_order a b rest) e)

any_own : (f : ℕ → Option Look) (b : ℕ) (order : List ℕ) → list_any (λ m. m.id == b) (filter_map f order) ≡ true → (j : ℕ) × (m : Look) × (f j ≡ Some m) × (m.id ≡ b) × In j order
any_own f b order e =
    let r = any_In (λ m. m.id == b) (filter_map f order) e in
    let s = look_from f r.0 order r.1 in
    (s.0, r.0, s.2, eqb-true r.0.id b r.2, s.1)

pub order_looks : (f : ℕ → Option Look) (a b : ℕ) (order : List ℕ) → in_order a b (filter_map f order) ≡ true → (i : ℕ) × (j : ℕ) × (l : Look) × (m : Look) × (f i ≡ Some l) × (l.id ≡ a) × (f j ≡ Some m) × (m.id ≡ b) × Ordered i j order
order_looks f a b [] e = absurd (true≢false (sym e))
order_looks f a b (k ∷ ks) e = ⊎_elim
    (λ r. let s = any_own f b ks r.3 in (k, s.0, r.0, s.1, r.1, r.2, s.2, s.3, inl (refl, s.4)))
    (λ t. let r = order_looks f a b ks t in (r.0, r.1, r.2, r.3, r.4, r.5, r.6, r.7, inr r.8))
    (order_cons a b (f k) (filter_map f ks) e)

-- what shows the same has no change
unchanged : (o p : Option Look) (x y : ℤ) → o ≡ p → has_pixel (changed o p) x y ≡ false
unchanged None None x y e = refl
unchanged None (Some m) x y e = cc
unchanged (Some l) None x y e = cc
unchanged (Some l) (Some m) x y e = let s : l ≡ m = cc in ap (λ t. has_pixel (if t then [] else l.area ∷ (m.area ∷ [])) x y) (ap (is_same l) (sym s) ∙ same_self l)

-- what is not among these shows what it did
pub record Keeps (touched : List ℕ) (all : List Showing) : Type 0 where
  pub same : (place : ℕ) → is_marked touched place ≡ false → (showing all place).was ≡ (showing all place).now

-- whether the pixel lies in the areas of what changed in a place
abbrev pub changes_at : List Showing → ℤ → ℤ → ℕ → Bool
changes_at all x y k = has_pixel (changed_in (showing all k)) x y

pub changed_touched : (all : List Showing) (touched : List ℕ) (x y : ℤ) → Keeps touched all → (k : ℕ) → changes_at all x y k ≡ true → is_marked touched k ≡ true
changed_touched all touched x y keeps k e = go (is_marked touched k) refl where
  go : (b : Bool) → is_marked touched k ≡ b → is_marked touched k ≡ true
  go true q = q
  go false q = absurd (true≢false (sym e ∙ unchanged (showing all k).was (showing all k).now x y (keeps.same k q)))
