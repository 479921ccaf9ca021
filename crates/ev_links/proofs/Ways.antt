-- Ways along a function that leads from each object to the next one, if there is one.
use Rattle.std.proofs.Common.{◌≡◌, ◌≢◌, ℕ, ◌<◌, ◌≤◌, ◌+◌, ◌-◌, zero, suc, Bool, true, false, List, [], ◌∷◌, Option, Some, None, ◌⊎◌, inl, inr, length, refl, sym, subst, ◌∙◌, ap, arith, eq-eqb, ◌==◌, ◌||◌}
use Rattle.std.proofs.lemmas.Bool.Decides.{nat_tests, eqb_tells}
use Rattle.std.proofs.lemmas.Option.{same_Some}
use Rattle.std.specs.Prelude.{slice_get}
use Rattle.ev_links.specs.Ties.{IsWay, Has, IsDistinct, walk, step_up, has}

neq-eqb : (a b : ℕ) → a ≢ b → (a == b) ≡ false
neq-eqb a b differ = grind (arith, nat_tests)

none_some : {A : Type 0} (o : Option A) (x : A) → o ≡ None → o ≡ Some x → ⊥
none_some o x none some = cc

-- there is one way from each object at most
pub one_way : (next : ℕ → Option ℕ) (id : ℕ) (xs ys : List ℕ) → IsWay next id xs → IsWay next id ys → xs ≡ ys
one_way next id [] [] p q = refl
one_way next id [] (y ∷ ys) p q = absurd (none_some (next id) y p q.0)
one_way next id (x ∷ xs) [] p q = absurd (none_some (next id) x q p.0)
one_way next id (x ∷ xs) (y ∷ ys) p q =
    let same : x ≡ y = same_Some x y (sym p.0 ∙ q.0) in
    let later : xs ≡ ys = one_way next y xs ys (subst (λ n. IsWay next n xs) same p.1) q.1 in
    cc

-- the way from an object that a way meets is shorter
pub shorter : (next : ℕ → Option ℕ) (id : ℕ) (xs : List ℕ) (met : ℕ) → IsWay next id xs → Has met xs → (ys : List ℕ) × (IsWay next met ys × (length ys < length xs))
shorter next id [] met p h = absurd h
shorter next id (x ∷ xs) met p h =
    elim h [
      | inl same ↦ (xs, (subst (λ n. IsWay next n xs) same p.1, omega arith))
      | inr later ↦ let tail = shorter next x xs met p.1 later in (tail.0, (tail.1.0, let short = tail.1.1 in omega (arith, short)))
    ]

-- no way comes back to where it began
pub no_return : (next : ℕ → Option ℕ) (id : ℕ) (xs : List ℕ) → IsWay next id xs → ¬ Has id xs
no_return next id xs p h =
    let tail = shorter next id xs id p h in
    let same = ap length (one_way next id xs tail.0 p tail.1.0) in
    let short = tail.1.1 in
    omega (arith, same, short)

-- a way has no repeats
pub no_repeats : (next : ℕ → Option ℕ) (id : ℕ) (xs : List ℕ) → IsWay next id xs → IsDistinct (id ∷ xs)
no_repeats next id [] p = (λ h. h, tt)
no_repeats next id (x ∷ xs) p = (no_return next id (x ∷ xs) p, no_repeats next x xs p.1)

-- a way stays where the objects on it lead on as before
pub same_way : (next new : ℕ → Option ℕ) (id : ℕ) (xs : List ℕ) → (new id ≡ next id) → ((q : ℕ) → Has q xs → new q ≡ next q) → IsWay next id xs → IsWay new id xs
same_way next new id [] here same p = here ∙ p
same_way next new id (x ∷ xs) here same p = (here ∙ p.0, same_way next new x xs (same x (inl refl)) (λ q h. same q (inr h)) p.1)

-- all other ways end where the way from one object does, though that leads elsewhere
ends_changed : (next new : ℕ → Option ℕ) (id : ℕ) (way : List ℕ) → IsWay new id way → ((q : ℕ) → q ≢ id → new q ≡ next q)
    → (x : ℕ) (xs : List ℕ) → IsWay next x xs → (ys : List ℕ) × IsWay new x ys
ends_changed next new id way here others x [] q =
    elim (eqb_tells x id) [
      | inl same ↦ (way, subst (λ n. IsWay new n way) (sym same.1) here)
      | inr differ ↦ ([], others x differ.1 ∙ q)
    ]
ends_changed next new id way here others x (y ∷ ys) q =
    let later = ends_changed next new id way here others y ys q.1 in
    elim (eqb_tells x id) [
      | inl same ↦ (way, subst (λ n. IsWay new n way) (sym same.1) here)
      | inr differ ↦ (y ∷ later.0, (others x differ.1 ∙ q.0, later.1))
    ]

-- Ways end where one object is led to another whose way doesn't meet it.
pub ends_led : (next new : ℕ → Option ℕ) (id to : ℕ) (way : List ℕ) → IsWay next to way → ¬ Has id (to ∷ way) → new id ≡ Some to → ((q : ℕ) → q ≢ id → new q ≡ next q)
    → (x : ℕ) (xs : List ℕ) → IsWay next x xs → (ys : List ℕ) × IsWay new x ys
ends_led next new id to way p away here others =
    let kept : IsWay new to way = same_way next new to way (others to (λ e. away (inl e))) (λ n h. others n (λ e. away (inr (subst (λ m. Has m way) e h)))) p in
    ends_changed next new id (to ∷ way) (here, kept) others

-- Ways end where one object is led nowhere.
pub ends_cut : (next new : ℕ → Option ℕ) (id : ℕ) → new id ≡ None → ((q : ℕ) → q ≢ id → new q ≡ next q)
    → (x : ℕ) (xs : List ℕ) → IsWay next x xs → (ys : List ℕ) × IsWay new x ys
ends_cut next new id here others = ends_changed next new id [] here others

-- what an object may be led to so that ways still end: as before, nowhere, or further along its way
abbrev pub Shortens : (ℕ → Option ℕ) → (ℕ → Option ℕ) → ℕ → Type 0
Shortens next new id = (new id ≡ next id) ⊎ (new id ≡ None) ⊎ ((to : ℕ) × ((new id ≡ Some to) × ((way : List ℕ) → IsWay next id way → Has to way)))

ends_shortened_from : (next new : ℕ → Option ℕ) → ((id : ℕ) → Shortens next new id)
    → (steps : ℕ) (x : ℕ) (xs : List ℕ) → length xs < steps → IsWay next x xs → (ys : List ℕ) × IsWay new x ys
ends_shortened_from next new short zero x xs few q = absurd (omega arith)
ends_shortened_from next new short (suc steps) x xs few q =
    elim (short x) [
      | inl same ↦ along x xs (ends_shortened_from next new short steps) few q same
      | inr other ↦ elim other [
        | inl none ↦ ([], none)
        | inr led ↦
            let tail = shorter next x xs led.0 q (led.1.1 xs q) in
            let fewer = tail.1.1 in
            let later = ends_shortened_from next new short steps led.0 tail.0 (omega (arith, few, fewer)) tail.1.0 in
            (led.0 ∷ later.0, (led.1.0, later.1))
      ]
    ]
  where
    along : (x : ℕ) (xs : List ℕ) → ((y : ℕ) (ys : List ℕ) → length ys < steps → IsWay next y ys → (zs : List ℕ) × IsWay new y zs) → length xs < suc steps → IsWay next x xs → new x ≡ next x → (ys : List ℕ) × IsWay new x ys
    along x [] later few q same = ([], same ∙ q)
    along x (y ∷ ys) later few q same =
        let rest = later y ys (omega (arith, few)) q.1 in
        (y ∷ rest.0, (same ∙ q.0, rest.1))

-- Ways end where each object is led as before, nowhere, or further along its way.
pub ends_shortened : (next new : ℕ → Option ℕ) → ((id : ℕ) → Shortens next new id) → (x : ℕ) (xs : List ℕ) → IsWay next x xs → (ys : List ℕ) × IsWay new x ys
ends_shortened next new short x xs q = ends_shortened_from next new short (suc (length xs)) x xs (omega arith) q

-- a walk of enough steps is the object and its way
pub walk-IsWay : (next : ℕ → Option ℕ) (id : ℕ) (xs : List ℕ) (steps : ℕ) → IsWay next id xs → length xs < steps → walk next steps (Some id) ≡ id ∷ xs
walk-IsWay next id xs zero p few = absurd (omega arith)
walk-IsWay next id [] (suc zero) p few = refl
walk-IsWay next id [] (suc (suc steps)) p few = rw p refl
walk-IsWay next id (x ∷ xs) (suc steps) p few = rw p.0 (ap (λ rest. id ∷ rest) (walk-IsWay next x xs steps p.1 (omega (arith, few))))

-- the test for a number of a list
pub has-Has : (xs : List ℕ) (id : ℕ) → Has id xs → has xs id ≡ true
has-Has [] id h = absurd h
has-Has (x ∷ xs) id h = elim h [ inl same ↦ rw (eq-eqb x id same) refl | inr later ↦ rw (has-Has xs id later) (or_true (x == id)) ]
  where
    or_true : (b : Bool) → (b || true) ≡ true
    or_true true = refl
    or_true false = refl

pub not_Has : (xs : List ℕ) (id : ℕ) → has xs id ≡ false → ¬ Has id xs
not_Has xs id fails h = let holds = has-Has xs id h in cc

pub none_done : (n : ℕ) → n - 0 ≡ n
none_done n = omega arith

left_more : (at end : ℕ) → at < end → end - at ≡ suc (end - (at + 1))
left_more at end below = omega arith

none_left : (at end : ℕ) → end ≤ at → end - at ≡ 0
none_left at end done = omega arith

-- one step of a search along a walk: found, further on, or at the end
pub search_found : (next : ℕ → Option ℕ) (counter end place id : ℕ) (known : Bool) → counter < end → has (walk next (end - counter) (Some place)) id ≡ known → place ≡ id → true ≡ known
search_found next counter end place id known below same found =
    let all : has (walk next (suc (end - (counter + 1))) (Some place)) id ≡ known = rw (left_more counter end below) at same in
    rw (eq-eqb place id found) at all

pub search_on : (next : ℕ → Option ℕ) (counter end place id : ℕ) (known : Bool) → counter < end → has (walk next (end - counter) (Some place)) id ≡ known → place ≢ id → has (walk next (end - (counter + 1)) (next place)) id ≡ known
search_on next counter end place id known below same differ =
    let all : has (walk next (suc (end - (counter + 1))) (Some place)) id ≡ known = rw (left_more counter end below) at same in
    rw (neq-eqb place id differ) at all

pub search_ended : (next : ℕ → Option ℕ) (counter end id : ℕ) (known : Bool) → counter < end → has (walk next (end - counter) None) id ≡ known → false ≡ known
search_ended next counter end id known below same =
    rw (left_more counter end below) at same

pub search_over : (next : ℕ → Option ℕ) (counter end id : ℕ) (cursor : Option ℕ) (known : Bool) → end ≤ counter → has (walk next (end - counter) cursor) id ≡ known → false ≡ known
search_over next counter end id cursor known over same =
    rw (none_left counter end over) at same

-- one step of a count along a walk
pub step_on : (next : ℕ → Option ℕ) (counter end place : ℕ) (known : Option ℕ) → counter < end → step_up next (end - counter) (Some place) ≡ known → step_up next (end - (counter + 1)) (next place) ≡ known
step_on next counter end place known below same = rw (left_more counter end below) at same

pub step_ended : (next : ℕ → Option ℕ) (counter end : ℕ) (known : Option ℕ) → counter < end → step_up next (end - counter) None ≡ known → None ≡ known
step_ended next counter end known below same = rw (left_more counter end below) at same

pub step_over : (next : ℕ → Option ℕ) (counter end : ℕ) (cursor known : Option ℕ) → end ≤ counter → step_up next (end - counter) cursor ≡ known → cursor ≡ known
step_over next counter end cursor known over same = rw (none_left counter end over) at same

-- the object at a place of a whole list is where so many steps lead
pub step_up-IsWay : (next : ℕ → Option ℕ) (id : ℕ) (way : List ℕ) (place : ℕ) → IsWay next id way → step_up next place (Some id) ≡ slice_get (id ∷ way) place
step_up-IsWay next id way zero p = refl
step_up-IsWay next id [] (suc place) p = rw p (nowhere place)
  where
    nowhere : (place : ℕ) → step_up next place None ≡ slice_get [] place
    nowhere zero = refl
    nowhere (suc place) = refl
step_up-IsWay next id (x ∷ xs) (suc place) p = rw p.0 (step_up-IsWay next x xs place p.1)
