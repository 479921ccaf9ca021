-- Places of looks in a list.
use Rattle.std.proofs.Common.{◌≡◌, ◌≢◌, ℕ, zero, suc, ◌+◌, ◌<◌, ⊎_elim, Bool, true, false, cond, ◌&&◌, ◌||◌, ◌==◌, is_some, List, [], ◌∷◌, map, length, get_or, Some, None, refl, sym, ap, ap₂, ◌∙◌, arith}
use Rattle.std.proofs.lemmas.Bool.{eqb-true, eq-eqb, ne_eqb, cases_lt}
use Rattle.std.proofs.lemmas.List.Folds.{list_any_none}
use Rattle.std.proofs.lemmas.Grind.{common_steps}
use Rattle.std.specs.List.{list_any, position_from}
use Rattle.ev_model.specs.Look.{Look, look_of}
use Rattle.ev_model.specs.declared.scene.Record.{Record}
use Rattle.ev_damage.specs.Same.{same_look}
use Rattle.ev_damage.specs.Damage.{is_kept}
use Rattle.ev_damage.specs.Places.{look_ids, HaveOwnIds, place_of_id, place_of}
use Rattle.ev_damage.proofs.Members.{neither}
use Rattle.ev_damage.proofs.Staying.{id_of}

-- the first element that passes: it passes, and none before it does
pub record IsFirst {X : Type 0} (p : X → Bool) (n : ℕ) (xs : List X) (at : ℕ) : Type 0 where
  pub k : ℕ
  pub place : at ≡ n + k
  pub within : k < length xs
  pub passes : (d : X) → p (get_or xs k d) ≡ true
  pub before : (j : ℕ) (d : X) → j < k → p (get_or xs j d) ≡ false

first_step : {X : Type 0} (p : X → Bool) (n : ℕ) (x : X) (xs : List X) (at : ℕ) (b : Bool) → p x ≡ b → (position_from p (n + 1) xs ≡ Some at → IsFirst p (n + 1) xs at) → cond b (Some n) (position_from p (n + 1) xs) ≡ Some at → IsFirst p n (x ∷ xs) at
first_step p n x xs at true e rest h = let s : n ≡ at = cc in record { k = 0; place = omega (arith, s); within = omega arith; passes = λ d. e; before = λ j d l. absurd (omega (arith, l)) }
first_step {X} p n x xs at false e rest h = let r = rest h in record {
  k = suc r.k;
  place = omega (arith, r.place);
  within = omega (arith, r.within);
  passes = r.passes;
  before = λ j d l. go j d l r.before;
} where
  go : (j : ℕ) (d : X) {k : ℕ} → j < suc k → ((j : ℕ) (d : X) → j < k → p (get_or xs j d) ≡ false) → p (get_or (x ∷ xs) j d) ≡ false
  go zero d l before = e
  go (suc j) d l before = before j d (omega (arith, l))

pub first_is : {X : Type 0} (p : X → Bool) (n : ℕ) (xs : List X) (at : ℕ) → position_from p n xs ≡ Some at → IsFirst p n xs at
first_is p n [] at h = cc
first_is p n (x ∷ xs) at h = first_step p n x xs at (p x) refl (first_is p (n + 1) xs at) h

-- no element passes
none_step : {X : Type 0} (p : X → Bool) (n : ℕ) (xs : List X) (b : Bool) → (position_from p (n + 1) xs ≡ None → list_any p xs ≡ false) → cond b (Some n) (position_from p (n + 1) xs) ≡ None → (b || list_any p xs) ≡ false
none_step p n xs true rest h = cc
none_step p n xs false rest h = rest h

pub none_is : {X : Type 0} (p : X → Bool) (n : ℕ) (xs : List X) → position_from p n xs ≡ None → list_any p xs ≡ false
none_is p n [] h = refl
none_is p n (x ∷ xs) h = none_step p n xs (p x) (none_is p (n + 1) xs) h

pub is_none : {X : Type 0} (p : X → Bool) (n : ℕ) (xs : List X) → list_any p xs ≡ false → position_from p n xs ≡ None
is_none p n [] h = refl
is_none p n (x ∷ xs) h = let r = neither (p x) (list_any p xs) h in rw r.0 (is_none p (n + 1) xs r.1)

-- the first place of one that passes
pub is_first : {X : Type 0} (p : X → Bool) (n : ℕ) (xs : List X) (k : ℕ) → k < length xs → ((d : X) → p (get_or xs k d) ≡ true) → ((j : ℕ) (d : X) → j < k → p (get_or xs j d) ≡ false) → position_from p n xs ≡ Some (n + k)
is_first p n [] k l h before = absurd (omega (arith, l))
is_first p n (x ∷ xs) zero l h before = rw (h x) (ap Some (omega arith))
is_first p n (x ∷ xs) (suc k) l h before = rw (before 0 x (omega arith)) (is_first p (n + 1) xs k (omega (arith, l)) h (λ j d m. before (suc j) d (omega (arith, m))) ∙ ap Some (omega arith))

-- a look is kept where it has a place
kept_step : {X : Type 0} (p : X → Bool) (n : ℕ) (xs : List X) (b : Bool) → is_some (position_from p (n + 1) xs) ≡ list_any p xs → is_some (cond b (Some n) (position_from p (n + 1) xs)) ≡ (b || list_any p xs)
kept_step p n xs true rest = refl
kept_step p n xs false rest = rest

pub some_is : {X : Type 0} (p : X → Bool) (n : ℕ) (xs : List X) → is_some (position_from p n xs) ≡ list_any p xs
some_is p n [] = refl
some_is p n (x ∷ xs) = kept_step p n xs (p x) (some_is p (n + 1) xs)

-- the ids of looks
pub id_at : (looks : List Look) (k : ℕ) (d : Look) → get_or (look_ids looks) k (id_of d) ≡ id_of (get_or looks k d)
id_at looks k d = grind (arith, common_steps)

pub apart : (looks : List Look) (j k : ℕ) (d : Look) → HaveOwnIds looks → j < k → k < length looks → id_of (get_or looks j d) ≢ id_of (get_or looks k d)
apart looks j k d own lt inside =
    let long : k < length (look_ids looks) = grind (arith, common_steps, inside) in
    rw (id_at looks j d, id_at looks k d) at (own.differ j k (id_of d) lt long)

-- an id that is not found has no equal look
pub place_none : (others : List Look) (l : Look) → place_of_id others (id_of l) ≡ None → place_of others l ≡ None
place_none others l h = is_none (λ m. m.id == l.id && same_look l m) 0 others (off others (none_is (λ m. m.id == l.id) 0 others h))
  where
    off : (ms : List Look) → list_any (λ m. m.id == l.id) ms ≡ false → list_any (λ m. m.id == l.id && same_look l m) ms ≡ false
    off [] h = refl
    off (m ∷ ms) h = let r = neither (m.id == l.id) (list_any (λ m. m.id == l.id) ms) h in
        ap₂ ◌||◌ (ap (λ t. t && same_look l m) r.0) (off ms r.1)

-- the look that is found is equal, or none is
pub place_some : (others : List Look) (l : Look) (at : ℕ) (d : Look) → place_of_id others (id_of l) ≡ Some at → same_look l (get_or others at d) ≡ true → place_of others l ≡ Some at
place_some others l at d h same =
    let f = first_is (λ m. m.id == l.id) 0 others at h in
    let e : f.k ≡ at = omega (arith, f.place) in
    let here : get_or others at d ≡ get_or others f.k d = ap (λ k. get_or others k d) (sym e) in
    is_first (λ m. m.id == l.id && same_look l m) 0 others f.k f.within
    (λ u. (let s : get_or others f.k u ≡ get_or others f.k d = get_or_default others f.k u d f.within in
    ap₂ ◌&&◌ (f.passes u) (ap (same_look l) (s ∙ sym here) ∙ same)))
    (λ j u m. ap (λ t. t && same_look l (get_or others j u)) (f.before j u m))
    ∙ ap Some (omega (arith, e))
  where
    get_or_default : (xs : List Look) (k : ℕ) (u d : Look) → k < length xs → get_or xs k u ≡ get_or xs k d
    get_or_default xs k u d inside = grind (arith, common_steps)

pub place_other : (others : List Look) (l : Look) (at : ℕ) (d : Look) → HaveOwnIds others → place_of_id others (id_of l) ≡ Some at → same_look l (get_or others at d) ≡ false → place_of others l ≡ None
place_other others l at d own h differ =
    let f = first_is (λ m. m.id == l.id) 0 others at h in
    let e : f.k ≡ at = omega (arith, f.place) in
    is_none (λ m. m.id == l.id && same_look l m) 0 others (list_any_none (λ m. m.id == l.id && same_look l m) others (λ j u inside.
    ⊎_elim
    (λ lt. ap (λ t. t && same_look l (get_or others j u)) (f.before j u lt))
    (λ ge. ⊎_elim
    (λ le. (let s : j ≡ at = omega (arith, e, ge, le) in
    let t : get_or others j u ≡ get_or others at d = ap (λ k. get_or others k u) s ∙ get_or_default others at u d (omega (arith, f.within, e)) in
    and_false' ((get_or others j u).id == l.id) (same_look l (get_or others j u)) (ap (same_look l) t ∙ differ)))
    (λ gt. (let n : (get_or others j u).id ≢ l.id = λ s. apart others f.k j u own (omega (arith, gt)) inside (eqb-true (get_or others f.k u).id l.id (f.passes u) ∙ sym s) in
    ap (λ t. t && same_look l (get_or others j u)) (ne_eqb (get_or others j u).id l.id n)))
    (cases_lt j (f.k + 1)))
    (cases_lt j f.k)))
  where
    get_or_default : (xs : List Look) (k : ℕ) (u d : Look) → k < length xs → get_or xs k u ≡ get_or xs k d
    get_or_default xs k u d inside = grind (arith, common_steps)

    and_false' : (a b : Bool) → b ≡ false → (a && b) ≡ false
    and_false' true b e = e
    and_false' false b e = refl

pub found_within : (others : List Look) (id at : ℕ) → place_of_id others id ≡ Some at → at < length others
found_within others id at h = let f = first_is (λ m. m.id == id) 0 others at h in omega (arith, f.within, f.place)

pub found_in_map : (others : List Record) (id at : ℕ) → place_of_id (map look_of others) id ≡ Some at → at < length others
found_in_map others id at h = let w = found_within (map look_of others) id at h in grind (arith, common_steps, w)

pub record_at : (others : List Record) (at : ℕ) (d : Record) → get_or (map look_of others) at (look_of d) ≡ look_of (get_or others at d)
record_at others at d = grind (arith, common_steps)

pub place_same : (others : List Record) (l : Look) (at : ℕ) (d : Record) → place_of_id (map look_of others) (id_of l) ≡ Some at → same_look l (look_of (get_or others at d)) ≡ true → place_of (map look_of others) l ≡ Some at
place_same others l at d h same = place_some (map look_of others) l at (look_of d) h (ap (same_look l) (record_at others at d) ∙ same)

pub place_differs : (others : List Record) (l : Look) (at : ℕ) (d : Record) → HaveOwnIds (map look_of others) → place_of_id (map look_of others) (id_of l) ≡ Some at → same_look l (look_of (get_or others at d)) ≡ false → place_of (map look_of others) l ≡ None
place_differs others l at d own h differ = place_other (map look_of others) l at (look_of d) own h (ap (same_look l) (record_at others at d) ∙ differ)

-- the place that was guessed
pub place_guessed : (others : List Record) (id at : ℕ) (d : Record) → HaveOwnIds (map look_of others) → at < length others → (get_or others at d).id ≡ id → place_of_id (map look_of others) id ≡ Some at
place_guessed others id at d own inside same =
    let looks : List Look = map look_of others in
    let long : at < length looks = grind (arith, common_steps, inside) in
    let here : (e : Look) → get_or looks at e ≡ look_of (get_or others at d) = λ e. any_look looks at e (look_of d) long ∙ record_at others at d in
    is_first (λ m. m.id == id) 0 looks at long
    (λ e. eq-eqb (get_or looks at e).id id (ap (λ l. l.id) (here e) ∙ same))
    (λ j e low. ne_eqb (get_or looks j e).id id (λ both. apart looks j at e own low long (both ∙ sym same ∙ ap (λ l. l.id) (sym (here e)))))
    ∙ ap Some (omega arith)
  where
    any_look : (xs : List Look) (k : ℕ) (u d : Look) → k < length xs → get_or xs k u ≡ get_or xs k d
    any_look xs k u d inside = grind (arith, common_steps)

-- the place of the first record that passes is that of its look
pub place_found : (n : ℕ) (others : List Record) (id : ℕ) → position_from (λ r. r.id == id) n others ≡ position_from (λ l. l.id == id) n (map look_of others)
place_found n [] id = refl
place_found n (r ∷ others) id = ap (λ o. cond (r.id == id) (Some n) o) (place_found (n + 1) others id)

-- a look that is kept has the place of its object
pub place_kept : (others : List Record) (l : Look) (at : ℕ) (d : Record) → HaveOwnIds (map look_of others) → place_of_id (map look_of others) (id_of l) ≡ Some at → is_kept (map look_of others) l ≡ true → place_of (map look_of others) l ≡ Some at
place_kept others l at d own h kept = by_test (same_look l (look_of (get_or others at d))) refl
  where
    by_test : (b : Bool) → same_look l (look_of (get_or others at d)) ≡ b → place_of (map look_of others) l ≡ Some at
    by_test true e = place_same others l at d h e
    by_test false e =
        let none = place_differs others l at d own h e in
        absurd (let never : false ≡ true = sym (ap is_some none) ∙ some_is (λ m. m.id == l.id && same_look l m) 0 (map look_of others) ∙ kept in cc)

pub none_kept : (others : List Look) (l : Look) → None ≡ place_of_id others (id_of l) → None ≡ place_of others l
none_kept others l none = sym (place_none others l (sym none))
