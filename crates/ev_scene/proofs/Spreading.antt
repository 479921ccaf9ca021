-- Objects that are put at their ids, one after another.
use Rattle.std.proofs.Common.{◌≡◌, ℕ, zero, suc, ◌+◌, ◌-◌, ◌<◌, true, false, ◌||◌, ◌==◌, List, [], ◌∷◌, ◌++◌, All, length, get_or, map, Option, Some, None, if◌then◌else◌, refl, sym, ap, ap₂, ◌∙◌, subst, inl, inr, arith, eq-eqb}
use Rattle.ev_stack.proofs.Lists.{neq-eqb}
use Rattle.std.specs.Prelude.{filter_map}
use Rattle.std.specs.List.{cons_option}
use Rattle.std.specs.Option.{option_map}
use Rattle.std.proofs.lemmas.Option.{none-some}
use Rattle.std.proofs.lemmas.Bool.Decides.{eqb_tells}
use Rattle.std.proofs.lemmas.List.{map-set, map-append, length-append, length-set}
use Rattle.ev_state.specs.Held.{Held}
use Rattle.ev_model.specs.declared.object.Object.{Object}
use Rattle.ev_links.specs.Ties.{has}
use Rattle.ev_scene.specs.Ids.{of_id, put, spread, value_of}
use Rattle.ev_scene.specs.Board.{values_of}
use Rattle.ev_scene.specs.Roll.{name_at, IsStateOf}
use Rattle.ev_scene.proofs.Places.{of_id_put}

-- the last one is put first
pub spread_end : (objects : List Object) (o : Object) (slots : List (Option Object)) → spread (objects ++ o ∷ []) slots ≡ spread objects (put slots o.id (Some o))
spread_end [] o slots = refl
spread_end (p ∷ objects) o slots = ap (λ slots. put slots p.id (Some p)) (spread_end objects o slots)

pub values_put : (states : List (Option (Held Object))) (id : ℕ) (slot : Option (Held Object)) → values_of (put states id slot) ≡ put (values_of states) id (option_map value_of slot)
values_put states id slot = map-set (λ slot. option_map value_of slot) states (id - 1) slot

-- one state put where others were to be put before it
pub spread_on : (items rest : List (Held Object)) (t : Held Object) (states states' : List (Option (Held Object))) (all : List (Option Object)) → items ≡ rest ++ t ∷ [] → states' ≡ put states t.value.id (Some t)
    → spread (map value_of items) (values_of states) ≡ all → spread (map value_of rest) (values_of states') ≡ all
spread_on items rest t states states' all e f so_far =
    ap (λ states. spread (map value_of rest) (values_of states)) f ∙ ap (spread (map value_of rest)) (values_put states t.value.id (Some t))
    ∙ sym (ap (λ items. spread (map value_of items) (values_of states)) e ∙ ap (λ objects. spread objects (values_of states)) (map-append value_of rest (t ∷ [])) ∙ spread_end (map value_of rest) t.value (values_of states))
    ∙ so_far

-- the names stay where a state of the same name is put
names_stay : (states : List (Option (Held Object))) (t : Held Object) → IsStateOf states t → (q : ℕ) → name_at (put states t.value.id (Some t)) q ≡ name_at states q
names_stay states t there q = go (of_id states t.value.id) refl there where
  go : (found : Option (Held Object)) → of_id states t.value.id ≡ found → option_map (λ s. s.value.name) found ≡ Some t.value.name → name_at (put states t.value.id (Some t)) q ≡ name_at states q
  go None e f = absurd (none-some t.value.name f)
  go (Some s) e f = ap (option_map (λ s. s.value.name)) (of_id_put states t.value.id q s (Some t) e) ∙ elim (eqb_tells q t.value.id) [
    | inl same ↦ rw same.0 (sym f ∙ sym (ap (name_at states) same.1 ∙ ap (option_map (λ s. s.value.name)) e))
    | inr differ ↦ rw differ.0 refl
  ]

pub still_states : (items rest : List (Held Object)) (t : Held Object) (states states' : List (Option (Held Object))) → items ≡ rest ++ t ∷ [] → states' ≡ put states t.value.id (Some t) → IsStateOf states t
    → All (IsStateOf states) items → All (IsStateOf states') rest
still_states items rest t states states' e f there all k d h =
    let stay : (q : ℕ) → name_at states' q ≡ name_at states q = λ q. ap (λ states. name_at states q) f ∙ names_stay states t there q in
    let low : k < length items = let more : length items ≡ length rest + 1 = ap length e ∙ length-append rest (t ∷ []) in omega (arith, h, more) in
    let old : IsStateOf states (get_or rest k d) = subst (λ s. IsStateOf states s) (ap (λ items. get_or items k d) e ∙ get_front rest k d h) (all k d low) in
    stay (get_or rest k d).value.id ∙ old
  where
    get_front : (rest : List (Held Object)) (k : ℕ) (d : Held Object) → k < length rest → get_or (rest ++ t ∷ []) k d ≡ get_or rest k d
    get_front [] k d h = absurd (omega (arith, h))
    get_front (s ∷ rest) zero d h = refl
    get_front (s ∷ rest) (suc k) d h = get_front rest k d (omega (arith, h))

pub last_state : (items rest : List (Held Object)) (t : Held Object) (states : List (Option (Held Object))) → items ≡ rest ++ t ∷ [] → All (IsStateOf states) items → IsStateOf states t
last_state items rest t states e all =
    let low : length rest < length items = let more : length items ≡ length rest + 1 = ap length e ∙ length-append rest (t ∷ []) in omega (arith, more) in
    subst (λ s. IsStateOf states s) (ap (λ items. get_or items (length rest) t) e ∙ get_last rest) (all (length rest) t low)
  where
    get_last : (rest : List (Held Object)) → get_or (rest ++ t ∷ []) (length rest) t ≡ t
    get_last [] = refl
    get_last (s ∷ rest) = get_last rest

-- objects that are made of some that stand at their ids, put there: each of those ids stands for what was made
pub spread_at : (f : Object → Object) → ((o : Object) → (f o).id ≡ o.id) → (objects : List Object) (slots : List (Option Object)) → All (λ o. of_id slots o.id ≡ Some o) objects
    → (q : ℕ) → of_id (spread (map f objects) slots) q ≡ option_map (λ o. if has (map (λ o. o.id) objects) q then f o else o) (of_id slots q)
spread_at f keeps [] slots there q = as_is (of_id slots q) where
  as_is : (slot : Option Object) → slot ≡ option_map (λ o. o) slot
  as_is None = refl
  as_is (Some o) = refl
spread_at f keeps (p ∷ objects) slots there q =
    let here : of_id slots p.id ≡ Some p = there 0 p (omega arith) in
    let rest : (q : ℕ) → of_id (spread (map f objects) slots) q ≡ option_map (λ o. if has (map (λ o. o.id) objects) q then f o else o) (of_id slots q) = spread_at f keeps objects slots (λ k d h. there (suc k) d (omega (arith, h))) in
    ap (λ id. of_id (put (spread (map f objects) slots) id (Some (f p))) q) (keeps p)
    ∙ of_id_put (spread (map f objects) slots) p.id q _ (Some (f p)) (rest p.id ∙ ap (option_map (λ o. if has (map (λ o. o.id) objects) p.id then f o else o)) here)
    ∙ elim (eqb_tells q p.id) [
      | inl same ↦
          let test : (p.id == q) ≡ true = eq-eqb p.id q (sym same.1) in
          rw same.0 (sym (ap₂ (λ b slot. option_map (λ o. if b || has (map (λ o. o.id) objects) q then f o else o) slot) test (ap (of_id slots) same.1 ∙ here)))
      | inr differ ↦
          let other : (p.id == q) ≡ false = neq-eqb p.id q (λ e. differ.1 (sym e)) in
          rw differ.0 (rest q ∙ sym (ap (λ b. option_map (λ o. if b || has (map (λ o. o.id) objects) q then f o else o) (of_id slots q)) other))
    ]

pub length-spread : (objects : List Object) (slots : List (Option Object)) → length (spread objects slots) ≡ length slots
length-spread [] slots = refl
length-spread (o ∷ objects) slots = length-set (spread objects slots) (o.id - 1) (Some o) ∙ length-spread objects slots

module _ (slots : List (Option Object)) (own : (id : ℕ) (o : Object) → of_id slots id ≡ Some o → o.id ≡ id) where
  -- what some ids stand for stands at its ids
  pub listed_stand : (ids : List ℕ) → All (λ o. of_id slots o.id ≡ Some o) (filter_map (of_id slots) ids)
  listed_stand [] k d h = absurd (omega (arith, h))
  listed_stand (x ∷ ids) k d h = go (of_id slots x) refl (listed_stand ids) k d h where
    go : (f : Option Object) → of_id slots x ≡ f → All (λ o. of_id slots o.id ≡ Some o) (filter_map (of_id slots) ids) → All (λ o. of_id slots o.id ≡ Some o) (cons_option f (filter_map (of_id slots) ids))
    go None e all k d h = all k d h
    go (Some o) e all zero d h = ap (of_id slots) (own x o e) ∙ e
    go (Some o) e all (suc k) d h = all k d (omega (arith, h))

  -- what is there stands among what some ids stand for where its id is one of them
  pub has_listed : (ids : List ℕ) (q : ℕ) (p : Object) → of_id slots q ≡ Some p → has (map (λ o. o.id) (filter_map (of_id slots) ids)) q ≡ has ids q
  has_listed [] q p there = refl
  has_listed (x ∷ ids) q p there = go (of_id slots x) refl (has_listed ids q p there) where
    go : (f : Option Object) → of_id slots x ≡ f → has (map (λ o. o.id) (filter_map (of_id slots) ids)) q ≡ has ids q → has (map (λ o. o.id) (cons_option f (filter_map (of_id slots) ids))) q ≡ (x == q || has ids q)
    go None e later = elim (eqb_tells x q) [
      | inl same ↦ absurd (none-some p (sym e ∙ ap (of_id slots) same.1 ∙ there))
      | inr differ ↦ rw differ.0 later
    ]
    go (Some o) e later = ap₂ (λ id b. id == q || b) (own x o e) later
