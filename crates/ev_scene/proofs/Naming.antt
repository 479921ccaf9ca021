-- Objects by their names.
use Rattle.std.proofs.Common.{◌≡◌, ◌↔◌, ℕ, zero, suc, ◌+◌, Bool, true, false, cond, ◌==◌, if◌then◌else◌, List, [], ◌∷◌, ◌++◌, length, Option, Some, None, refl, sym, ap, ◌∙◌, arith, eq-eqb}
use Rattle.std.specs.Option.{option_map}
use Rattle.std.specs.Str.{bytes_eq}
use Rattle.std.proofs.lemmas.Option.{none-some, same_Some}
use Rattle.std.proofs.Math.Bool.{true≢false}
use Rattle.std.specs.Cmp.Lexicographic.{bytes_decides}
use Rattle.std.proofs.lemmas.Bool.{eqb-true}
use Rattle.ev_state.specs.Held.{Held}
use Rattle.ev_model.specs.declared.object.Object.{Object}
use Rattle.ev_scene.specs.Ids.{of_id, put, live, value_of}
use Rattle.ev_scene.specs.Board.{is_named, named, values_of}
use Rattle.ev_scene.specs.Roll.{id_in, name_at, IsRoll}
use Rattle.ev_scene.specs.declared.label.Label.{Label}
use Rattle.ev_scene.proofs.Places.{at_place, of_id_suc, of_id_map, of_id_put, of_id_end, past_end, map_choice, some_choice, found, none_found, live_put, live_taken, live_end}

-- the state of an id, whose object has a name and is found by it
pub record NamedBy (states : List (Option (Held Object))) (name : List ℕ) (id : ℕ) : Type 0 where
  pub state : Held Object
  pub there : of_id states id ≡ Some state
  pub same : state.value.name ≡ name
  pub own : state.value.id ≡ id
  pub first : named (values_of states) name ≡ Some state.value

-- the state of an object that is there, and its name
pub held_at : (states : List (Option (Held Object))) (id : ℕ) (o : Object) → of_id (values_of states) id ≡ Some o → (s : Held Object) × ((of_id states id ≡ Some s) × (s.value ≡ o))
held_at states id o there = go (of_id states id) (sym (of_id_map value_of states id) ∙ there) where
  go : (f : Option (Held Object)) → option_map value_of f ≡ Some o → (s : Held Object) × ((f ≡ Some s) × (s.value ≡ o))
  go None e = absurd (none-some o e)
  go (Some s) e = (s, (refl, same_Some _ _ e))

pub name_held : (states : List (Option (Held Object))) (id : ℕ) (o : Object) → of_id (values_of states) id ≡ Some o → name_at states id ≡ Some o.name
name_held states id o there = let s = held_at states id o there in ap (option_map (λ s. s.value.name)) s.1.0 ∙ ap (λ (o : Object). Some o.name) s.1.1

-- a name that leads to an id is that object's, and one that leads nowhere is no object's
module _ (states : List (Option (Held Object))) (ids : List (Label × ℕ)) (roll : IsRoll states ids) where
  leads_to : (name : List ℕ) (j : ℕ) (o : Object) → at_place (values_of states) j ≡ Some o → is_named name o ≡ true → id_in ids name ≡ Some (suc j)
  leads_to name j o there same = (roll.leads name (suc j)).1 (name_held states (suc j) o (of_id_suc (values_of states) j ∙ there) ∙ ap Some ((bytes_decides o.name name).0 same))

  pub unnamed : (name : List ℕ) → id_in ids name ≡ None → named (values_of states) name ≡ None
  unnamed name nowhere = none_found (is_named name) (values_of states) (λ j o there. fails j o there (is_named name o) refl) where
    fails : (j : ℕ) (o : Object) → at_place (values_of states) j ≡ Some o → (b : Bool) → is_named name o ≡ b → is_named name o ≡ false
    fails j o there true e = absurd (none-some (suc j) (sym nowhere ∙ leads_to name j o there e))
    fails j o there false e = e

  is_named_at : (name : List ℕ) (id : ℕ) (o : Object) → id_in ids name ≡ Some id → of_id (values_of states) id ≡ Some o → o.name ≡ name → named (values_of states) name ≡ Some o
  is_named_at name zero o leads there same = absurd (none-some o there)
  is_named_at name (suc k) o leads there same = found (is_named name) (values_of states) k o (sym (of_id_suc (values_of states) k) ∙ there) ((bytes_decides o.name name).1 same) alone where
    alone : (j : ℕ) (y : Object) → at_place (values_of states) j ≡ Some y → is_named name y ≡ true → j ≡ k
    alone j y at_j passes =
        let e : suc j ≡ suc k = same_Some _ _ (sym (leads_to name j y at_j passes) ∙ leads) in
        omega (arith, e)

  pub named_by : (name : List ℕ) (id : ℕ) → id_in ids name ≡ Some id → NamedBy states name id
  named_by name id leads = go (of_id states id) refl ((roll.leads name id).0 leads) where
    go : (s : Option (Held Object)) → of_id states id ≡ s → option_map (λ s. s.value.name) s ≡ Some name → NamedBy states name id
    go None e f = absurd (none-some name f)
    go (Some s) e f =
        let there : of_id (values_of states) id ≡ Some s.value = of_id_map value_of states id ∙ ap (option_map value_of) e in
        let same : s.value.name ≡ name = same_Some _ _ f in
        record { state = s; there = e; same = same; own = roll.own id s e; first = is_named_at name id s.value leads there same }

  -- a free name leads nowhere
  pub free_name : (name : List ℕ) → named (values_of states) name ≡ None → id_in ids name ≡ None
  free_name name free = go (id_in ids name) refl where
    go : (found : Option ℕ) → id_in ids name ≡ found → id_in ids name ≡ None
    go None e = e
    go (Some id) e = let by : NamedBy states name id = named_by name id e in absurd (none-some by.state.value (sym free ∙ by.first))

  pub own_value : (id : ℕ) (o : Object) → of_id (values_of states) id ≡ Some o → o.id ≡ id
  own_value id o there = let s = held_at states id o there in sym (ap (λ o. o.id) s.1.1) ∙ roll.own id s.0 s.1.0

-- a name and an id, once an object was added: b says whether it has this name, and c whether it has this id
added_leads : (b c : Bool) (n i : ℕ) (new name : List ℕ) (A A' : Option ℕ) (P P' : Option (List ℕ))
    → (b ≡ true → new ≡ name) → (new ≡ name → b ≡ true) → (c ≡ true → i ≡ n) → (i ≡ n → c ≡ true)
    → A' ≡ cond b (Some n) A → P' ≡ (if c then Some new else P)
    → ((A ≡ Some i) ↔ (P ≡ Some name)) → (new ≡ name → A ≡ None) → (i ≡ n → P ≡ None)
    → (A' ≡ Some i) ↔ (P' ≡ Some name)
added_leads true true n i new name A A' P P' b_is is_b c_is is_c a p both free past =
    ((λ h. p ∙ ap Some (b_is refl)), (λ h. a ∙ ap Some (sym (c_is refl))))
added_leads true false n i new name A A' P P' b_is is_b c_is is_c a p both free past = (
  (λ h. absurd (true≢false (sym (is_c (sym (same_Some _ _ (sym a ∙ h))))))),
  (λ h. absurd (none-some i (sym (free (b_is refl)) ∙ both.1 (sym p ∙ h)))),
)
added_leads false true n i new name A A' P P' b_is is_b c_is is_c a p both free past = (
  (λ h. absurd (none-some name (sym (past (c_is refl)) ∙ both.0 (sym a ∙ h)))),
  (λ h. absurd (true≢false (sym (is_b (same_Some _ _ (sym p ∙ h)))))),
)
added_leads false false n i new name A A' P P' b_is is_b c_is is_c a p both free past =
    ((λ h. p ∙ both.0 (sym a ∙ h)), (λ h. a ∙ both.1 (sym p ∙ h)))

-- the same, once the object of an id was removed
removed_leads : (b c : Bool) (id i : ℕ) (gone name : List ℕ) (A A' : Option ℕ) (P P' : Option (List ℕ))
    → (b ≡ true → gone ≡ name) → (gone ≡ name → b ≡ true) → (c ≡ true → i ≡ id) → (i ≡ id → c ≡ true)
    → A' ≡ cond b None A → P' ≡ (if c then None else P)
    → ((A ≡ Some i) ↔ (P ≡ Some name)) → (gone ≡ name → A ≡ Some id) → (i ≡ id → P ≡ Some gone)
    → (A' ≡ Some i) ↔ (P' ≡ Some name)
removed_leads true true id i gone name A A' P P' b_is is_b c_is is_c a p both led there =
    ((λ h. absurd (none-some i (sym a ∙ h))), (λ h. absurd (none-some name (sym p ∙ h))))
removed_leads true false id i gone name A A' P P' b_is is_b c_is is_c a p both led there = (
  (λ h. absurd (none-some i (sym a ∙ h))),
  (λ h. absurd (true≢false (sym (is_c (same_Some _ _ (sym (both.1 (sym p ∙ h)) ∙ led (b_is refl))))))),
)
removed_leads false true id i gone name A A' P P' b_is is_b c_is is_c a p both led there = (
  (λ h. absurd (true≢false (sym (is_b (same_Some _ _ (sym (there (c_is refl)) ∙ both.0 (sym a ∙ h))))))),
  (λ h. absurd (none-some name (sym p ∙ h))),
)
removed_leads false false id i gone name A A' P P' b_is is_b c_is is_c a p both led there =
    ((λ h. p ∙ both.0 (sym a ∙ h)), (λ h. a ∙ both.1 (sym p ∙ h)))

pub kept : (states states' : List (Option (Held Object))) (ids ids' : List (Label × ℕ)) → states' ≡ states → ids' ≡ ids → IsRoll states ids → IsRoll states' ids'
kept states states' ids ids' e f roll = rw (e, f) roll

pub added : (states : List (Option (Held Object))) (ids ids' : List (Label × ℕ)) (s : Held Object) → IsRoll states ids → s.value.id ≡ length states + 1 → named (values_of states) s.value.name ≡ None
    → ((name : List ℕ) → id_in ids' name ≡ cond (bytes_eq s.value.name name) (Some s.value.id) (id_in ids name)) → length ids' ≡ length ids + 1
    → IsRoll (states ++ Some s ∷ []) ids'
added states ids ids' s roll next free leads more = record {
  own = λ i t there. some_choice (i == length states + 1) (Some s) (of_id states i) t _ (sym (of_id_end states i (Some s)) ∙ there)
      (λ e f. sym (ap (λ t. t.value.id) (same_Some _ _ f)) ∙ next ∙ sym (eqb-true i (length states + 1) e)) (λ e f. roll.own i t f);
  leads = λ name i. added_leads (bytes_eq s.value.name name) (i == length states + 1) (length states + 1) i s.value.name name (id_in ids name) (id_in ids' name) (name_at states i) (name_at (states ++ Some s ∷ []) i)
      (bytes_decides s.value.name name).0 (bytes_decides s.value.name name).1 (eqb-true i (length states + 1)) (eq-eqb i (length states + 1))
      (leads name ∙ ap (λ id. cond (bytes_eq s.value.name name) (Some id) (id_in ids name)) next)
      (ap (option_map (λ s. s.value.name)) (of_id_end states i (Some s)) ∙ map_choice (λ s. s.value.name) (i == length states + 1) (Some s) (of_id states i))
      (roll.leads name i)
      (λ same. ap (id_in ids) (sym same) ∙ free_name states ids roll s.value.name free)
      (λ e. ap (name_at states) e ∙ ap (option_map (λ s. s.value.name)) (past_end states));
  size = let e : length ids ≡ length (live states) = roll.size in let f : length (live (states ++ Some s ∷ [])) ≡ suc (length (live states)) = live_end states s in omega (arith, e, f, more);
}

pub removed : (states : List (Option (Held Object))) (ids ids' : List (Label × ℕ)) (name : List ℕ) (id : ℕ) → IsRoll states ids → id_in ids name ≡ Some id
    → ((other : List ℕ) → id_in ids' other ≡ cond (bytes_eq name other) None (id_in ids other)) → length ids' + 1 ≡ length ids
    → IsRoll (put states id None) ids'
removed states ids ids' name id roll leads others fewer = go (named_by states ids roll name id leads) where
  go : NamedBy states name id → IsRoll (put states id None) ids'
  go by = record {
    own = λ i t h. some_choice (i == id) None (of_id states i) t _ (sym (of_id_put states id i by.state None by.there) ∙ h)
        (λ e f. absurd (none-some t f)) (λ e f. roll.own i t f);
    leads = λ other i. removed_leads (bytes_eq name other) (i == id) id i name other (id_in ids other) (id_in ids' other) (name_at states i) (name_at (put states id None) i)
        (bytes_decides name other).0 (bytes_decides name other).1 (eqb-true i id) (eq-eqb i id)
        (others other)
        (ap (option_map (λ s. s.value.name)) (of_id_put states id i by.state None by.there) ∙ map_choice (λ s. s.value.name) (i == id) None (of_id states i))
        (roll.leads other i)
        (λ e. ap (id_in ids) (sym e) ∙ leads)
        (λ e. ap (name_at states) e ∙ ap (option_map (λ s. s.value.name)) by.there ∙ ap Some by.same);
    size = let e : length ids ≡ length (live states) = roll.size in let f : suc (length (live (put states id None))) ≡ length (live states) = live_taken states id by.state by.there in omega (arith, e, f, fewer);
  }

pub changed : (states : List (Option (Held Object))) (ids : List (Label × ℕ)) (id : ℕ) (s s' : Held Object) → IsRoll states ids → of_id states id ≡ Some s → s'.value.id ≡ s.value.id → s'.value.name ≡ s.value.name
    → IsRoll (put states id (Some s')) ids
changed states ids id s s' roll there same_id same_name = record {
  own = λ i t h. some_choice (i == id) (Some s') (of_id states i) t _ (sym (of_id_put states id i s (Some s') there) ∙ h)
      (λ e f. sym (ap (λ t. t.value.id) (same_Some _ _ f)) ∙ same_id ∙ roll.own id s there ∙ sym (eqb-true i id e)) (λ e f. roll.own i t f);
  leads = λ name i. let e = names_stay i in ((λ h. e ∙ (roll.leads name i).0 h), (λ h. (roll.leads name i).1 (sym e ∙ h)));
  size = roll.size ∙ sym (live_put states id s s' there);
} where
  names_stay : (i : ℕ) → name_at (put states id (Some s')) i ≡ name_at states i
  names_stay i = ap (option_map (λ s. s.value.name)) (of_id_put states id i s (Some s') there) ∙ go (i == id) refl where
    go : (b : Bool) → (i == id) ≡ b → option_map (λ s. s.value.name) (if b then Some s' else of_id states i) ≡ name_at states i
    go true e = ap Some same_name ∙ sym (ap (name_at states) (eqb-true i id e) ∙ ap (option_map (λ s. s.value.name)) there)
    go false e = refl
