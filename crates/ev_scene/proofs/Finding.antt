-- What a look-up of a name answers.
use Rattle.std.proofs.Common.{◌≡◌, ℕ, ◌+◌, ◌-◌, true, false, cond, if◌then◌else◌, List, [], ◌∷◌, ◌++◌, length, Option, Some, None, is_some, IfSome, option_copied, Bor, refl, sym, ap, ◌∙◌, subst, ◌==◌, arith}
use Rattle.std.specs.Option.{option_map}
use Rattle.ev_state.specs.Held.{Held}
use Rattle.ev_model.specs.declared.object.Object.{Object}
use Rattle.std.specs.Map.{lookup}
use Rattle.std.proofs.lemmas.List.{map-set}
use Rattle.std.proofs.lemmas.Bool.Decides.{nat_tests}
use Rattle.std.proofs.lemmas.Option.{none-some, same_Some}
use Rattle.ev_scene.specs.Ids.{of_id, put, value_of}
use Rattle.ev_scene.specs.Change.{apply}
use Rattle.ev_scene.specs.declared.change.Change.{Change}
use Rattle.ev_scene.specs.declared.change.Change.TheVariants as change
use Rattle.ev_scene.specs.Board.{named, values_of}
use Rattle.ev_scene.specs.Roll.{same_label, id_in, name_at, IsRoll, IsStateOf}
use Rattle.ev_scene.specs.declared.label.Label.{Label}
use Rattle.ev_scene.proofs.Places.{of_id_map, of_id_put}
use Rattle.ev_scene.proofs.Naming.{held_at, name_held, NamedBy, named_by, unnamed, free_name, own_value, added, removed, changed}

-- a change leaves the id and the name
apply_id : (c : Change) (o : Object) → (apply c o).id ≡ o.id
apply_id (change.Move x y) o = refl
apply_id other o = refl

apply_name : (c : Change) (o : Object) → (apply c o).name ≡ o.name
apply_name (change.Move x y) o = refl
apply_name other o = refl

module _ (states : List (Option (Held Object))) (ids : List (Label × ℕ)) (seen : List (Option (Held Object))) (roll : IsRoll states ids) (is : states ≡ seen) where
  pub led_to : (name : List ℕ) (id : ℕ) → Some id ≡ id_in ids name → of_id (values_of seen) id ≡ named (values_of seen) name
  led_to name id leads =
      let P : List (Option (Held Object)) → Type 0 = λ seen. of_id (values_of seen) id ≡ named (values_of seen) name in
      let by : NamedBy states name id = named_by states ids roll name id (sym leads) in
      subst P is (of_id_map value_of states id ∙ ap (option_map value_of) by.there ∙ sym by.first)

  pub led_nowhere : (name : List ℕ) → None ≡ id_in ids name → None ≡ named (values_of seen) name
  led_nowhere name leads =
      let P : List (Option (Held Object)) → Type 0 = λ seen. None ≡ named (values_of seen) name in
      subst P is (sym (unnamed states ids roll name (sym leads)))

  pub stands_there : (result : Option (Bor Object)) (id : ℕ) → option_copied result ≡ of_id (values_of seen) id → IfSome result (λ o. of_id (values_of seen) o.now.id ≡ Some o.now)
  stands_there None id there = tt
  stands_there (Some o) id there =
      let P : List (Option (Held Object)) → Type 0 = λ seen. of_id (values_of seen) id ≡ Some o.now → o.now.id ≡ id in
      let own : o.now.id ≡ id = subst P is (own_value states ids roll id o.now) (sym there) in
      ap (of_id (values_of seen)) own ∙ sym there

  pub added_to : (states' : List (Option (Held Object))) (ids' : List (Label × ℕ)) (s : Held Object) (name : List ℕ) (id : ℕ) (was : Option ℕ)
      → s.value.id ≡ length seen + 1 → named (values_of seen) s.value.name ≡ None → name ≡ s.value.name → id ≡ s.value.id → states' ≡ states ++ Some s ∷ []
      → ((q : Label) → lookup (same_label q) ids' ≡ cond (same_label (record { name = name }) q) (Some id) (lookup (same_label q) ids))
      → was ≡ id_in ids name → length ids' ≡ length ids + (if is_some was then 0 else 1)
      → IsRoll states' ids'
  added_to states' ids' s name id was next free same_name same_id items leads old more =
      let P : List (Option (Held Object)) → Type 0 = λ states. IsRoll states ids' in
      let next' : s.value.id ≡ length states + 1 = next ∙ ap (λ seen. length seen + 1) (sym is) in
      let free' : named (values_of states) s.value.name ≡ None = ap (λ seen. named (values_of seen) s.value.name) is ∙ free in
      let none : was ≡ None = old ∙ ap (id_in ids) same_name ∙ free_name states ids roll s.value.name free' in
      let leads' : (q : List ℕ) → id_in ids' q ≡ cond (same_label (record { name = s.value.name }) (record { name = q })) (Some s.value.id) (id_in ids q) =
      λ q. leads (record { name = q }) ∙ ap (λ name. cond (same_label (record { name = name }) (record { name = q })) (Some id) (id_in ids q)) same_name
      ∙ ap (λ id. cond (same_label (record { name = s.value.name }) (record { name = q })) (Some id) (id_in ids q)) same_id in
      subst P (sym items) (added states ids ids' s roll next' free' leads' (more ∙ ap (λ was. length ids + (if is_some was then 0 else 1)) none))

  pub removed_from : (ids' : List (Label × ℕ)) (name : List ℕ) (id : ℕ) → Some id ≡ id_in ids name
      → ((q : Label) → lookup (same_label q) ids' ≡ cond (same_label (record { name = name }) q) None (lookup (same_label q) ids)) → length ids' + 1 ≡ length ids
      → IsRoll (put states id None) ids'
  removed_from ids' name id leads others fewer = removed states ids ids' name id roll (sym leads) (λ q. others (record { name = q })) fewer

  pub changed_at : (id : ℕ) (s : Held Object) (c : Change) (o : Object) (serial : ℕ) → of_id states id ≡ Some s → o ≡ apply c s.value → IsRoll (put states id (Some (record { value = o; serial = serial }))) ids
  changed_at id s c o serial there e =
      changed states ids id s (record { value = o; serial = serial }) roll there (ap (λ o. o.id) e ∙ apply_id c s.value) (ap (λ o. o.name) e ∙ apply_name c s.value)

  pub changed_values : (id : ℕ) (s : Held Object) (c : Change) (o : Object) (serial : ℕ) → of_id states id ≡ Some s → o ≡ apply c s.value
      → values_of (put states id (Some (record { value = o; serial = serial }))) ≡ put (values_of seen) id (option_map (apply c) (of_id (values_of seen) id))
  changed_values id s c o serial there e =
      let P : List (Option (Held Object)) → Type 0 = λ seen. values_of (put states id (Some (record { value = o; serial = serial }))) ≡ put (values_of seen) id (option_map (apply c) (of_id (values_of seen) id)) in
      let at : of_id (values_of states) id ≡ Some s.value = of_id_map value_of states id ∙ ap (option_map value_of) there in
      subst P is (map-set (λ slot. option_map value_of slot) states (id - 1) (Some (record { value = o; serial = serial }))
      ∙ ap (put (values_of states) id) (ap Some e ∙ sym (ap (option_map (apply c)) at)))

  -- no other object has another state
  pub changed_alone : (id : ℕ) (s t : Held Object) → of_id states id ≡ Some s → put states id (Some t) ≡ put seen id (of_id (put states id (Some t)) id)
  changed_alone id s t there =
      let itself : (id == id) ≡ true = grind (arith, nat_tests) in
      let at : of_id (put states id (Some t)) id ≡ Some t = of_id_put states id id s (Some t) there ∙ ap (λ b. if b then Some t else of_id states id) itself in
      ap (put states id) (sym at) ∙ ap (λ seen. put seen id (of_id (put states id (Some t)) id)) is

  -- another state of the object of its id
  pub replaced_at : (t : Held Object) → IsStateOf seen t → IsRoll (put states t.value.id (Some t)) ids
  replaced_at t there = go (of_id states t.value.id) refl (ap (λ seen. name_at seen t.value.id) is ∙ there) where
    go : (found : Option (Held Object)) → of_id states t.value.id ≡ found → option_map (λ s. s.value.name) found ≡ Some t.value.name → IsRoll (put states t.value.id (Some t)) ids
    go None e f = absurd (none-some t.value.name f)
    go (Some s) e f = changed states ids t.value.id s t roll e (sym (roll.own t.value.id s e)) (sym (same_Some _ _ f))

  -- the name of an object leads to its id
  pub leads_back : (id : ℕ) (o : Object) → of_id (values_of seen) id ≡ Some o → Some id ≡ id_in ids o.name
  leads_back id o there = sym ((roll.leads o.name id).1 (name_held states id o (ap (λ seen. of_id (values_of seen) id) is ∙ there)))

  -- an object that is there is removed
  pub taken : (states' : List (Option (Held Object))) (id : ℕ) (o : Object) → of_id (values_of seen) id ≡ Some o → states' ≡ put seen id None → states' ≡ (if is_some (of_id seen id) then put seen id None else seen)
  taken states' id o there e = e ∙ ap (λ b. if b then put seen id None else seen) (sym (ap is_some (held_at seen id o there).1.0))

  pub not_taken : (id : ℕ) → None ≡ of_id (values_of seen) id → seen ≡ (if is_some (of_id seen id) then put seen id None else seen)
  not_taken id none = ap (λ b. if b then put seen id None else seen) (sym (is_away (of_id seen id) (none ∙ of_id_map value_of seen id))) where
    is_away : (s : Option (Held Object)) → None ≡ option_map value_of s → is_some s ≡ false
    is_away None e = refl
    is_away (Some s) e = absurd (none-some s.value (sym (sym e)))
