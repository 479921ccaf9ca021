-- Where the objects of a scene stand in its order, by what they stand in.
use Rattle.std.proofs.Common.{◌≡◌, ◌≢◌, ℕ, zero, suc, ℤ, ◌<◌, ◌≤ℤ◌, filter, Bool, true, false, ◌==◌, if◌then◌else◌, List, [], ◌∷◌, length, get_or, Option, Some, None, is_some, All, inl, inr, refl, sym, subst, ap, ap₂, ◌∙◌, arith, eq-eqb}
use Rattle.std.proofs.lemmas.Bool.Decides.{nat_tests, eqb_tells}
use Rattle.std.proofs.lemmas.Option.{none-some, same_Some}
use Rattle.std.proofs.Math.Bool.{true≢false}
use Rattle.std.specs.Prelude.{IsTrue, filter_map, flat_map}
use Rattle.std.specs.FinMap.{get, len}
use Rattle.std.specs.List.{cons_option, AllPairs}
use Rattle.std.specs.Option.{option_map, option_and_then, option_eq}
use Rattle.std.proofs.lemmas.List.Kept.{AllPairs-cons}
use Rattle.ev_model.specs.Chain.{ends}
use Rattle.ev_model.specs.Content.{kind_of}
use Rattle.ev_model.specs.Order as order
use Rattle.ev_model.specs.Order.{ids}
use Rattle.ev_model.specs.Up.{with_id, next, is_smart, is_smart_content}
use Rattle.ev_model.specs.declared.content.Content.{Content}
use Rattle.ev_model.specs.declared.content.Content.TheVariants as content
use Rattle.ev_model.specs.declared.content.Kind.TheVariants as kind
use Rattle.ev_model.specs.declared.object.Object.{Object}
use Rattle.ev_stack.specs.LayerOrder as stack
use Rattle.ev_stack.specs.LayerOrder.{layer_in, ids_of, IsApart}
use Rattle.ev_groups.specs.Groups.{place, group, siblings}
use Rattle.ev_links.specs.Ties.{Ties, clipper_at, parent_at, kind_at, has, Has, IsDistinct, places_of, is_inside, IsWay, IsSound}
use Rattle.ev_links.proofs.Sound.{parent_there, clipper_there, parents_end}
use Rattle.ev_links.proofs.Ways.{has-Has, no_return}
use Rattle.ev_links.proofs.Whole.{walk_whole}
use Rattle.ev_scene.specs.Ids.{of_id, live}
use Rattle.ev_scene.specs.Board.{Board, ids_in, inside, stage_of}
use Rattle.ev_scene.specs.ObjectTies.{tie_of, layer_at}
use Rattle.ev_scene.specs.Sound.{IsSound as IsSoundStage}
use Rattle.ev_scene.specs.Whole.{IsWhole}
use Rattle.ev_scene.proofs.Places.{of_id_suc, found, none_found}
use Rattle.ev_scene.proofs.Standing.{stands_in}
use Rattle.ev_scene.proofs.Members as mem
use Rattle.ev_scene.proofs.Nesting as nest
use Rattle.ev_scene.proofs.Ways as way

-- the ids of siblings are those that have a layer
pub has_layer : (xs : List (ℕ × ℤ)) (id : ℕ) (layer : ℤ) → layer_in xs id ≡ Some layer → Has id (ids_of xs)
has_layer [] id layer e = absurd (none-some layer e)
has_layer (one ∷ xs) id layer e = elim (eqb_tells one.0 id) [ inl same ↦ inl same.1 | inr differ ↦ inr (has_layer xs id layer (rw differ.0 at e)) ]

layer_of : (xs : List (ℕ × ℤ)) (id : ℕ) → Has id (ids_of xs) → is_some (layer_in xs id) ≡ true
layer_of [] id h = absurd h
layer_of (one ∷ xs) id h =
    elim (eqb_tells one.0 id) [
      | inl same ↦ rw same.0 refl
      | inr differ ↦ rw differ.0 (layer_of xs id (elim h [ inl here ↦ absurd (differ.1 here) | inr later ↦ later ]))
    ]

away : (xs : List (ℕ × ℤ)) (id : ℕ) → IsApart id xs → ¬ Has id (ids_of xs)
away [] id apart h = h
away (one ∷ xs) id apart h = elim h [ inl here ↦ apart.0 here | inr later ↦ away xs id apart.1 later ]

distinct_ids : (xs : List (ℕ × ℤ)) → stack.IsDistinct xs → IsDistinct (ids_of xs)
distinct_ids [] d = tt
distinct_ids (one ∷ xs) d = (away xs one.0 d.0, distinct_ids xs d.1)

no_order : (xs : List (ℕ × ℤ)) → ((x : ℕ) → ¬ Has x (ids_of xs)) → stack.IsOrder xs
no_order [] none = record { layered = tt; distinct = tt }
no_order (one ∷ xs) none = absurd (none one.0 (inl refl))

-- objects in the layers that a group has for them
abbrev Stand : List (ℕ × ℤ) → List Object → Type 0
Stand group [] = Unit {0}
Stand group (o ∷ objects) = (layer_in group o.id ≡ Some o.layer) × Stand group objects

not_below : (layer : ℤ) (group : List (ℕ × ℤ)) → stack.IsFrom layer group → (id : ℕ) (other : ℤ) → layer_in group id ≡ Some other → layer ≤ℤ other
not_below layer [] from id other e = absurd (none-some other e)
not_below layer (one ∷ rest) from id other e =
    elim (eqb_tells one.0 id) [
      | inl same ↦ subst (λ other. layer ≤ℤ other) (same_Some one.1 other (rw same.0 at e)) from.0
      | inr differ ↦ not_below layer rest from.1 id other (rw differ.0 at e)
    ]

none_below : (layer : ℤ) (group : List (ℕ × ℤ)) → stack.IsFrom layer group → (objects : List Object) → Stand group objects → All (λ o. layer ≤ℤ o.layer) objects
none_below layer group from [] stand k d low = absurd (omega (arith, low))
none_below layer group from (o ∷ objects) stand zero d low = not_below layer group from o.id o.layer stand.0
none_below layer group from (o ∷ objects) stand (suc k) d low = none_below layer group from objects stand.1 k d (omega (arith, low))

stand_in_rest : (one : ℕ × ℤ) (rest : List (ℕ × ℤ)) (objects : List Object) → ¬ Has one.0 (ids objects) → Stand (one ∷ rest) objects → Stand rest objects
stand_in_rest one rest [] away stand = tt
stand_in_rest one rest (o ∷ objects) away stand =
    (elim (eqb_tells one.0 o.id) [ inl same ↦ absurd (away (inl (sym same.1))) | inr differ ↦ rw differ.0 at stand.0 ], stand_in_rest one rest objects (λ h. away (inr h)) stand.1)

none_rising : (objects : List Object) → ids objects ≡ [] → AllPairs (λ a b. a.layer ≤ℤ b.layer) objects
none_rising [] e = λ i j d less few. absurd (omega (arith, few))
none_rising (o ∷ objects) e = absurd (let size = ap length e in omega (arith, size))

-- objects in the order of a group have layers that never fall
rising : (group : List (ℕ × ℤ)) → stack.IsDistinct group → stack.IsLayered group → (objects : List Object) → ids objects ≡ ids_of group → Stand group objects → AllPairs (λ a b. a.layer ≤ℤ b.layer) objects
rising [] distinct layered objects e stand = none_rising objects e
rising (one ∷ rest) distinct layered [] e stand = none_rising [] refl
rising (one ∷ rest) distinct layered (o ∷ objects) e stand =
    let later : ids objects ≡ ids_of rest = ap tail e in
    let stand_on : Stand rest objects = stand_in_rest one rest objects (λ h. away rest one.0 distinct.0 (subst (Has one.0) later h)) stand.1 in
    let same : (one.0 == o.id) ≡ true = eq-eqb one.0 o.id (sym (ap (first o.id) e)) in
    let own : one.1 ≡ o.layer = same_Some one.1 o.layer (rw same at stand.0) in
    AllPairs-cons (λ a b. a.layer ≤ℤ b.layer) o objects (subst (λ layer. All (λ u. layer ≤ℤ u.layer) objects) own (none_below one.1 rest layered.0 objects stand_on)) (rising rest distinct.1 layered.1 objects later stand_on)
  where
    tail : List ℕ → List ℕ
    tail [] = []
    tail (x ∷ xs) = xs

    first : ℕ → List ℕ → ℕ
    first d [] = d
    first d (x ∷ xs) = x

some_there : {A : Type 0} (o : Option A) → is_some o ≡ true → (x : A) × (o ≡ Some x)
some_there None e = absurd (true≢false (sym e))
some_there (Some x) e = (x, refl)

-- only smart objects are of the kind of those
smart_kind : (c : Content) → kind_of c ≡ kind.Smart → is_smart_content c ≡ true
smart_kind content.Smart e = refl
smart_kind other e = cc

never_rect : (c : Content) → is_smart_content c ≡ true → kind_of c ≡ kind.Rect → ⊥
never_rect content.Rect s e = true≢false (sym s)
never_rect other s e = cc

module _ {w h : ℕ} {objects : List (Option Object)} {groups : List (List (ℕ × ℤ))} {ties : Ties} (whole : IsWhole (record { w = w; h = h; objects = objects; groups = groups }) ties) where
  abbrev is_there : ℕ → Bool
  is_there id = is_some (of_id objects id)

  abbrev board : Board
  board = record { w = w; h = h; objects = objects; groups = groups }

  object_of : (id : ℕ) → is_there id ≡ true → (o : Object) × (of_id objects id ≡ Some o)
  object_of id there = some_there (of_id objects id) there

  -- the objects that are there, found by their ids
  pub live_found : (id : ℕ) → with_id (live objects) id ≡ of_id objects id
  live_found id = go id (of_id objects id) refl where
    go : (id : ℕ) (f : Option Object) → of_id objects id ≡ f → with_id (live objects) id ≡ f
    go id None e = none_found (λ o. o.id == id) objects (λ j o at.
        let there : of_id objects (suc j) ≡ Some o = of_id_suc objects j ∙ at in
        elim (eqb_tells o.id id) [
          | inl same ↦ absurd (none-some o (sym e ∙ ap (of_id objects) (sym same.1 ∙ whole.own (suc j) o there) ∙ there))
          | inr differ ↦ differ.0
        ])
    go zero (Some o) e = absurd (none-some o e)
    go (suc k) (Some o) e = found (λ o. o.id == suc k) objects k o (sym (of_id_suc objects k) ∙ e) (eq-eqb o.id (suc k) (whole.own (suc k) o e)) (λ j p at passes.
        let own : p.id ≡ suc j = whole.own (suc j) p (of_id_suc objects j ∙ at) in
        grind (arith, nat_tests))

  -- what the ties say of an object that is there
  pub parent_is : (id : ℕ) (o : Object) → of_id objects id ≡ Some o → parent_at (get ties) id ≡ o.parent
  parent_is id o there = ap (option_and_then (λ tie. tie.parent)) (whole.tied id ∙ ap (option_map tie_of) there)

  pub clipper_is : (id : ℕ) (o : Object) → of_id objects id ≡ Some o → clipper_at (get ties) id ≡ o.clipper
  clipper_is id o there = ap (option_and_then (λ tie. tie.clipper)) (whole.tied id ∙ ap (option_map tie_of) there)

  kind_is : (id : ℕ) (o : Object) → of_id objects id ≡ Some o → kind_at (get ties) id ≡ Some (kind_of o.content)
  kind_is id o there = ap (option_and_then (λ tie. Some tie.kind)) (whole.tied id ∙ ap (option_map tie_of) there)

  module _ (sound : IsSound (get ties)) where
    abbrev over : ℕ → Option ℕ
    over = parent_at (get ties)

    there_too : (id : ℕ) → is_some (get ties id) ≡ true → is_there id ≡ true
    there_too id e = sym (way.is_some_map tie_of (of_id objects id)) ∙ sym (ap is_some (whole.tied id)) ∙ e

    known : (q to : ℕ) → over q ≡ Some to → is_there to ≡ true
    known q to e = there_too to (parent_there (get ties) sound q to e)

    there_tied : (id : ℕ) → is_there id ≡ true → is_some (get ties id) ≡ true
    there_tied id there = let found = object_of id there in ap is_some (whole.tied id ∙ ap (option_map tie_of) found.1)

    -- what stands in what
    stands : (x : ℕ) → is_there x ≡ true → Has x (siblings groups (over x))
    stands x there =
        let found = object_of x there in let o = found.0 in
        subst (λ p. Has x (siblings groups p)) (sym (parent_is x o found.1)) (has_layer (group groups o.parent) x o.layer (stands_in whole x o found.1))

    same_place : (a b : Option ℕ) → nest.IsParent is_there a → nest.IsParent is_there b → place a ≡ place b → a ≡ b
    same_place None None p q e = refl
    same_place None (Some b) p q e = absurd (true≢false (sym (ap is_there e ∙ q)))
    same_place (Some a) None p q e = absurd (true≢false (sym (ap is_there (sym e) ∙ p)))
    same_place (Some a) (Some b) p q e = ap Some e

    parent_there_too : (x : ℕ) (parent : Option ℕ) → over x ≡ parent → nest.IsParent is_there parent
    parent_there_too x None e = tt
    parent_there_too x (Some q) e = known x q e

    -- who stands in the group at a place is an object whose parent has that place
    member_at : (at x : ℕ) → Has x (ids_of (get_or groups at [])) → (o : Object) × ((of_id objects x ≡ Some o) × (place o.parent ≡ at))
    member_at at x h = go (of_id objects x) refl (sym (ap is_some (whole.stands at x)) ∙ layer_of (get_or groups at []) x h) where
      go : (f : Option Object) → of_id objects x ≡ f → is_some (option_and_then (layer_at at) f) ≡ true → (o : Object) × ((of_id objects x ≡ Some o) × (place o.parent ≡ at))
      go None e t = absurd (true≢false (sym t))
      go (Some o) e t = (o, (e, elim (eqb_tells (place o.parent) at) [ inl same ↦ same.1 | inr differ ↦ absurd (true≢false (sym (rw differ.0 at t))) ]))

    members : (x : ℕ) (parent : Option ℕ) → nest.IsParent is_there parent → Has x (siblings groups parent) → (over x ≡ parent) × (is_there x ≡ true)
    members x parent is h =
        let found = member_at (place parent) x h in let o = found.0 in
        let its : over x ≡ o.parent = parent_is x o found.1.0 in
        (its ∙ same_place o.parent parent (parent_there_too x o.parent its) is found.1.1, ap is_some found.1.0)

    -- there are more objects than a way has
    fits : (x : ℕ) (ids : List ℕ) → is_there x ≡ true → IsWay over x ids → length ids < length (live objects)
    fits x ids there p =
        let found = object_of x there in let o = found.0 in
        let own : o.id ≡ x = whole.own x o found.1 in
        way.shorter_than_all (live objects) (λ o. o.parent) over (λ o there. parent_is o.id o (sym (live_found o.id) ∙ there)) (λ q to e. ap is_some (live_found to) ∙ known q to e)
        o ids (live_found o.id ∙ ap (of_id objects) own ∙ found.1) (subst (λ n. IsWay over n ids) (sym own) p)

    along : (id : ℕ) → (ids : List ℕ) × IsWay over id ids
    along id = parents_end (get ties) sound id

    -- each object that is there stands in the order
    pub reached : (id : ℕ) → is_there id ≡ true → Has id (ids_in board None)
    reached id there = nest.reached (siblings groups) over is_there known stands members (length (live objects)) id (along id).0 (along id).1 there (fits id (along id).0 there (along id).1)

    -- and all in the order is there
    pub listed_there : (id : ℕ) → Has id (ids_in board None) → is_there id ≡ true
    listed_there id h = nest.all_there (siblings groups) over is_there known stands members (length (live objects)) id None tt h

    -- the same for what stands in an object
    pub members_there : (q id : ℕ) → is_there q ≡ true → Has id (ids_in board (Some q)) → is_there id ≡ true
    members_there q id there h = nest.all_there (siblings groups) over is_there known stands members (length (live objects)) id (Some q) there h

    -- in what is not there nothing stands
    none_in : (k x : ℕ) → of_id objects (suc k) ≡ None → ¬ Has x (siblings groups (Some (suc k)))
    none_in k x gone h = let found = member_at (suc k) x h in led found.0.parent (parent_is x found.0 found.1.0) found.1.1 where
      led : (p : Option ℕ) → over x ≡ p → place p ≡ suc k → ⊥
      led None e at = absurd (omega (arith, at))
      led (Some q) e at = true≢false (sym (known x q e) ∙ ap is_there at ∙ ap is_some gone)

    -- where those that stand together in the order are an order, all are
    pub all_orders : stack.IsOrder (group groups None) → ((id : ℕ) → Has id (ids_in board None) → stack.IsOrder (group groups (Some id))) → (at : ℕ) → stack.IsOrder (get_or groups at [])
    all_orders top each zero = top
    all_orders top each (suc k) = go (of_id objects (suc k)) refl where
      go : (f : Option Object) → of_id objects (suc k) ≡ f → stack.IsOrder (group groups (Some (suc k)))
      go None e = no_order (group groups (Some (suc k))) (λ x. none_in k x e)
      go (Some o) e = each (suc k) (reached (suc k) (ap is_some e))

    -- where no sibling stands twice, nothing stands twice in the order
    module _ (once : (at : ℕ) → stack.IsDistinct (get_or groups at [])) where
      pub listed_once : IsDistinct (ids_in board None)
      listed_once = nest.stands_once (siblings groups) over is_there known stands members along (λ parent. distinct_ids (group groups parent) (once (place parent))) (length (live objects)) None tt

    -- the objects of the order, found by their ids
    abbrev listed : List ℕ → List Object
    listed ids = filter_map (of_id objects) ids

    listed_ids : (xs : List ℕ) → ((x : ℕ) → Has x xs → is_there x ≡ true) → ids (listed xs) ≡ xs
    listed_ids [] there = refl
    listed_ids (x ∷ xs) there =
        let found = object_of x (there x (inl refl)) in
        ap (λ f. ids (cons_option f (listed xs))) found.1 ∙ ap₂ ◌∷◌ (whole.own x found.0 found.1) (listed_ids xs (λ y h. there y (inr h)))

    pub order_once : ((at : ℕ) → stack.IsDistinct (get_or groups at [])) → IsDistinct (ids (stage_of board).objects)
    order_once once = subst IsDistinct (sym (listed_ids (ids_in board None) listed_there)) (listed_once once)

    found_among : (ids : List ℕ) (id : ℕ) (o : Object) → of_id objects id ≡ Some o → Has id ids → with_id (listed ids) id ≡ Some o
    found_among [] id o e h = absurd h
    found_among (x ∷ ids) id o e h = go (of_id objects x) refl (found_among ids id o e) where
      go : (f : Option Object) → of_id objects x ≡ f → (Has id ids → with_id (listed ids) id ≡ Some o) → with_id (cons_option f (listed ids)) id ≡ Some o
      go None f later = elim h [ inl here ↦ absurd (none-some o (sym f ∙ ap (of_id objects) here ∙ e)) | inr more ↦ later more ]
      go (Some u) f later =
          let own : u.id ≡ x = whole.own x u f in
          elim (eqb_tells u.id id) [
            | inl same ↦ rw same.0 (sym f ∙ ap (of_id objects) (sym own ∙ same.1) ∙ e)
            | inr differ ↦ rw differ.0 (later (elim h [ inl here ↦ absurd (differ.1 (own ∙ here)) | inr more ↦ more ]))
          ]

    none_among : (ids : List ℕ) (id : ℕ) → of_id objects id ≡ None → with_id (listed ids) id ≡ None
    none_among [] id e = refl
    none_among (x ∷ ids) id e = go (of_id objects x) refl (none_among ids id e) where
      go : (f : Option Object) → of_id objects x ≡ f → with_id (listed ids) id ≡ None → with_id (cons_option f (listed ids)) id ≡ None
      go None f later = later
      go (Some u) f later =
          elim (eqb_tells u.id id) [
            | inl same ↦ absurd (none-some u (sym e ∙ ap (of_id objects) (sym same.1 ∙ whole.own x u f) ∙ f))
            | inr differ ↦ rw differ.0 later
          ]

    pub order_found : (id : ℕ) → with_id (stage_of board).objects id ≡ of_id objects id
    order_found id = go (of_id objects id) refl where
      go : (f : Option Object) → of_id objects id ≡ f → with_id (listed (ids_in board None)) id ≡ f
      go None e = none_among (ids_in board None) id e
      go (Some o) e = found_among (ids_in board None) id o e (reached id (ap is_some e))

    -- each object of the order stands at its id
    listed_own : (ids : List ℕ) → All (λ o. of_id objects o.id ≡ Some o) (listed ids)
    listed_own [] k d h = absurd (omega (arith, h))
    listed_own (x ∷ ids) k d h = go (of_id objects x) refl (listed_own ids) k d h where
      go : (f : Option Object) → of_id objects x ≡ f → All (λ o. of_id objects o.id ≡ Some o) (listed ids) → All (λ o. of_id objects o.id ≡ Some o) (cons_option f (listed ids))
      go None e all k d h = all k d h
      go (Some u) e all zero d h = ap (of_id objects) (whole.own x u e) ∙ e
      go (Some u) e all (suc k) d h = all k d (omega (arith, h))

    pub order_own : All (λ o. of_id objects o.id ≡ Some o) (stage_of board).objects
    order_own = listed_own (ids_in board None)

    -- each way up in the order comes to an end
    pub ways : All (λ o. IsTrue (ends (length (stage_of board).objects) (next (stage_of board).objects) (next (stage_of board).objects o))) (stage_of board).objects
    ways k d h = way.ways (stage_of board).objects (get ties) (λ id. whole.tied id ∙ ap (option_map tie_of) (sym (order_found id))) sound _ (order_found _ ∙ order_own k d h)

    -- where no sibling stands twice, the objects stand in the order of painting
    module _ (once : (at : ℕ) → stack.IsDistinct (get_or groups at [])) where
      abbrev painted : List Object
      painted = (stage_of board).objects

      few_live : (x : ℕ) → is_there x ≡ true → length (along x).0 < length (live objects)
      few_live x there = fits x (along x).0 there (along x).1

      few_painted : (x : ℕ) → is_there x ≡ true → length (along x).0 < length painted
      few_painted x there =
          let found = object_of x there in let o = found.0 in
          let own : o.id ≡ x = whole.own x o found.1 in
          way.shorter_than_all painted (λ o. o.parent) over (λ o there. parent_is o.id o (sym (order_found o.id) ∙ there)) (λ q to e. ap is_some (order_found to) ∙ known q to e)
          o (along x).0 (order_found o.id ∙ ap (of_id objects) own ∙ found.1) (subst (λ n. IsWay over n (along x).0) (sym own) (along x).1)

      once_ids : (parent : Option ℕ) → IsDistinct (siblings groups parent)
      once_ids parent = distinct_ids (group groups parent) (once (place parent))

      abbrev picked : Option ℕ → List ℕ → List ℕ
      picked parent xs = filter (λ x. option_eq ◌==◌ (over x) parent) xs

      -- the objects of a parent, by their ids
      members_ids : (parent : Option ℕ) (xs : List ℕ) → ((x : ℕ) → Has x xs → is_there x ≡ true) → ids (order.members (listed xs) parent) ≡ picked parent xs
      members_ids parent [] there = refl
      members_ids parent (x ∷ xs) there =
          let found = object_of x (there x (inl refl)) in let o = found.0 in
          ap (λ f. ids (order.members (cons_option f (listed xs)) parent)) found.1
          ∙ choice (option_eq ◌==◌ o.parent parent) o (order.members (listed xs) parent) (picked parent xs) (whole.own x o found.1) (members_ids parent xs (λ y h. there y (inr h)))
          ∙ ap (λ over. if option_eq ◌==◌ over parent then x ∷ picked parent xs else picked parent xs) (sym (parent_is x o found.1))
        where
          choice : (b : Bool) (o : Object) (rest : List Object) (rest' : List ℕ) → o.id ≡ x → ids rest ≡ rest' → ids (if b then o ∷ rest else rest) ≡ (if b then x ∷ rest' else rest')
          choice true o rest rest' own later = ap₂ ◌∷◌ own later
          choice false o rest rest' own later = later

      members_are : (parent : Option ℕ) → nest.IsParent is_there parent → ids (order.members painted parent) ≡ siblings groups parent
      members_are parent there =
          members_ids parent (ids_in board None) listed_there
          ∙ mem.members_in_order (siblings groups) over is_there known stands members along once_ids (length (live objects)) few_live parent there

      painted_order : order.in_order (length painted) (λ parent. ids (order.members painted parent)) None ≡ ids painted
      painted_order =
          mem.same_order (siblings groups) over is_there known stands members along once_ids (λ parent. ids (order.members painted parent)) members_are (length painted) (length (live objects)) few_painted few_live
          ∙ sym (listed_ids (ids_in board None) listed_there)

      -- each has its layer in the group of its parent
      members_stand : (parent : Option ℕ) (xs : List ℕ) → Stand (group groups parent) (order.members (listed xs) parent)
      members_stand parent [] = tt
      members_stand parent (x ∷ xs) = go (of_id objects x) refl (members_stand parent xs) where
        choice : (b : Bool) (o : Object) (rest : List Object) → (b ≡ true → layer_in (group groups parent) o.id ≡ Some o.layer) → Stand (group groups parent) rest → Stand (group groups parent) (if b then o ∷ rest else rest)
        choice true o rest here later = (here refl, later)
        choice false o rest here later = later

        go : (f : Option Object) → of_id objects x ≡ f → Stand (group groups parent) (order.members (listed xs) parent) → Stand (group groups parent) (order.members (cons_option f (listed xs)) parent)
        go None e later = later
        go (Some o) e later =
            choice (option_eq ◌==◌ o.parent parent) o (order.members (listed xs) parent)
            (λ same. subst (λ parent. layer_in (group groups parent) o.id ≡ Some o.layer) (mem.is_over o.parent parent same) (stands_in whole o.id o (ap (of_id objects) (whole.own x o e) ∙ e)))
            later

      painted_layers : ((at : ℕ) → stack.IsLayered (get_or groups at [])) → (parent : Option ℕ) → AllPairs (λ a b. a.layer ≤ℤ b.layer) (order.members painted parent)
      painted_layers layered None = rising (group groups None) (once 0) (layered 0) (order.members painted None) (members_are None tt) (members_stand None (ids_in board None))
      painted_layers layered (Some q) = go (is_there q) refl where
        go : (b : Bool) → is_there q ≡ b → AllPairs (λ a b. a.layer ≤ℤ b.layer) (order.members painted (Some q))
        go true there = rising (group groups (Some q)) (once q) (layered q) (order.members painted (Some q)) (members_are (Some q) there) (members_stand (Some q) (ids_in board None))
        go false gone =
            none_rising (order.members painted (Some q))
            (members_ids (Some q) (ids_in board None) listed_there
            ∙ mem.none_picked (siblings groups) over is_there known stands members along once_ids (Some q) (ids_in board None) (λ y h e. true≢false (sym (known y q e) ∙ gone)))

    -- the scene, as it is painted
    pub sound_stage : ((at : ℕ) → stack.IsOrder (get_or groups at [])) → IsSoundStage (stage_of board)
    sound_stage orders = record {
      distinct = nest.all_differ _ (order_once (λ at. (orders at).distinct));
      order = record { order = painted_order (λ at. (orders at).distinct); layers = painted_layers (λ at. (orders at).distinct) (λ at. (orders at).layered) };
      links = λ k d h. way.linked (stage_of board).objects (get ties) (λ id. whole.tied id ∙ ap (option_map tie_of) (sym (order_found id))) sound _ (order_found _ ∙ order_own k d h);
      ways = ways;
    }

    -- the places of an object are itself and its way
    places_are : (x : ℕ) → is_there x ≡ true → places_of ties x ≡ x ∷ (along x).0
    places_are x there = walk_whole ties over x (along x).0 (suc (len ties)) (omega arith) (there_tied x there) (parent_there (get ties) sound) (along x).1

    -- an object that is there
    module _ (id : ℕ) (id_there : is_there id ≡ true) where
      -- what stands inside it are the objects whose ways meet it
      met : (x : ℕ) → is_there x ≡ true → (ids : List ℕ) → IsWay over x ids → Has x (inside board id) → Has id (x ∷ ids)
      met x there ids p h = elim h [ inl here ↦ inl (sym here) | inr later ↦ inr (nest.on_the_way (siblings groups) over is_there known stands members (length (live objects)) x id ids id_there p later) ]

      meets : (x : ℕ) → is_there x ≡ true → (ids : List ℕ) → IsWay over x ids → Has id (x ∷ ids) → Has x (inside board id)
      meets x there ids p h =
          elim h [
            | inl here ↦ inl (sym here)
            | inr later ↦ inr (let few = fits x ids there p in nest.reached_in (siblings groups) over is_there known stands members (length (live objects)) x id ids p there later (omega (arith, few)))
          ]

      pub inside_is : (x : ℕ) → is_there x ≡ true → has (inside board id) x ≡ is_inside ties x id
      inside_is x there =
          nest.has_same (inside board id) (x ∷ (along x).0) x id (met x there (along x).0 (along x).1) (meets x there (along x).0 (along x).1)
          ∙ ap (λ ids. has ids id) (sym (places_are x there))

      -- all inside is there
      pub inside_there : (x : ℕ) → Has x (inside board id) → is_there x ≡ true
      inside_there x h = elim h [ inl here ↦ ap is_there (sym here) ∙ id_there | inr later ↦ members_there id x id_there later ]

      -- what stands in something inside stands inside
      pub inside_closed : (x q : ℕ) (p : Object) → of_id objects x ≡ Some p → p.parent ≡ Some q → has (inside board id) q ≡ true → has (inside board id) x ≡ true
      inside_closed x q p there e gone =
          let led : over x ≡ Some q = parent_is x p there ∙ e in
          let onward = met q (known x q led) (along q).0 (along q).1 (nest.Has-has (inside board id) q gone) in
          has-Has (inside board id) x (meets x (ap is_some there) (q ∷ (along q).0) (led, (along q).1) (inr onward))

      -- what stands inside and is not the object itself stands in something inside
      pub inside_above : (x : ℕ) (p : Object) → of_id objects x ≡ Some p → has (inside board id) x ≡ true → x ≢ id → (q : ℕ) × ((p.parent ≡ Some q) × (has (inside board id) q ≡ true))
      inside_above x p there gone other = go (along x).0 (along x).1 (met x (ap is_some there) (along x).0 (along x).1 (nest.Has-has (inside board id) x gone)) where
        go : (ids : List ℕ) → IsWay over x ids → Has id (x ∷ ids) → (q : ℕ) × ((p.parent ≡ Some q) × (has (inside board id) q ≡ true))
        go [] r h = elim h [ inl here ↦ absurd (other here) | inr later ↦ absurd later ]
        go (q ∷ ids) r h =
            elim h [
              | inl here ↦ absurd (other here)
              | inr later ↦ (q, (sym (parent_is x p there) ∙ r.0, has-Has (inside board id) q (meets q (known x q r.0) ids r.1 later)))
            ]

      -- what the object stands in is not inside
      pub inside_outside : (q : ℕ) → over id ≡ Some q → has (inside board id) q ≡ false
      inside_outside q led = nest.has_not (inside board id) q (λ h. no_return over id (q ∷ (along q).0) (led, (along q).1) (met q (known id q led) (along q).0 (along q).1 h))

      module _ (o : Object) (at : of_id objects id ≡ Some o) where
        -- only smart objects have members
        pub alone : is_smart o ≡ false → inside board id ≡ id ∷ []
        alone plain = ap (λ rest. id ∷ rest) (go (length (live objects))) where
          memberless : (x : ℕ) → ¬ Has x (siblings groups (Some id))
          memberless x h =
              let led : over x ≡ Some id = (members x (Some id) id_there h).0 in
              true≢false (sym (smart_kind o.content (same_Some _ _ (sym (kind_is id o at) ∙ sound.parents x id led))) ∙ plain)

          none : (xs : List ℕ) → ((x : ℕ) → ¬ Has x xs) → xs ≡ []
          none [] away = refl
          none (x ∷ xs) away = absurd (away x (inl refl))

          go : (n : ℕ) → order.in_order n (siblings groups) (Some id) ≡ []
          go zero = refl
          go (suc n) = ap (flat_map (λ x. x ∷ order.in_order n (siblings groups) (Some x))) (none (siblings groups (Some id)) memberless)

        -- what has a clipper inside stands inside, where the object is smart: a clipper is a rectangle and a sibling
        pub inside_clipped : is_smart o ≡ true → (x c : ℕ) (p : Object) → of_id objects x ≡ Some p → p.clipper ≡ Some c → has (inside board id) c ≡ true → has (inside board id) x ≡ true
        inside_clipped smart x c p there e gone =
            has-Has (inside board id) x (go (along c).0 (along c).1 (met c (there_too c (clipper_there (get ties) sound x c led)) (along c).0 (along c).1 (nest.Has-has (inside board id) c gone)))
          where
            led : clipper_at (get ties) x ≡ Some c
            led = clipper_is x p there ∙ e

            sibling : over c ≡ over x
            sibling = sound.siblings x c led

            other : c ≢ id
            other same = never_rect o.content smart (same_Some _ _ (sym (kind_is id o at) ∙ ap (kind_at (get ties)) (sym same) ∙ sound.clippers x c led))

            go : (ids : List ℕ) → IsWay over c ids → Has id (c ∷ ids) → Has x (inside board id)
            go [] r h = elim h [ inl here ↦ absurd (other here) | inr later ↦ absurd later ]
            go (q ∷ ids) r h = elim h [ inl here ↦ absurd (other here) | inr later ↦ meets x (ap is_some there) (q ∷ ids) (sym sibling ∙ r.0, r.1) (inr later) ]
