-- Objects that go.
use Rattle.std.proofs.Common.{◌≡◌, ◌≢◌, ℕ, zero, suc, ℤ, ◌<◌, ◌≤◌, ◌+◌, ◌-◌, Bool, true, false, ◌==◌, ◌||◌, if◌then◌else◌, List, [], ◌∷◌, length, get_or, slice_set, drop, map, Option, Some, None, is_some, inl, inr, refl, sym, subst, ap, ap₂, ◌∙◌, arith, eq-eqb}
use Rattle.std.specs.FinMap.{get}
use Rattle.std.specs.Option.{option_map, option_and_then, option_map_or, option_eq}
use Rattle.std.specs.Prelude.{nat_eq}
use Rattle.std.proofs.Math.Bool.{true≢false}
use Rattle.std.proofs.lemmas.Bool.Decides.{nat_tests, eqb_tells}
use Rattle.std.proofs.lemmas.Option.{none-some, same_Some}
use Rattle.std.proofs.lemmas.List.{drop_more, drop_all, length-set, length-map}
use Rattle.ev_state.specs.Held.{Held}
use Rattle.ev_model.specs.Limits.{IsObject}
use Rattle.ev_model.specs.Up.{is_smart, is_clipped_by}
use Rattle.ev_model.specs.declared.object.Object.{Object}
use Rattle.ev_stack.specs.LayerOrder as stack
use Rattle.ev_stack.specs.LayerOrder.{layer_in, without}
use Rattle.ev_groups.specs.Groups.{place, group, with_group}
use Rattle.ev_links.specs.Ties.{Ties, Tie, parent_at, clipper_at, has, released, IsSound}
use Rattle.ev_links.specs.LinkCalls.{Drops}
use Rattle.ev_links.proofs.Ways.{has-Has}
use Rattle.ev_scene.specs.Ids.{of_id, put, spread, value_of}
use Rattle.ev_scene.specs.Board.{Board, values_of, inside, ids_in}
use Rattle.ev_scene.specs.Change.{apply}
use Rattle.ev_scene.specs.Edits.{emptied, left, gone_from, deleted, clipped_by}
use Rattle.ev_scene.specs.ObjectTies.{tie_of, layer_at}
use Rattle.ev_scene.specs.Whole.{IsWhole}
use Rattle.ev_scene.specs.declared.change.Change.TheVariants as change
use Rattle.ev_scene.proofs.Places.{at_place, of_id_suc, of_id_put, of_id_map, same_slots, map_choice}
use Rattle.ev_scene.proofs.Restacking.{layer_in-gone}
use Rattle.ev_scene.proofs.Standing.{get_set, has_group}
use Rattle.ev_scene.proofs.Spreading.{length-spread}
use Rattle.ev_scene.proofs.Trees.{parent_is, inside_closed, inside_clipped, inside_above, inside_there, inside_outside, alone}
use Rattle.ev_scene.proofs.Nesting as nest
use Rattle.ev_scene.proofs.Releasing.{unclipped, spread_released}

pub no_zero : (ids : List ℕ) (i : ℕ) → i < length ids → has ids 0 ≡ false → get_or ids i 0 ≢ 0
no_zero ids i low none is = true≢false (sym (has-Has ids _ (nest.Has_at ids i 0 low)) ∙ ap (has ids) is ∙ none)

-- one more group is empty, and then all are
pub emptied_more : (ids : List ℕ) (i : ℕ) → i < length ids → (now new end : List (List (ℕ × ℤ))) → new ≡ with_group now (Some (get_or ids i 0)) [] → emptied (drop i ids) now ≡ end → emptied (drop (i + 1) ids) new ≡ end
emptied_more ids i low now new end is so_far = ap (emptied (drop (i + 1) ids)) is ∙ sym (ap (λ ids. emptied ids now) (drop_more ids i 0 low)) ∙ so_far

pub emptied_all : (ids : List ℕ) (i : ℕ) → length ids ≤ i → (now end : List (List (ℕ × ℤ))) → emptied (drop i ids) now ≡ end → now ≡ end
emptied_all ids i done now end so_far = sym (ap (λ ids. emptied ids now) (drop_all i ids done)) ∙ so_far

-- what was taken is gone
pub taken_at : {A : Type 0} (slots slots' : List (Option A)) (id : ℕ) → slots' ≡ (if is_some (of_id slots id) then put slots id None else slots) → (q : ℕ) → of_id slots' q ≡ (if q == id then None else of_id slots q)
taken_at {A} slots slots' id e q = ap (λ slots. of_id slots q) e ∙ go (of_id slots id) refl
  where
    go : (f : Option A) → of_id slots id ≡ f → of_id (if is_some f then put slots id None else slots) q ≡ (if q == id then None else of_id slots q)
    go None f = elim (eqb_tells q id) [ inl same ↦ rw same.0 (ap (of_id slots) same.1 ∙ f) | inr differ ↦ rw differ.0 refl ]
    go (Some x) f = of_id_put slots id q x None f

pub length-taken : {A : Type 0} (slots slots' : List (Option A)) (id : ℕ) → slots' ≡ (if is_some (of_id slots id) then put slots id None else slots) → length slots' ≡ length slots
length-taken slots slots' id e = ap length e ∙ go (is_some (of_id slots id))
  where
    go : (b : Bool) → length (if b then put slots id None else slots) ≡ length slots
    go true = length-set slots (id - 1) None
    go false = refl

-- what stands at each id, where each slot is kept, changed or emptied
at_each : {A B : Type 0} (f : A → Option B) (slots : List (Option A)) (j : ℕ) → at_place (map (λ slot. option_and_then f slot) slots) j ≡ option_and_then f (at_place slots j)
at_each f [] j = refl
at_each f (slot ∷ slots) zero = refl
at_each f (slot ∷ slots) (suc j) = at_each f slots j

pub of_id_each : {A B : Type 0} (f : A → Option B) (slots : List (Option A)) (id : ℕ) → of_id (map (λ slot. option_and_then f slot) slots) id ≡ option_and_then f (of_id slots id)
of_id_each f slots zero = refl
of_id_each f slots (suc j) = of_id_suc (map (λ slot. option_and_then f slot) slots) j ∙ at_each f slots j ∙ ap (option_and_then f) (sym (of_id_suc slots j))

-- the groups where some are empty
get_cleared : (groups : List (List (ℕ × ℤ))) (id at : ℕ) → get_or (slice_set groups id []) at [] ≡ (if id == at then [] else get_or groups at [])
get_cleared [] id at = both [] (id == at)
  where
    both : (group : List (ℕ × ℤ)) (b : Bool) → group ≡ (if b then group else group)
    both group true = refl
    both group false = refl
get_cleared (one ∷ groups) zero zero = refl
get_cleared (one ∷ groups) zero (suc at) = let e : (0 == suc at) ≡ false = grind (arith, nat_tests) in rw e refl
get_cleared (one ∷ groups) (suc id) zero = let e : (suc id == 0) ≡ false = grind (arith, nat_tests) in rw e refl
get_cleared (one ∷ groups) (suc id) (suc at) = let e : (suc id == suc at) ≡ (id == at) = grind (arith, nat_tests) in rw e (get_cleared groups id at)

get_emptied : (ids : List ℕ) (groups : List (List (ℕ × ℤ))) (at : ℕ) → get_or (emptied ids groups) at [] ≡ (if has ids at then [] else get_or groups at [])
get_emptied [] groups at = refl
get_emptied (id ∷ ids) groups at = get_emptied ids (with_group groups (Some id) []) at ∙ ap (λ group. if has ids at then [] else group) (get_cleared groups id at) ∙ both (id == at) (has ids at)
  where
    both : (a b : Bool) → (if b then [] else (if a then [] else get_or groups at [])) ≡ (if a || b then [] else get_or groups at [])
    both true true = refl
    both true false = refl
    both false b = refl

length-emptied : (ids : List ℕ) (groups : List (List (ℕ × ℤ))) → length (emptied ids groups) ≡ length groups
length-emptied [] groups = refl
length-emptied (id ∷ ids) groups = length-emptied ids (with_group groups (Some id) []) ∙ length-set groups id []

-- ---- what is left of an object

record IsLeft (gone : List ℕ) (p p' : Object) : Type 0 where
  stays : has gone p.id ≡ false
  id : p'.id ≡ p.id
  layer : p'.layer ≡ p.layer
  parent : p'.parent ≡ p.parent
  limits : IsObject p → IsObject p'

left_is : (gone : List ℕ) (p p' : Object) → left gone p ≡ Some p' → IsLeft gone p p'
left_is gone p p' e = go (has gone p.id) (option_map_or (has gone) p.clipper false) refl e
  where
    go : (b d : Bool) → has gone p.id ≡ b → (if b then None else Some (if d then record p { clipper = None } else p)) ≡ Some p' → IsLeft gone p p'
    go true d f e = absurd (none-some p' e)
    go false true f e = subst (IsLeft gone p) (same_Some (record p { clipper = None }) p' e)
        (record { stays = f; id = refl; layer = refl; parent = refl; limits = λ l. record { layer_low = l.layer_low; layer_high = l.layer_high; content = l.content } })
    go false false f e = subst (IsLeft gone p) (same_Some p p' e) (record { stays = f; id = refl; layer = refl; parent = refl; limits = λ l. l })

left_gone : (gone : List ℕ) (p : Object) → has gone p.id ≡ true → left gone p ≡ None
left_gone gone p e = ap (λ b. if b then None else Some (if option_map_or (has gone) p.clipper false then record p { clipper = None } else p)) e

left_same : (gone : List ℕ) (p : Object) → has gone p.id ≡ false → (d : Bool) → option_map_or (has gone) p.clipper false ≡ d → left gone p ≡ Some (if d then record p { clipper = None } else p)
left_same gone p e d f = ap₂ (λ b d. if b then None else Some (if d then record p { clipper = None } else p)) e f

left_layer : (gone : List ℕ) (p : Object) (at : ℕ) → has gone p.id ≡ false → layer_at at p ≡ option_and_then (layer_at at) (left gone p)
left_layer gone p at e = go (option_map_or (has gone) p.clipper false) refl
  where
    go : (d : Bool) → option_map_or (has gone) p.clipper false ≡ d → layer_at at p ≡ option_and_then (layer_at at) (left gone p)
    go true f = sym (ap (option_and_then (layer_at at)) (left_same gone p e true f))
    go false f = sym (ap (option_and_then (layer_at at)) (left_same gone p e false f))

-- an object stands in no other group
no_layer : (at : ℕ) (p : Object) → place p.parent ≢ at → layer_at at p ≡ None
no_layer at p away = let differ : (place p.parent == at) ≡ false = grind (arith, nat_tests, away) in ap (λ b. if b then Some p.layer else None) differ

-- the tie of an object without a clipper
released_tie : (id : ℕ) (f : Option Object) → option_map (released id) (option_map tie_of f) ≡ option_map tie_of (option_map (unclipped id) f)
released_tie id None = refl
released_tie id (Some p) = ap Some (ap (λ b. if b then record (tie_of p) { clipper = None } else tie_of p) (same p.clipper) ∙ go (is_clipped_by id p))
  where
    same : (c : Option ℕ) → option_eq nat_eq c (Some id) ≡ option_map_or (λ clipper. clipper == id) c false
    same None = refl
    same (Some c) = refl

    go : (b : Bool) → (if b then record (tie_of p) { clipper = None } else tie_of p) ≡ tie_of (if b then apply (change.Clip None) p else p)
    go true = refl
    go false = refl

module _ {w h : ℕ} (states : List (Option (Held Object))) {groups : List (List (ℕ × ℤ))} {ties : Ties} (whole : IsWhole (record { w = w; h = h; objects = values_of states; groups = groups }) ties)
    (sound : IsSound (get ties)) (id : ℕ) (parent : Option ℕ) (o : Object) (there : of_id (values_of states) id ≡ Some o) (stood : o.parent ≡ parent) where
  abbrev objects : List (Option Object)
  objects = values_of states

  abbrev board : Board
  board = record { w = w; h = h; objects = objects; groups = groups }

  abbrev gone : List ℕ
  gone = inside board id

  abbrev left_at : ℕ → Option Object
  left_at q = option_and_then (left gone) (of_id objects q)

  id_there : is_some (of_id objects id) ≡ true
  id_there = ap is_some there

  pub gone_known : place parent < length groups
  gone_known = subst (λ parent. place parent < length groups) stood (has_group whole id o there)

  itself_gone : has gone id ≡ true
  itself_gone = ap (λ b. b || has (ids_in board (Some id)) id) (eq-eqb id id refl)

  -- no object has the id 0
  none_zero : has gone 0 ≡ false
  none_zero = nest.has_not gone 0 (λ in_it. true≢false (sym (inside_there whole sound id id_there 0 in_it)))

  -- who is left stands in nothing that went
  parent_left : (q r : ℕ) (p p' : Object) → of_id objects q ≡ Some p → IsLeft gone p p' → p'.parent ≡ Some r → has gone r ≡ true → ⊥
  parent_left q r p p' e l is goes =
      let own : p.id ≡ q = whole.own q p e in
      true≢false (sym (inside_closed whole sound id id_there q r p e (sym l.parent ∙ is) goes) ∙ ap (has gone) (sym own) ∙ l.stays)

  -- nobody stands in a group that was emptied
  nobody : (at q : ℕ) → has gone at ≡ true → None ≡ option_and_then (layer_at at) (left_at q)
  nobody at q goes = go (of_id objects q) refl
    where
      in_place : (p p' : Object) → of_id objects q ≡ Some p → IsLeft gone p p' → (parent : Option ℕ) → p'.parent ≡ parent → place parent ≢ at
      in_place p p' e l None f here = true≢false (sym goes ∙ ap (has gone) (sym here) ∙ none_zero)
      in_place p p' e l (Some r) f here = parent_left q r p p' e l f (ap (has gone) here ∙ goes)

      some : (p : Object) → of_id objects q ≡ Some p → (f : Option Object) → left gone p ≡ f → None ≡ option_and_then (layer_at at) f
      some p e None f = refl
      some p e (Some p') f = sym (no_layer at p' (in_place p p' e (left_is gone p p' f) p'.parent refl))

      go : (f : Option Object) → of_id objects q ≡ f → None ≡ option_and_then (layer_at at) (option_and_then (left gone) f)
      go None e = refl
      go (Some p) e = some p e (left gone p) refl

  -- the object itself is gone
  itself : (at q : ℕ) → q ≡ id → None ≡ option_and_then (layer_at at) (left_at q)
  itself at q same = sym (ap (option_and_then (layer_at at)) (ap (option_and_then (left gone)) (ap (of_id objects) same ∙ there) ∙ left_gone gone o (ap (has gone) (whole.own id o there) ∙ itself_gone)))

  -- all others stay in the groups that weren't emptied
  others : (at q : ℕ) → has gone at ≡ false → q ≢ id → option_and_then (layer_at at) (of_id objects q) ≡ option_and_then (layer_at at) (left_at q)
  others at q stays differ = go (of_id objects q) refl
    where
      some : (p : Object) → of_id objects q ≡ Some p → (b : Bool) → has gone p.id ≡ b → layer_at at p ≡ option_and_then (layer_at at) (left gone p)
      some p e true f =
          let above = inside_above whole sound id id_there q p e (ap (has gone) (sym (whole.own q p e)) ∙ f) differ in
          no_layer at p (λ here. true≢false (sym above.1.1 ∙ ap (has gone) (ap place (sym above.1.0) ∙ here) ∙ stays)) ∙ sym (ap (option_and_then (layer_at at)) (left_gone gone p f))
      some p e false f = left_layer gone p at f

      go : (f : Option Object) → of_id objects q ≡ f → option_and_then (layer_at at) f ≡ option_and_then (layer_at at) (option_and_then (left gone) f)
      go None e = refl
      go (Some p) e = some p e (has gone p.id) refl

  module _ (distinct : stack.IsDistinct (group groups parent)) where
    standing : (at q : ℕ) → layer_in (get_or (emptied gone (gone_from parent id groups)) at []) q ≡ option_and_then (layer_at at) (left_at q)
    standing at q = ap (λ g. layer_in g q) (get_emptied gone (gone_from parent id groups) at) ∙ go (has gone at) refl
      where
        away : has gone at ≡ false → at ≢ place parent → layer_in (get_or groups at []) q ≡ option_and_then (layer_at at) (left_at q)
        away stays far = whole.stands at q ∙ elim (eqb_tells q id) [
          | inl same ↦ ap (option_and_then (layer_at at)) (ap (of_id objects) same.1 ∙ there) ∙ no_layer at o (λ e. far (sym e ∙ ap place stood)) ∙ itself at q same.1
          | inr differ ↦ others at q stays differ.1
        ]

        near : has gone at ≡ false → at ≡ place parent → layer_in (without (group groups parent) id) q ≡ option_and_then (layer_at at) (left_at q)
        near stays here = layer_in-gone (group groups parent) id q distinct ∙ elim (eqb_tells q id) [
          | inl same ↦ rw same.0 (itself at q same.1)
          | inr differ ↦ rw differ.0 (ap (λ at. layer_in (get_or groups at []) q) (sym here) ∙ whole.stands at q ∙ others at q stays differ.1)
        ]

        go : (b : Bool) → has gone at ≡ b → layer_in (if b then [] else get_or (gone_from parent id groups) at []) q ≡ option_and_then (layer_at at) (left_at q)
        go true e = nobody at q e
        go false e = ap (λ g. layer_in g q) (get_set groups (place parent) at (without (group groups parent) id) [] gone_known) ∙ elim (eqb_tells at (place parent)) [
          | inl here ↦ rw here.0 (near e here.1)
          | inr far ↦ rw far.0 (away e far.1)
        ]

    deleted_whole : (ties' : Ties) → ((q : ℕ) → get ties' q ≡ option_map tie_of (left_at q)) → IsWhole (deleted board id parent) ties'
    deleted_whole ties' tied' = record {
      canvas = whole.canvas;
      own = λ q p' at. let was = before q p' at in (was.1.1).id ∙ whole.own q was.0 was.1.0;
      limits = λ q p' at. let was = before q p' at in (was.1.1).limits (whole.limits q was.0 was.1.0);
      stands = λ at q. standing at q ∙ sym (ap (option_and_then (layer_at at)) (of_id_each (left gone) objects q));
      grouped = length-emptied gone (gone_from parent id groups) ∙ length-set groups (place parent) (without (group groups parent) id) ∙ whole.grouped ∙ ap (λ n. n + 1) (sym (length-map objects (λ slot. option_and_then (left gone) slot)));
      tied = λ q. tied' q ∙ sym (ap (option_map tie_of) (of_id_each (left gone) objects q));
    } where
      before : (q : ℕ) (p' : Object) → of_id (map (λ slot. option_and_then (left gone) slot) objects) q ≡ Some p' → (p : Object) × ((of_id objects q ≡ Some p) × IsLeft gone p p')
      before q p' at = go (of_id objects q) refl (sym (of_id_each (left gone) objects q) ∙ at)
        where
          go : (f : Option Object) → of_id objects q ≡ f → option_and_then (left gone) f ≡ Some p' → (p : Object) × ((of_id objects q ≡ Some p) × IsLeft gone p p')
          go None f e = absurd (none-some p' e)
          go (Some p) f e = (p, (f, left_is gone p p' e))

  -- whoever has a part has it as an object
  had : (part : Tie → Option ℕ) (q x : ℕ) → option_and_then part (get ties q) ≡ Some x → (p : Object) × ((of_id objects q ≡ Some p) × (part (tie_of p) ≡ Some x))
  had part q x e = go (of_id objects q) refl (sym (ap (option_and_then part) (whole.tied q)) ∙ e)
    where
      go : (f : Option Object) → of_id objects q ≡ f → option_and_then part (option_map tie_of f) ≡ Some x → (p : Object) × ((of_id objects q ≡ Some p) × (part (tie_of p) ≡ Some x))
      go None f e = absurd (none-some x e)
      go (Some p) f e = (p, (f, e))

  -- the list of all that goes
  module _ (ids : List ℕ) (all : ids ≡ gone) where
    pub ids_serial : has ids 0 ≡ false
    ids_serial = ap (λ ids. has ids 0) all ∙ none_zero

    -- what stands in something that goes goes as well
    pub ids_members : (q p : ℕ) → parent_at (get ties) q ≡ Some p → has ids p ≡ true → has ids q ≡ true
    ids_members q p e goes =
        let u = had (λ tie. tie.parent) q p e in
        ap (λ ids. has ids q) all ∙ inside_closed whole sound id id_there q p u.0 u.1.0 u.1.1 (sym (ap (λ ids. has ids p) all) ∙ goes)

    -- and what has a clipper that goes with a smart object
    pub ids_clipped : is_smart o ≡ true → (q c : ℕ) → clipper_at (get ties) q ≡ Some c → has ids c ≡ true → has ids q ≡ true
    ids_clipped smart q c e goes =
        let u = had (λ tie. tie.clipper) q c e in
        ap (λ ids. has ids q) all ∙ inside_clipped whole sound id id_there o there smart q c u.0 u.1.0 u.1.1 (sym (ap (λ ids. has ids c) all) ∙ goes)

  none : (b : Bool) (slot : Option Object) → slot ≡ None → (if b then None else slot) ≡ None
  none true slot e = refl
  none false slot e = e

  -- ---- a smart object goes

  module _ (smart : is_smart o ≡ true) where
    same_left : (q : ℕ) → (if has gone q then None else of_id objects q) ≡ left_at q
    same_left q = go (of_id objects q) refl
      where
        free : (p : Object) → of_id objects q ≡ Some p → has gone q ≡ false → (c : Option ℕ) → p.clipper ≡ c → option_map_or (has gone) p.clipper false ≡ false
        free p e f None g = ap (λ c. option_map_or (has gone) c false) g
        free p e f (Some c) g = ap (λ c. option_map_or (has gone) c false) g ∙ off (has gone c) refl
          where
            off : (b : Bool) → has gone c ≡ b → has gone c ≡ false
            off true i = absurd (true≢false (sym (inside_clipped whole sound id id_there o there smart q c p e g i) ∙ f))
            off false i = i

        some : (p : Object) → of_id objects q ≡ Some p → (b : Bool) → has gone q ≡ b → (if b then None else Some p) ≡ left gone p
        some p e true f = sym (left_gone gone p (ap (has gone) (whole.own q p e) ∙ f))
        some p e false f = sym (left_same gone p (ap (has gone) (whole.own q p e) ∙ f) false (free p e f p.clipper refl))

        go : (f : Option Object) → of_id objects q ≡ f → (if has gone q then None else f) ≡ option_and_then (left gone) f
        go None e = none (has gone q) None refl
        go (Some p) e = some p e (has gone q) refl

    module _ (mid groups' : List (List (ℕ × ℤ))) (out : mid ≡ gone_from parent id groups) (ids : List ℕ) (all : ids ≡ gone) (emptied_is : groups' ≡ emptied ids mid)
        (states' : List (Option (Held Object))) (ids' : List ℕ) (all' : ids' ≡ gone) (gone_at : (q : ℕ) → of_id states' q ≡ (if has ids' q then None else of_id states q)) (size : length states' ≡ length states) where
      group_objects : values_of states' ≡ map (λ slot. option_and_then (left gone) slot) objects
      group_objects =
          same_slots (values_of states') (map (λ slot. option_and_then (left gone) slot) objects)
          (length-map states' (λ slot. option_map value_of slot) ∙ size ∙ sym (length-map states (λ slot. option_map value_of slot)) ∙ sym (length-map objects (λ slot. option_and_then (left gone) slot)))
          (λ q. of_id_map value_of states' q ∙ ap (option_map value_of) (gone_at q) ∙ map_choice value_of (has ids' q) None (of_id states q)
          ∙ ap₂ (λ b slot. if b then None else slot) (ap (λ ids. has ids q) all') (sym (of_id_map value_of states q)) ∙ same_left q ∙ sym (of_id_each (left gone) objects q))

      pub group_board : record { w = w; h = h; objects = values_of states'; groups = groups' } ≡ deleted board id parent
      group_board = ap₂ (λ objects groups. record { w = w; h = h; objects = objects; groups = groups }) group_objects (emptied_is ∙ ap₂ emptied all out)

      pub group_whole : stack.IsDistinct (group groups parent) → (ties' : Ties) (ids : List ℕ) → ids ≡ gone → ((q : ℕ) → get ties' q ≡ (if has ids q then None else get ties q))
          → IsWhole (record { w = w; h = h; objects = values_of states'; groups = groups' }) ties'
      group_whole distinct ties' ids all dropped = subst (λ board. IsWhole board ties') (sym group_board) (deleted_whole distinct ties' (λ q.
          dropped q ∙ ap₂ (λ b tie. if b then None else tie) (ap (λ ids. has ids q) all) (whole.tied q) ∙ sym (map_choice tie_of (has gone q) None (of_id objects q)) ∙ ap (option_map tie_of) (same_left q)))

  -- ---- another object goes

  module _ (plain : is_smart o ≡ false) where
    alone_gone : gone ≡ id ∷ []
    alone_gone = alone whole sound id id_there o there plain

    either_way : (a b : ℕ) → (b == a || false) ≡ (a == b)
    either_way a b = elim (eqb_tells b a) [ inl same ↦ rw same.0 (sym (eq-eqb a b (sym same.1))) | inr differ ↦ rw differ.0 (let e : (a == b) ≡ false = grind (arith, nat_tests, differ.1) in sym e) ]

    has_gone : (q : ℕ) → has gone q ≡ (q == id)
    has_gone q = ap (λ ids. has ids q) alone_gone ∙ either_way q id

    -- nothing stands in it
    pub memberless : (q : ℕ) → parent_at (get ties) q ≢ Some id
    memberless q e =
        let same : q ≡ id = let test : (q == id) ≡ true = sym (has_gone q) ∙ ids_members gone refl q id e itself_gone in grind (arith, nat_tests, test) in
        true≢false (sym itself_gone ∙ inside_outside whole sound id id_there id (ap (parent_at (get ties)) (sym same) ∙ e))

    one_left : (q : ℕ) → (if q == id then None else option_map (unclipped id) (of_id objects q)) ≡ left_at q
    one_left q = go (of_id objects q) refl
      where
        clipper_gone : (c : Option ℕ) → option_map_or (has gone) c false ≡ option_map_or (λ clipper. clipper == id) c false
        clipper_gone None = refl
        clipper_gone (Some c) = has_gone c

        some : (p : Object) → of_id objects q ≡ Some p → (b : Bool) → (q == id) ≡ b → (if b then None else Some (unclipped id p)) ≡ left gone p
        some p e true f = sym (left_gone gone p (ap (has gone) (whole.own q p e) ∙ has_gone q ∙ f))
        some p e false f = sym (left_same gone p (ap (has gone) (whole.own q p e) ∙ has_gone q ∙ f) (is_clipped_by id p) (clipper_gone p.clipper))

        go : (f : Option Object) → of_id objects q ≡ f → (if q == id then None else option_map (unclipped id) f) ≡ option_and_then (left gone) f
        go None e = none (q == id) None refl
        go (Some p) e = some p e (q == id) refl

    module _ (items : List (Held Object)) (made : map value_of items ≡ map (apply (change.Clip None)) (clipped_by board id parent)) (now : List (Option (Held Object))) (still : now ≡ states)
        (mid groups' : List (List (ℕ × ℤ))) (out : mid ≡ gone_from parent id groups) (cleared : groups' ≡ with_group mid (Some id) [])
        (spread_in states' : List (Option (Held Object))) (put_in : values_of spread_in ≡ spread (map value_of items) (values_of now)) (taken : states' ≡ (if is_some (of_id spread_in id) then put spread_in id None else spread_in)) where
      put_there : values_of spread_in ≡ spread (map (apply (change.Clip None)) (clipped_by board id parent)) objects
      put_there = put_in ∙ ap₂ (λ new states. spread new (values_of states)) made still

      one_objects : values_of states' ≡ map (λ slot. option_and_then (left gone) slot) objects
      one_objects =
          same_slots (values_of states') (map (λ slot. option_and_then (left gone) slot) objects)
          (length-map states' (λ slot. option_map value_of slot) ∙ length-taken spread_in states' id taken ∙ sym (length-map spread_in (λ slot. option_map value_of slot)) ∙ ap length put_there
          ∙ length-spread (map (apply (change.Clip None)) (clipped_by board id parent)) objects ∙ sym (length-map objects (λ slot. option_and_then (left gone) slot)))
          (λ q. of_id_map value_of states' q ∙ ap (option_map value_of) (taken_at spread_in states' id taken q) ∙ map_choice value_of (q == id) None (of_id spread_in q)
          ∙ ap (λ slot. if q == id then None else slot) (sym (of_id_map value_of spread_in q) ∙ ap (λ objects. of_id objects q) put_there ∙ spread_released whole sound id parent (parent_is whole id o there ∙ stood) q)
          ∙ one_left q ∙ sym (of_id_each (left gone) objects q))

      pub one_board : record { w = w; h = h; objects = values_of states'; groups = groups' } ≡ deleted board id parent
      one_board = ap₂ (λ objects groups. record { w = w; h = h; objects = objects; groups = groups }) one_objects (cleared ∙ ap (λ groups. with_group groups (Some id) []) out ∙ ap (λ ids. emptied ids (gone_from parent id groups)) (sym alone_gone))

      pub one_whole : stack.IsDistinct (group groups parent) → (ties' : Ties) → Drops ties id ties' → IsWhole (record { w = w; h = h; objects = values_of states'; groups = groups' }) ties'
      one_whole distinct ties' drops = subst (λ board. IsWhole board ties') (sym one_board) (deleted_whole distinct ties' (λ q.
          drops q ∙ ap (λ tie. if q == id then None else option_map (released id) tie) (whole.tied q) ∙ ap (λ tie. if q == id then None else tie) (released_tie id (of_id objects q))
          ∙ sym (map_choice tie_of (q == id) None (option_map (unclipped id) (of_id objects q))) ∙ ap (option_map tie_of) (one_left q)))
