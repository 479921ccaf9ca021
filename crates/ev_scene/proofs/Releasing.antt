-- What an object clips, and what is made of it when the object goes.
use Rattle.std.proofs.Common.{◌≡◌, ℕ, suc, ℤ, ◌<◌, ◌+◌, Bool, true, false, ◌==◌, ◌||◌, ◌&&◌, if◌then◌else◌, List, [], ◌∷◌, ◌++◌, length, map, filter, filter_map, option_to_list, Option, Some, None, All, inl, inr, refl, sym, subst, ap, ◌∙◌, arith}
use Rattle.std.specs.FinMap.{get}
use Rattle.std.specs.List.{cons_option}
use Rattle.std.specs.Option.{option_map, option_and_then, option_map_or}
use Rattle.std.proofs.Math.Bool.{true≢false}
use Rattle.std.proofs.lemmas.Bool.{and_right}
use Rattle.std.proofs.lemmas.Bool.Decides.{nat_tests, eqb_tells}
use Rattle.std.proofs.lemmas.Option.{same_Some}
use Rattle.std.proofs.lemmas.List.{map-append, length-append, append_assoc, append-nil}
use Rattle.std.proofs.lemmas.List.Elements.{filter-append, All-filter}
use Rattle.ev_state.specs.Held.{Held}
use Rattle.ev_model.specs.Up.{is_clipped_by}
use Rattle.ev_model.specs.declared.object.Object.{Object}
use Rattle.ev_stack.specs.LayerOrder.{layer_in, ids_above, ids_from}
use Rattle.ev_groups.specs.Groups.{group, siblings}
use Rattle.ev_links.specs.Ties.{Ties, clipper_at, parent_at, has, IsSound, Counts}
use Rattle.ev_links.proofs.Counts.{Counts-none}
use Rattle.ev_links.proofs.Ways.{has-Has}
use Rattle.ev_scene.specs.Ids.{of_id, spread, value_of}
use Rattle.ev_scene.specs.Board.{MakesAtMost, values_of}
use Rattle.ev_scene.specs.Change.{apply}
use Rattle.ev_scene.specs.Roll.{IsStateOf}
use Rattle.ev_scene.specs.ObjectTies.{tie_of}
use Rattle.ev_scene.specs.Whole.{IsWhole}
use Rattle.ev_scene.specs.declared.change.Change.TheVariants as change
use Rattle.ev_scene.proofs.Making.{makes_both}
use Rattle.ev_scene.proofs.Shifting as shift
use Rattle.ev_scene.proofs.Standing.{stands_in}
use Rattle.ev_scene.proofs.Trees.{has_layer, clipper_is, parent_is}
use Rattle.ev_scene.proofs.Spreading.{spread_at, listed_stand, has_listed}

module _ (find : ℕ → Option Object) (test : Object → Bool) where
  abbrev chosen : List ℕ → List Object
  chosen ids = filter test (filter_map find ids)

  abbrev chosen_one : ℕ → List Object
  chosen_one id = filter test (option_to_list (find id))

  chosen_first : (id : ℕ) (ids : List ℕ) → chosen (id ∷ ids) ≡ chosen_one id ++ chosen ids
  chosen_first id ids = go (find id)
    where
      go : (f : Option Object) → filter test (cons_option f (filter_map find ids)) ≡ filter test (option_to_list f) ++ filter test (filter_map find ids)
      go None = refl
      go (Some o) = filter-append test (o ∷ []) (filter_map find ids)

  -- one more of them
  pub chosen_more : (change : Object → Object) (id : ℕ) (ids : List ℕ) (now new end : List Object) → new ≡ now ++ map change (chosen_one id) → now ++ map change (chosen (id ∷ ids)) ≡ end → new ++ map change (chosen ids) ≡ end
  chosen_more change id ids now new end is so_far =
      ap (λ xs. xs ++ map change (chosen ids)) is ∙ append_assoc now (map change (chosen_one id)) (map change (chosen ids))
      ∙ ap (λ xs. now ++ xs) (sym (map-append change (chosen_one id) (chosen ids)) ∙ ap (map change) (sym (chosen_first id ids))) ∙ so_far

  pub length-chosen : (id : ℕ) (ids : List ℕ) → length (chosen (id ∷ ids)) ≡ length (chosen_one id) + length (chosen ids)
  length-chosen id ids = ap length (chosen_first id ids) ∙ length-append (chosen_one id) (chosen ids)

-- the same along siblings
module _ (objects : List (Option Object)) (group : List (ℕ × ℤ)) (id : ℕ) (at : Option ℕ) (later : List ℕ) (sibling : ℕ) (objects' : List (Option Object))
    (same : objects' ≡ objects) (here : at ≡ Some sibling) (next : later ≡ ids_above group sibling) where
  abbrev clipped_of : List ℕ → List Object
  clipped_of ids = filter (is_clipped_by id) (filter_map (of_id objects) ids)

  abbrev one : List Object
  one = filter (is_clipped_by id) (option_to_list (of_id objects' sibling))

  from_here : ids_from group at ≡ sibling ∷ later
  from_here = ap (ids_from group) here ∙ ap (λ ids. sibling ∷ ids) (sym next)

  pub next_states : (now new end : List Object) → new ≡ now ++ map (apply (change.Clip None)) one
      → now ++ map (apply (change.Clip None)) (clipped_of (ids_from group at)) ≡ end → new ++ map (apply (change.Clip None)) (clipped_of later) ≡ end
  next_states now new end is so_far =
      chosen_more (of_id objects) (is_clipped_by id) (apply (change.Clip None)) sibling later now new end
      (is ∙ ap (λ objects. now ++ map (apply (change.Clip None)) (filter (is_clipped_by id) (option_to_list (of_id objects sibling)))) same)
      (sym (ap (λ ids. now ++ map (apply (change.Clip None)) (clipped_of ids)) from_here) ∙ so_far)

  pub next_made : {all start now : ℕ} (new : ℕ) → MakesAtMost (length one) now new → ((end : ℕ) → MakesAtMost (length (clipped_of (ids_from group at))) now end → MakesAtMost all start end)
      → (end : ℕ) → MakesAtMost (length (clipped_of later)) new end → MakesAtMost all start end
  next_made {now = now} new first so_far end rest =
      let size : length (clipped_of (ids_from group at)) ≡ length one + length (clipped_of later) =
      ap (λ ids. length (clipped_of ids)) from_here ∙ length-chosen (of_id objects) (is_clipped_by id) sibling later
      ∙ ap (λ objects. length (filter (is_clipped_by id) (option_to_list (of_id objects sibling))) + length (clipped_of later)) (sym same) in
      so_far end (subst (λ n. MakesAtMost n now end) (sym size) (makes_both first rest))

  pub next_fewer : length later < length (ids_from group at)
  next_fewer = let more = ap length from_here in omega (arith, more)

-- and at the end
pub all_states : (objects : List (Option Object)) (group : List (ℕ × ℤ)) (id : ℕ) (at : Option ℕ) → at ≡ None → (now end : List Object)
    → now ++ map (apply (change.Clip None)) (filter (is_clipped_by id) (filter_map (of_id objects) (ids_from group at))) ≡ end → now ≡ end
all_states objects group id at over now end so_far =
    sym (append-nil now) ∙ sym (ap (λ at. now ++ map (apply (change.Clip None)) (filter (is_clipped_by id) (filter_map (of_id objects) (ids_from group at)))) over) ∙ so_far

-- ---- the scene with them

clipper_of : (id : ℕ) (p : Object) → is_clipped_by id p ≡ true → p.clipper ≡ Some id
clipper_of id p e = go p.clipper e
  where
    go : (c : Option ℕ) → option_map_or (λ clipper. clipper == id) c false ≡ true → c ≡ Some id
    go None e = absurd (true≢false (sym e))
    go (Some c) e = ap Some (let same : c ≡ id = grind (arith, nat_tests, e) in same)

-- those of them that pass a test
has_chosen : (slots : List (Option Object)) (test : Object → Bool) (q : ℕ) (p : Object) → of_id slots q ≡ Some p → (objects : List Object) → All (λ o. of_id slots o.id ≡ Some o) objects
    → has (map (λ o. o.id) (filter test objects)) q ≡ (has (map (λ o. o.id) objects) q && test p)
has_chosen slots test q p there [] stand = refl
has_chosen slots test q p there (u ∷ objects) stand = go (test u) refl (has_chosen slots test q p there objects (λ k d h. stand (suc k) d (omega (arith, h))))
  where
    both : (a b : Bool) → (a || a && b) ≡ a
    both true b = refl
    both false b = refl

    go : (t : Bool) → test u ≡ t → has (map (λ o. o.id) (filter test objects)) q ≡ (has (map (λ o. o.id) objects) q && test p)
        → has (map (λ o. o.id) (if t then u ∷ filter test objects else filter test objects)) q ≡ ((u.id == q || has (map (λ o. o.id) objects) q) && test p)
    go true f later = elim (eqb_tells u.id q) [
      | inl same ↦ rw same.0 (sym (ap test (same_Some _ _ (sym there ∙ sym (ap (of_id slots) same.1) ∙ stand 0 u (omega arith))) ∙ f))
      | inr differ ↦ rw differ.0 later
    ]
    go false f later = elim (eqb_tells u.id q) [
      | inl same ↦
          let fails : test p ≡ false = ap test (same_Some _ _ (sym there ∙ sym (ap (of_id slots) same.1) ∙ stand 0 u (omega arith))) ∙ f in
          later ∙ ap (λ b. has (map (λ o. o.id) objects) q && b) fails ∙ and_right (has (map (λ o. o.id) objects) q) false refl ∙ sym (rw same.0 fails)
      | inr differ ↦ rw differ.0 later
    ]

-- an object without this clipper
abbrev pub unclipped : ℕ → Object → Object
unclipped id p = if is_clipped_by id p then apply (change.Clip None) p else p

-- what counts none clips nobody
pub none_clipped : (objects : List (Option Object)) (ties : Ties) → ((q : ℕ) → get ties q ≡ option_map tie_of (of_id objects q)) → (id n : ℕ) → Counts (clipper_at (get ties)) id n → n ≡ 0 → (ids : List ℕ) → filter (is_clipped_by id) (filter_map (of_id objects) ids) ≡ []
none_clipped objects ties tied id n counts none [] = refl
none_clipped objects ties tied id n counts none (x ∷ ids) = go (of_id objects x) refl (none_clipped objects ties tied id n counts none ids)
  where
    go : (f : Option Object) → of_id objects x ≡ f → filter (is_clipped_by id) (filter_map (of_id objects) ids) ≡ [] → filter (is_clipped_by id) (cons_option f (filter_map (of_id objects) ids)) ≡ []
    go None e later = later
    go (Some p) e later = pick (is_clipped_by id p) refl
      where
        pick : (b : Bool) → is_clipped_by id p ≡ b → (if b then p ∷ filter (is_clipped_by id) (filter_map (of_id objects) ids) else filter (is_clipped_by id) (filter_map (of_id objects) ids)) ≡ []
        pick true f = absurd (Counts-none (clipper_at (get ties)) id (subst (Counts (clipper_at (get ties)) id) none counts) x (ap (option_and_then (λ tie. tie.clipper)) (tied x ∙ ap (option_map tie_of) e) ∙ clipper_of id p f))
        pick false f = later

module _ {w h : ℕ} {objects : List (Option Object)} {groups : List (List (ℕ × ℤ))} {ties : Ties} (whole : IsWhole (record { w = w; h = h; objects = objects; groups = groups }) ties) where
  module _ (sound : IsSound (get ties)) (id : ℕ) (parent : Option ℕ) (stands_in_it : parent_at (get ties) id ≡ parent) where
    abbrev beside : List Object
    beside = filter_map (of_id objects) (siblings groups parent)

    stand : All (λ p. of_id objects p.id ≡ Some p) beside
    stand = listed_stand objects whole.own (siblings groups parent)

    -- what has a clipper is its sibling
    among : (q : ℕ) (p : Object) → of_id objects q ≡ Some p → (b : Bool) → is_clipped_by id p ≡ b → (has (siblings groups parent) q && b) ≡ b
    among q p at true f =
        let same : parent ≡ p.parent = sym stands_in_it ∙ sound.siblings q id (clipper_is whole q p at ∙ clipper_of id p f) ∙ parent_is whole q p at in
        ap (λ b. b && true) (has-Has _ q (has_layer (group groups parent) q p.layer (ap (λ parent. layer_in (group groups parent) q) same ∙ stands_in whole q p at)))
    among q p at false f = and_right (has (siblings groups parent) q) false refl

    -- new states of all that it clips, put at their ids
    pub spread_released : (q : ℕ) → of_id (spread (map (apply (change.Clip None)) (filter (is_clipped_by id) beside)) objects) q ≡ option_map (unclipped id) (of_id objects q)
    spread_released q =
        spread_at (apply (change.Clip None)) (λ p. refl) (filter (is_clipped_by id) beside) objects (All-filter (is_clipped_by id) (λ p. of_id objects p.id ≡ Some p) beside stand) q
        ∙ go (of_id objects q) refl
      where
        go : (f : Option Object) → of_id objects q ≡ f → option_map (λ p. if has (map (λ p. p.id) (filter (is_clipped_by id) beside)) q then apply (change.Clip None) p else p) f ≡ option_map (unclipped id) f
        go None e = refl
        go (Some p) e = ap (λ b. Some (if b then apply (change.Clip None) p else p))
            (has_chosen objects (is_clipped_by id) q p e beside stand
            ∙ ap (λ b. b && is_clipped_by id p) (has_listed objects whole.own (siblings groups parent) q p e) ∙ among q p e (is_clipped_by id p) refl)

-- each of the new states is of an object that is there
pub released_states : {w h : ℕ} (states : List (Option (Held Object))) {groups : List (List (ℕ × ℤ))} {ties : Ties} → IsWhole (record { w = w; h = h; objects = values_of states; groups = groups }) ties → (id : ℕ) (ids : List ℕ) (items : List (Held Object))
    → map value_of items ≡ map (apply (change.Clip None)) (filter (is_clipped_by id) (filter_map (of_id (values_of states)) ids)) → (now : List (Option (Held Object))) → now ≡ states → All (IsStateOf now) items
released_states states whole id ids items made now still =
    subst (λ now. All (IsStateOf now) items) (sym still) (shift.all_states states (apply (change.Clip None)) (λ o. refl) (λ o. refl) items _ made
    (All-filter (is_clipped_by id) (λ p. of_id (values_of states) p.id ≡ Some p) (filter_map (of_id (values_of states)) ids) (listed_stand (values_of states) whole.own ids)))
