-- Scenes and records as they are captured.
use Rattle.std.proofs.Common.{◌≡◌, ℕ, zero, suc, ◌+◌, ◌<◌, ◌≤◌, List, [], ◌∷◌, ◌++◌, All, length, filter_map, get_or, drop, Option, Some, None, refl, sym, ap, ◌∙◌, append_assoc, arith}
use Rattle.std.specs.List.{cons_option}
use Rattle.std.specs.Option.{option_map, option_to_list}
use Rattle.std.proofs.lemmas.List.{map-append, drop_all, append-nil}
use Rattle.std.proofs.Math.Seq.{drop-cons}
use Rattle.ev_state.specs.Held.{Held}
use Rattle.ev_model.specs.Limits.{IsObject, AreObjects}
use Rattle.ev_model.specs.Stage.{values}
use Rattle.ev_model.specs.declared.object.Object.{Object}
use Rattle.ev_scene.specs.Ids.{of_id, value_of}
use Rattle.ev_scene.specs.Board.{values_of}
use Rattle.ev_scene.proofs.Places.{of_id_map}

-- one more of what is there
pub one_more : {A : Type 0} (so_far now rest all : List A) (x : Option A) → now ≡ so_far ++ option_to_list x → so_far ++ cons_option x rest ≡ all → now ++ rest ≡ all
one_more so_far now rest all None e f = ap (λ xs. xs ++ rest) e ∙ append_assoc so_far [] rest ∙ f
one_more so_far now rest all (Some x) e f = ap (λ xs. xs ++ rest) e ∙ append_assoc so_far (x ∷ []) rest ∙ f

pub all_done : {A : Type 0} (xs all : List A) → xs ++ [] ≡ all → xs ≡ all
all_done xs all e = sym (append-nil xs) ∙ e

-- what the next of a list gives
pub pick_next : {A B : Type 0} (find : A → Option B) (xs : List A) (i : ℕ) (d : A) → i < length xs → filter_map find (drop i xs) ≡ cons_option (find (get_or xs i d)) (filter_map find (drop (i + 1) xs))
pick_next find xs i d low = let k : suc i ≡ i + 1 = omega arith in ap (filter_map find) (drop-cons xs i d low) ∙ ap (λ k. cons_option (find (get_or xs i d)) (filter_map find (drop k xs))) k

-- a share of the state of an id on top of others
pub pushed : (states : List (Option (Held Object))) (objects objects' : List (Held Object)) (id : ℕ) (s s' : Held Object) → objects' ≡ objects ++ s' ∷ [] → s' ≡ s → Some s ≡ of_id states id
    → values objects' ≡ values objects ++ option_to_list (of_id (values_of states) id)
pushed states objects objects' id s s' e f there =
    ap values e ∙ map-append (λ s. s.value) objects (s' ∷ []) ∙ ap (λ s. values objects ++ s.value ∷ []) f
    ∙ ap (λ x. values objects ++ option_to_list x) (sym (of_id_map value_of states id ∙ ap (option_map value_of) (sym there)))

pub not_pushed : (states : List (Option (Held Object))) (objects : List (Held Object)) (id : ℕ) → None ≡ of_id states id → values objects ≡ values objects ++ option_to_list (of_id (values_of states) id)
not_pushed states objects id none =
    sym (append-nil (values objects)) ∙ ap (λ x. values objects ++ option_to_list x) (sym (of_id_map value_of states id ∙ ap (option_map value_of) (sym none)))

-- what holds of each object that is there holds of those of some ids
pub holds_in_order : (H : Object → Type 0) (objects : List (Option Object)) (ids : List ℕ) → ((id : ℕ) (o : Object) → of_id objects id ≡ Some o → H o) → All H (filter_map (of_id objects) ids)
holds_in_order H objects [] holds = λ k d h. absurd (omega (arith, h))
holds_in_order H objects (id ∷ ids) holds = go (of_id objects id) refl (holds_in_order H objects ids holds) where
  with_first : (o : Object) (rest : List Object) → H o → All H rest → All H (o ∷ rest)
  with_first o rest first others zero d h = first
  with_first o rest first others (suc k) d h = others k d (omega (arith, h))

  go : (x : Option Object) → of_id objects id ≡ x → All H (filter_map (of_id objects) ids) → All H (cons_option x (filter_map (of_id objects) ids))
  go None e rest = rest
  go (Some o) e rest = with_first o (filter_map (of_id objects) ids) (holds id o e) rest

pub are_objects : (states : List (Held Object)) → All IsObject (values states) → AreObjects states
are_objects [] limits = λ k d h. absurd (omega (arith, h))
are_objects (s ∷ states) limits = go (limits 0 s.value (omega arith)) (are_objects states (λ k d h. limits (suc k) d (omega (arith, h)))) where
  go : IsObject s.value → AreObjects states → AreObjects (s ∷ states)
  go one rest zero d h = one
  go one rest (suc k) d h = rest k d (omega (arith, h))

-- one more object of a list of ids
pub one_more_id : (objects : List (Option Object)) (ids : List ℕ) (i d : ℕ) (so_far now all : List Object) → i < length ids → now ≡ so_far ++ option_to_list (of_id objects (get_or ids i d))
    → so_far ++ filter_map (of_id objects) (drop i ids) ≡ all → now ++ filter_map (of_id objects) (drop (i + 1) ids) ≡ all
one_more_id objects ids i d so_far now all h e f =
    one_more so_far now (filter_map (of_id objects) (drop (i + 1) ids)) all (of_id objects (get_or ids i d)) e (ap (λ rest. so_far ++ rest) (sym (pick_next (of_id objects) ids i d h)) ∙ f)

-- all ids were taken
pub all_ids : (objects : List (Option Object)) (items ids : List ℕ) (i : ℕ) (so_far : List Object) → items ≡ ids → length items ≤ i → so_far ++ filter_map (of_id objects) (drop i items) ≡ filter_map (of_id objects) items
    → so_far ≡ filter_map (of_id objects) ids
all_ids objects items ids i so_far e past f =
    all_done so_far (filter_map (of_id objects) ids) (ap (λ rest. so_far ++ filter_map (of_id objects) rest) (sym (drop_all i items past)) ∙ f ∙ ap (filter_map (of_id objects)) e)
