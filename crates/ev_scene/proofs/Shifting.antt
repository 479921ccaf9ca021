-- Objects that move together.
use Rattle.std.proofs.Common.{◌≡◌, ℕ, zero, suc, ℤ, pos, ◌+ℤ◌, ◌+◌, ◌<◌, ◌≤◌, Bool, true, false, ◌&&◌, ◌==◌, List, [], ◌∷◌, ◌++◌, All, length, get_or, map, filter_map, drop, Option, Some, None, if◌then◌else◌, refl, sym, ap, ap₂, ◌∙◌, subst, arith, append_assoc}
use Rattle.std.proofs.lemmas.Bool.{and_parts}
use Rattle.std.specs.List.{cons_option, list_all}
use Rattle.std.specs.Option.{option_map, option_and_then, option_to_list}
use Rattle.std.proofs.lemmas.Option.{none-some, same_Some}
use Rattle.std.proofs.lemmas.List.{map-append, length-map, drop_all}
use Rattle.std.proofs.lemmas.Int.{ints}
use Rattle.ev_state.specs.Held.{Held}
use Rattle.ev_model.specs.Limits.{IsObject}
use Rattle.ev_model.specs.declared.object.Object.{Object}
use Rattle.ev_groups.specs.Groups.{place}
use Rattle.ev_links.specs.Ties.{Ties, has}
use Rattle.ev_scene.specs.Ids.{of_id, spread, value_of}
use Rattle.ev_scene.specs.Board.{Board, values_of, inside}
use Rattle.ev_scene.specs.Roll.{name_at, IsStateOf}
use Rattle.ev_scene.specs.Change.{apply}
use Rattle.ev_scene.specs.Edits.{may_shift, shifted_by, shifted_all}
use Rattle.ev_scene.specs.ObjectTies.{tie_of, layer_at}
use Rattle.ev_scene.specs.Whole.{IsWhole}
use Rattle.ev_scene.specs.declared.change.Change.TheVariants as change
use Rattle.ev_scene.proofs.Places.{of_id_map, same_slots}
use Rattle.ev_scene.proofs.Capturing.{all_done, pick_next}
use Rattle.ev_scene.proofs.Naming.{name_held}
use Rattle.ev_scene.proofs.Spreading.{spread_at, length-spread, listed_stand, has_listed}
use Rattle.ev_scene.proofs.Standing.{IsSameStand}

module _ {A : Type 0} (test : A → Bool) where
  -- what is there passes
  pub one_passes : (slot : Option A) (x : A) → Some x ≡ slot → list_all test (option_to_list slot) ≡ true → test x ≡ true
  one_passes slot x e h = (and_parts (test x) true (ap (λ slot. list_all test (option_to_list slot)) e ∙ h)).0

  pub cons_passes : (slot : Option A) (rest : List A) → list_all test (cons_option slot rest) ≡ (list_all test (option_to_list slot) && list_all test rest)
  cons_passes None rest = refl
  cons_passes (Some x) rest = go (test x) (list_all test rest) where
    go : (a b : Bool) → (a && b) ≡ ((a && true) && b)
    go true b = refl
    go false b = refl

  -- one more id
  pub next_passes : (find : ℕ → Option A) (ids : List ℕ) (i d : ℕ) → i < length ids
      → list_all test (filter_map find (drop i ids)) ≡ (list_all test (option_to_list (find (get_or ids i d))) && list_all test (filter_map find (drop (i + 1) ids)))
  next_passes find ids i d low = ap (list_all test) (pick_next find ids i d low) ∙ cons_passes (find (get_or ids i d)) (filter_map find (drop (i + 1) ids))

-- what is made of one more id's object, on top of what is made so far
pub one_more_made : {A B : Type 0} (find : ℕ → Option A) (f : A → B) (ids : List ℕ) (i d : ℕ) (so_far now all : List B) → i < length ids → now ≡ so_far ++ map f (option_to_list (find (get_or ids i d)))
    → so_far ++ map f (filter_map find (drop i ids)) ≡ all → now ++ map f (filter_map find (drop (i + 1) ids)) ≡ all
one_more_made find f ids i d so_far now all low e so =
    let rest : map f (filter_map find (drop i ids)) ≡ map f (option_to_list (find (get_or ids i d))) ++ map f (filter_map find (drop (i + 1) ids)) =
    ap (map f) (pick_next find ids i d low) ∙ split (find (get_or ids i d)) (filter_map find (drop (i + 1) ids)) in
    ap (λ now. now ++ map f (filter_map find (drop (i + 1) ids))) e ∙ append_assoc so_far (map f (option_to_list (find (get_or ids i d)))) (map f (filter_map find (drop (i + 1) ids)))
    ∙ ap (λ rest. so_far ++ rest) (sym rest) ∙ so
  where
    split : (slot : Option _) (rest : List _) → map f (cons_option slot rest) ≡ map f (option_to_list slot) ++ map f rest
    split None rest = refl
    split (Some x) rest = refl

pub all_made : {A B : Type 0} (find : ℕ → Option A) (f : A → B) (ids : List ℕ) (i : ℕ) (so_far all : List B) → length ids ≤ i → so_far ++ map f (filter_map find (drop i ids)) ≡ all → so_far ≡ all
all_made find f ids i so_far all past so = all_done so_far all (ap (λ ids. so_far ++ map f (filter_map find ids)) (sym (drop_all i ids past)) ∙ so)

-- one more object of a list of ids that moves, where the states stay
module _ (dx dy : ℤ) (states states' : List (Option (Held Object))) (ids : List ℕ) (i : ℕ) (low : i < length ids) (same : states' ≡ states) where
  pub still_may : list_all (may_shift dx dy) (filter_map (of_id (values_of states)) (drop i ids)) ≡ true
      → (list_all (may_shift dx dy) (option_to_list (of_id (values_of states') (get_or ids i 0))) ≡ true) × (list_all (may_shift dx dy) (filter_map (of_id (values_of states)) (drop (i + 1) ids)) ≡ true)
  still_may may =
      let halves = and_parts _ _ (sym (next_passes (may_shift dx dy) (of_id (values_of states)) ids i 0 low) ∙ may) in
      (ap (λ states. list_all (may_shift dx dy) (option_to_list (of_id (values_of states) (get_or ids i 0)))) same ∙ halves.0, halves.1)

  pub one_more_shifted : (items items' : List (Held Object)) (all : List Object) → map value_of items' ≡ map value_of items ++ map (shifted_by dx dy) (option_to_list (of_id (values_of states') (get_or ids i 0)))
      → map value_of items ++ map (shifted_by dx dy) (filter_map (of_id (values_of states)) (drop i ids)) ≡ all → map value_of items' ++ map (shifted_by dx dy) (filter_map (of_id (values_of states)) (drop (i + 1) ids)) ≡ all
  one_more_shifted items items' all e so =
      one_more_made (of_id (values_of states)) (shifted_by dx dy) ids i 0 (map value_of items) (map value_of items') all low
      (e ∙ ap (λ states. map value_of items ++ map (shifted_by dx dy) (option_to_list (of_id (values_of states) (get_or ids i 0)))) same) so

-- one more object moved
pub made_of : (states states' : List (Held Object)) (s : Held Object) (f : Object → Object) (slot : Option Object) (p : Object) → states' ≡ states ++ s ∷ [] → s.value ≡ f p → Some p ≡ slot
    → map value_of states' ≡ map value_of states ++ map f (option_to_list slot)
made_of states states' s f slot p e made there =
    ap (map value_of) e ∙ map-append value_of states (s ∷ []) ∙ ap (λ o. map value_of states ++ o ∷ []) made ∙ ap (λ slot. map value_of states ++ map f (option_to_list slot)) there

-- new states of objects that stand at their ids are states of those objects
pub all_states : (states : List (Option (Held Object))) (f : Object → Object) → ((o : Object) → (f o).id ≡ o.id) → ((o : Object) → (f o).name ≡ o.name)
    → (items : List (Held Object)) (objects : List Object) → map value_of items ≡ map f objects → All (λ o. of_id (values_of states) o.id ≡ Some o) objects → All (IsStateOf states) items
all_states states f id name [] objects e there k d low = absurd (omega (arith, low))
all_states states f id name (s ∷ items) [] e there k d low = absurd (no_states (ap length e)) where
  no_states : length (map value_of (s ∷ items)) ≡ 0 → ⊥
  no_states e = omega (arith, e)
all_states states f id name (s ∷ items) (o ∷ objects) e there k d low =
    go k d low (all_states states f id name items objects (ap tail e) (λ k d low. there (suc k) d (omega (arith, low)))) where
      tail : List Object → List Object
      tail [] = []
      tail (x ∷ xs) = xs

      head : List Object → Object
      head [] = s.value
      head (x ∷ xs) = x

      first : s.value ≡ f o
      first = ap head e

      here : IsStateOf states s
      here = ap (name_at states) (ap (λ o. o.id) first ∙ id o) ∙ name_held states o.id o (there 0 o (omega arith)) ∙ ap Some (sym (ap (λ o. o.name) first ∙ name o))

      go : (k : ℕ) (d : Held Object) → k < length (s ∷ items) → All (IsStateOf states) items → IsStateOf states (get_or (s ∷ items) k d)
      go zero d low rest = here
      go (suc k) d low rest = rest k d (omega (arith, low))

-- where all stays in its place, the scene stays
pub not_shifted : (board : Board) (id : ℕ) → shifted_all (pos 0) (pos 0) board id ≡ board
not_shifted board id = ap (λ objects. record board { objects = objects }) (all board.objects) where
  by_nothing : (at : ℤ) → at +ℤ pos 0 ≡ at
  by_nothing at = omega (arith, ints)

  one : (p : Object) → shifted_by (pos 0) (pos 0) p ≡ p
  one p = ap₂ (λ x y. apply (change.Move x y) p) (by_nothing p.rect.x) (by_nothing p.rect.y)

  choice : (b : Bool) (p : Object) → (if b then shifted_by (pos 0) (pos 0) p else p) ≡ p
  choice true p = one p
  choice false p = refl

  slot : (s : Option Object) → option_map (λ p. if has (inside board id) p.id then shifted_by (pos 0) (pos 0) p else p) s ≡ s
  slot None = refl
  slot (Some p) = ap Some (choice (has (inside board id) p.id) p)

  all : (slots : List (Option Object)) → map (λ s. option_map (λ p. if has (inside board id) p.id then shifted_by (pos 0) (pos 0) p else p) s) slots ≡ slots
  all [] = refl
  all (s ∷ slots) = ap₂ ◌∷◌ (slot s) (all slots)

-- what moves ties and places no object
pub place_stands : (x y : ℤ) (o : Object) → IsSameStand o (apply (change.Move x y) o)
place_stands x y o = record { id = refl; layer = refl; parent = refl; tie = refl; limits = λ l. record { layer_low = l.layer_low; layer_high = l.layer_high; content = l.content } }

module _ {w h : ℕ} {objects : List (Option Object)} {groups : List (List (ℕ × ℤ))} {ties : Ties} (whole : IsWhole (record { w = w; h = h; objects = objects; groups = groups }) ties) where
  -- objects with other looks
  pub looked_all : (objects' : List (Option Object)) (f : ℕ → Object → Object) → length objects' ≡ length objects → ((id : ℕ) → of_id objects' id ≡ option_map (f id) (of_id objects id)) → ((id : ℕ) (o : Object) → IsSameStand o (f id o))
      → IsWhole (record { w = w; h = h; objects = objects'; groups = groups }) ties
  looked_all objects' f size at stand = record {
    canvas = whole.canvas;
    own = λ id t there. was id t (λ t. t.id ≡ id) there (λ o e. (stand id o).id ∙ whole.own id o e);
    limits = λ id t there. was id t IsObject there (λ o e. (stand id o).limits (whole.limits id o e));
    stands = λ place id. whole.stands place id ∙ sym (ap (option_and_then (layer_at place)) (at id) ∙ same_layer place id (of_id objects id));
    grouped = whole.grouped ∙ ap (λ n. n + 1) (sym size);
    tied = λ id. whole.tied id ∙ sym (ap (option_map tie_of) (at id) ∙ same_tie id (of_id objects id));
  } where
    was : (id : ℕ) (t : Object) (P : Object → Type 0) → of_id objects' id ≡ Some t → ((o : Object) → of_id objects id ≡ Some o → P (f id o)) → P t
    was id t P there old = go (of_id objects id) refl (sym (at id) ∙ there) where
      go : (slot : Option Object) → of_id objects id ≡ slot → option_map (f id) slot ≡ Some t → P t
      go None e is = absurd (none-some t is)
      go (Some o) e is = subst P (same_Some _ _ is) (old o e)

    same_layer : (at id : ℕ) (slot : Option Object) → option_and_then (layer_at at) (option_map (f id) slot) ≡ option_and_then (layer_at at) slot
    same_layer at id None = refl
    same_layer at id (Some o) = ap₂ (λ p l. if place p == at then Some l else None) (stand id o).parent (stand id o).layer

    same_tie : (id : ℕ) (slot : Option Object) → option_map tie_of (option_map (f id) slot) ≡ option_map tie_of slot
    same_tie id None = refl
    same_tie id (Some o) = ap Some (stand id o).tie

  -- some objects that are put at their ids, once they were moved
  module _ (dx dy : ℤ) (ids : List ℕ) where
    shifted_at : (q : ℕ) → of_id (spread (map (shifted_by dx dy) (filter_map (of_id objects) ids)) objects) q ≡ option_map (λ o. if has ids q then shifted_by dx dy o else o) (of_id objects q)
    shifted_at q = spread_at (shifted_by dx dy) (λ o. refl) (filter_map (of_id objects) ids) objects (listed_stand objects whole.own ids) q ∙ go (of_id objects q) refl where
      go : (slot : Option Object) → of_id objects q ≡ slot
          → option_map (λ o. if has (map (λ o. o.id) (filter_map (of_id objects) ids)) q then shifted_by dx dy o else o) slot ≡ option_map (λ o. if has ids q then shifted_by dx dy o else o) slot
      go None e = refl
      go (Some o) e = ap (λ b. Some (if b then shifted_by dx dy o else o)) (has_listed objects whole.own ids q o e)

    shifted_size : length (spread (map (shifted_by dx dy) (filter_map (of_id objects) ids)) objects) ≡ length objects
    shifted_size = length-spread (map (shifted_by dx dy) (filter_map (of_id objects) ids)) objects

    pub shifted_values : spread (map (shifted_by dx dy) (filter_map (of_id objects) ids)) objects ≡ map (λ slot. option_map (λ o. if has ids o.id then shifted_by dx dy o else o) slot) objects
    shifted_values = same_slots _ _ (shifted_size ∙ sym (length-map objects _)) (λ q. shifted_at q ∙ go q (of_id objects q) refl ∙ sym (of_id_map (λ o. if has ids o.id then shifted_by dx dy o else o) objects q)) where
      go : (q : ℕ) (slot : Option Object) → of_id objects q ≡ slot → option_map (λ o. if has ids q then shifted_by dx dy o else o) slot ≡ option_map (λ o. if has ids o.id then shifted_by dx dy o else o) slot
      go q None e = refl
      go q (Some o) e = ap (λ q. Some (if has ids q then shifted_by dx dy o else o)) (sym (whole.own q o e))

    pub shifted_whole : (objects' : List (Option Object)) → objects' ≡ spread (map (shifted_by dx dy) (filter_map (of_id objects) ids)) objects → IsWhole (record { w = w; h = h; objects = objects'; groups = groups }) ties
    shifted_whole objects' e = subst (λ objects. IsWhole (record { w = w; h = h; objects = objects; groups = groups }) ties) (sym e)
        (looked_all (spread (map (shifted_by dx dy) (filter_map (of_id objects) ids)) objects) (λ q o. if has ids q then shifted_by dx dy o else o) shifted_size shifted_at (λ q o. stand (has ids q) o)) where
          stand : (b : Bool) (o : Object) → IsSameStand o (if b then shifted_by dx dy o else o)
          stand true o = place_stands _ _ o
          stand false o = record { id = refl; layer = refl; parent = refl; tie = refl; limits = λ l. l }
