-- Whether all that stands inside an object may move.
use Rattle.std.proofs.Common.{◌≡◌, ℕ, ℤ, ◌+◌, ◌-◌, ◌<◌, ◌≤◌, Bool, true, false, ◌&&◌, List, [], ◌∷◌, length, map, filter_map, Option, Some, None, is_some, FitsSigned, w64, to_z, of_z, if◌then◌else◌, refl, sym, ap, ap₂, ◌∙◌, subst, inl, inr, arith}
use Rattle.std.specs.FinMap.{get}
use Rattle.std.specs.List.{list_all}
use Rattle.std.specs.Option.{option_map, option_to_list}
use Rattle.std.proofs.Math.Bool.{true≢false}
use Rattle.std.proofs.lemmas.Bool.{and_right}
use Rattle.std.proofs.lemmas.Bool.Decides.{eqb_tells}
use Rattle.std.proofs.lemmas.Int.{to_z-of_z}
use Rattle.std.proofs.lemmas.List.{length-map}
use Rattle.ev_state.specs.Held.{Held}
use Rattle.ev_model.specs.declared.object.Object.{Object}
use Rattle.ev_model.specs.declared.refusal.Refusal.TheVariants as refusal
use Rattle.ev_links.specs.Ties.{Ties, Has, has, is_inside, IsSound}
use Rattle.ev_links.proofs.Ways.{has-Has}
use Rattle.ev_scene.specs.Ids.{of_id, spread}
use Rattle.ev_scene.specs.Board.{Board, inside, values_of}
use Rattle.ev_scene.specs.Edits.{Refuses, unless, may_shift, shifted_by, shifted_all, objects_in}
use Rattle.ev_scene.specs.Whole.{IsWhole}
use Rattle.ev_scene.proofs.Places.{id_high}
use Rattle.ev_scene.proofs.Shifting.{cons_passes, shifted_values}
use Rattle.ev_scene.proofs.Trees.{inside_is}

-- where some place leaves its range, that is told
pub out_of_range : (test : Bool) → test ≡ false → Refuses (unless test refusal.Range) refusal.Range
out_of_range test fails = subst (λ b. Refuses (unless b refusal.Range) refusal.Range) (sym fails) refl

pub in_range : (test : Bool) → test ≡ true → unless test refusal.Range ≡ None
in_range test holds = ap (λ b. unless b refusal.Range) holds

-- numbers that went through a call
module _ (dx dy : ℤ) (fx : FitsSigned w64 dx) (fy : FitsSigned w64 dy) where
  pub told_may : (objects : List Object) (r : Bool) → r ≡ list_all (may_shift (to_z w64 (of_z w64 dx)) (to_z w64 (of_z w64 dy))) objects → list_all (may_shift dx dy) objects ≡ r
  told_may objects r e = sym (e ∙ ap₂ (λ dx dy. list_all (may_shift dx dy) objects) (to_z-of_z w64 dx fx) (to_z-of_z w64 dy fy))

  pub told_states : (objects made : List Object) → made ≡ map (shifted_by (to_z w64 (of_z w64 dx)) (to_z w64 (of_z w64 dy))) objects → made ≡ map (shifted_by dx dy) objects
  told_states objects made e = e ∙ ap₂ (λ dx dy. map (shifted_by dx dy) objects) (to_z-of_z w64 dx fx) (to_z-of_z w64 dy fy)

module _ {A : Type 0} (test : A → Bool) (find : ℕ → Option A) where
  -- one fails
  fails_in : (ids : List ℕ) (x : ℕ) → has ids x ≡ true → list_all test (option_to_list (find x)) ≡ false → list_all test (filter_map find ids) ≡ false
  fails_in [] x h fails = absurd (true≢false (sym h))
  fails_in (y ∷ ids) x h fails = cons_passes test (find y) (filter_map find ids) ∙ elim (eqb_tells y x) [
    | inl same ↦ ap (λ b. b && list_all test (filter_map find ids)) (ap (λ y. list_all test (option_to_list (find y))) same.1 ∙ fails)
    | inr differ ↦ ap (λ b. list_all test (option_to_list (find y)) && b) (fails_in ids x (rw differ.0 at h) fails) ∙ and_right (list_all test (option_to_list (find y))) false refl
  ]

  -- none fails
  all_pass : (ids : List ℕ) → ((x : ℕ) → Has x ids → list_all test (option_to_list (find x)) ≡ true) → list_all test (filter_map find ids) ≡ true
  all_pass [] pass = refl
  all_pass (y ∷ ids) pass = cons_passes test (find y) (filter_map find ids) ∙ ap₂ ◌&&◌ (pass y (inl refl)) (all_pass ids (λ x h. pass x (inr h)))

-- what is there up to an id and stands inside an object may move
abbrev pub MayBelow : ℤ → ℤ → List (Option Object) → Ties → ℕ → ℕ → Type 0
MayBelow dx dy objects ties id n = (x : ℕ) → x < n → is_inside ties x id ≡ true → list_all (may_shift dx dy) (option_to_list (of_id objects x)) ≡ true

pub may_next : (dx dy : ℤ) (objects : List (Option Object)) (ties : Ties) (id n : ℕ) → MayBelow dx dy objects ties id n → (is_inside ties n id ≡ true → list_all (may_shift dx dy) (option_to_list (of_id objects n)) ≡ true)
    → MayBelow dx dy objects ties id (n + 1)
may_next dx dy objects ties id n before here x low h =
    elim (eqb_tells x n) [
      | inl same ↦ ap (λ x. list_all (may_shift dx dy) (option_to_list (of_id objects x))) same.1 ∙ here (ap (λ x. is_inside ties x id) (sym same.1) ∙ h)
      | inr differ ↦ let other = differ.1 in before x (grind (arith, low, other)) h
    ]

pub told_below : (dx dy : ℤ) → FitsSigned w64 dx → FitsSigned w64 dy → (objects : List (Option Object)) (ties : Ties) (id n : ℕ) → MayBelow (to_z w64 (of_z w64 dx)) (to_z w64 (of_z w64 dy)) objects ties id n → MayBelow dx dy objects ties id n
told_below dx dy fx fy objects ties id n may x low within = told_may dx dy fx fy (option_to_list (of_id objects x)) true (sym (may x low within))

-- each id that was given lies below the next one
pub all_below : (states : List (Option (Held Object))) (next n : ℕ) → next ≡ length states + 1 → next ≤ n → length (values_of states) + 1 ≤ n
all_below states next n e past = let same : length (values_of states) ≡ length states = length-map states _ in omega (arith, e, past, same)

module _ {w h : ℕ} {objects : List (Option Object)} {groups : List (List (ℕ × ℤ))} {ties : Ties} (whole : IsWhole (record { w = w; h = h; objects = objects; groups = groups }) ties) where
  abbrev board : Board
  board = record { w = w; h = h; objects = objects; groups = groups }

  module _ (sound : IsSound (get ties)) (dx dy : ℤ) (id : ℕ) (there : is_some (of_id objects id) ≡ true) where
    one_may_not : (x : ℕ) → is_inside ties x id ≡ true → list_all (may_shift dx dy) (option_to_list (of_id objects x)) ≡ false → list_all (may_shift dx dy) (objects_in board id) ≡ false
    one_may_not x within fails = fails_in (may_shift dx dy) (of_id objects) (inside board id) x (inside_is whole sound id there x (is_there (of_id objects x) fails) ∙ within) fails where
      is_there : (slot : Option Object) → list_all (may_shift dx dy) (option_to_list slot) ≡ false → is_some slot ≡ true
      is_there None e = absurd (true≢false e)
      is_there (Some p) e = refl

    pub refused_range : (x : ℕ) → is_inside ties x id ≡ true → list_all (may_shift dx dy) (option_to_list (of_id objects x)) ≡ false → Refuses (unless (list_all (may_shift dx dy) (objects_in board id)) refusal.Range) refusal.Range
    refused_range x within fails = out_of_range _ (one_may_not x within fails)

    all_may : (n : ℕ) → length objects + 1 ≤ n → MayBelow dx dy objects ties id n → list_all (may_shift dx dy) (objects_in board id) ≡ true
    all_may n e may = all_pass (may_shift dx dy) (of_id objects) (inside board id) one where
      one : (x : ℕ) → Has x (inside board id) → list_all (may_shift dx dy) (option_to_list (of_id objects x)) ≡ true
      one x has_it = go (of_id objects x) refl where
        go : (slot : Option Object) → of_id objects x ≡ slot → list_all (may_shift dx dy) (option_to_list slot) ≡ true
        go None f = refl
        go (Some p) f =
            let high : x - 1 < length objects = id_high objects x p f in
            let low : x < n = omega (arith, high, e) in
            let within : is_inside ties x id ≡ true = sym (inside_is whole sound id there x (ap is_some f)) ∙ has-Has (inside board id) x has_it in
            ap (λ slot. list_all (may_shift dx dy) (option_to_list slot)) (sym f) ∙ may x low within

    pub refused_memory : (n : ℕ) → length objects + 1 ≤ n → MayBelow dx dy objects ties id n → Refuses (unless (list_all (may_shift dx dy) (objects_in board id)) refusal.Range) refusal.NoMemory
    refused_memory n e may = subst (λ b. Refuses (unless b refusal.Range) refusal.NoMemory) (sym (all_may n e may)) refl

  -- an object that moves with all that stands inside it
  pub group_moved : (dx dy : ℤ) (id : ℕ) (ids : List ℕ) → ids ≡ inside board id → (objects' : List (Option Object)) → objects' ≡ spread (map (shifted_by dx dy) (filter_map (of_id objects) ids)) objects
      → record board { objects = objects' } ≡ shifted_all dx dy board id
  group_moved dx dy id ids all objects' e = ap (λ objects. record board { objects = objects }) (e ∙ shifted_values whole dx dy ids
      ∙ ap (λ ids. map (λ slot. option_map (λ p. if has ids p.id then shifted_by dx dy p else p) slot) objects) all)

-- new states in place of the old ones
pub spread_is : (states states' : List (Option (Held Object))) (made all : List Object) (objects : List (Option Object)) → states' ≡ states → made ≡ all → objects ≡ spread made (values_of states') → objects ≡ spread all (values_of states)
spread_is states states' made all objects same e f = f ∙ ap₂ spread e (ap values_of same)
