-- What a move answers.
use Rattle.std.proofs.Common.{◌≡◌, ℕ, ℤ, ◌+ℤ◌, ◌-ℤ◌, Bool, true, false, ◌&&◌, List, length, pos, int_eq, Option, Some, None, Result, if◌then◌else◌, FitsSigned, w64, to_z, of_z, refl, sym, ap, ap₂, ◌∙◌, subst, arith}
use Rattle.std.specs.List.{cons_option, list_all}
use Rattle.std.specs.Option.{option_map, option_map_or}
use Rattle.std.specs.Result.{IsErrAnd}
use Rattle.std.proofs.lemmas.Bool.Decides.{Decides-int_eq}
use Rattle.std.proofs.lemmas.Int.{ints, to_z-of_z}
use Rattle.std.proofs.lemmas.Option.{none-some, same_Some}
use Rattle.ev_geom.specs.Area.{is_place}
use Rattle.ev_model.specs.Up.{is_smart}
use Rattle.ev_model.specs.declared.object.Object.{Object}
use Rattle.ev_model.specs.declared.refusal.Refusal.{Refusal}
use Rattle.ev_model.specs.declared.refusal.Refusal.TheVariants as refusal
use Rattle.ev_scene.specs.Ids.{of_id, put}
use Rattle.ev_scene.specs.Board.{Board, MakesAtMost, inside, named}
use Rattle.ev_scene.specs.Change.{apply}
use Rattle.ev_scene.specs.Edits.{Answers, Refuses, unless, known, with_named, move_verdict, move_writes, is_at, moved, may_shift, shifted_all, objects_in, changed}
use Rattle.ev_scene.specs.declared.change.Change.{Change}
use Rattle.ev_scene.specs.declared.change.Change.TheVariants as change
use Rattle.std.proofs.lemmas.Bool.{and_parts}
use Rattle.ev_scene.proofs.Verdicts.{wanting, changed_is}

-- a test that was made, and what it gave
pub passed : {A : Type 0} (test : Bool) (given made : A) → Some given ≡ (if test then Some made else None) → (test ≡ true) × (given ≡ made)
passed true given made e = (refl, same_Some _ _ e)
passed false given made e = absurd (none-some given (sym e))

pub not_passed : {A : Type 0} (test : Bool) (made : A) → None ≡ (if test then Some made else None) → test ≡ false
not_passed true made e = absurd (none-some made e)
not_passed false made e = refl

-- numbers that went through a call
pub told_places : (x y : ℤ) → FitsSigned w64 x → FitsSigned w64 y → (is_place x && is_place y) ≡ (is_place (to_z w64 (of_z w64 x)) && is_place (to_z w64 (of_z w64 y)))
told_places x y fx fy = sym (ap₂ (λ x y. is_place x && is_place y) (to_z-of_z w64 x fx) (to_z-of_z w64 y fy))

pub told_place : (x y : ℤ) → FitsSigned w64 x → FitsSigned w64 y → change.Move (to_z w64 (of_z w64 x)) (to_z w64 (of_z w64 y)) ≡ change.Move x y
told_place x y fx fy = ap₂ change.Move (to_z-of_z w64 x fx) (to_z-of_z w64 y fy)

there_and_back : (at to : ℤ) → at +ℤ (to -ℤ at) ≡ to
there_and_back at to = omega (arith, ints)

no_distance : (to at : ℤ) → int_eq to at ≡ true → to -ℤ at ≡ pos 0
no_distance to at e = let same : to ≡ at = (Decides-int_eq to at).0 e in omega (arith, ints, same)

module _ (board : Board) (name : List ℕ) (o : Object) (is : Some o ≡ named board.objects name) (x y : ℤ) where
  abbrev verdict : Option Refusal
  verdict = known board name (move_verdict x y board)

  abbrev after : Board
  after = with_named board name (moved x y board)

  verdict_is : verdict ≡ move_verdict x y board o
  verdict_is = ap (λ found. option_map_or (move_verdict x y board) found (Some refusal.Unknown)) (sym is)

  after_is : after ≡ moved x y board o
  after_is = ap (λ found. option_map_or (moved x y board) found board) (sym is)

  -- where the numbers are no places, the object itself has none
  pub no_place : of_id board.objects o.id ≡ Some o → (is_place x && is_place y) ≡ false → Refuses verdict refusal.Range
  no_place there fails = subst (λ verdict. Refuses verdict refusal.Range) (sym (verdict_is ∙ ap (λ b. unless b refusal.Range) (go (is_smart o)))) refl where
    itself : may_shift (x -ℤ o.rect.x) (y -ℤ o.rect.y) o ≡ false
    itself = ap₂ (λ x y. is_place x && is_place y) (there_and_back o.rect.x x) (there_and_back o.rect.y y) ∙ fails

    all : (rest : List Object) → list_all (may_shift (x -ℤ o.rect.x) (y -ℤ o.rect.y)) (cons_option (of_id board.objects o.id) rest) ≡ false
    all rest = ap (λ slot. list_all (may_shift (x -ℤ o.rect.x) (y -ℤ o.rect.y)) (cons_option slot rest)) there ∙ ap (λ b. b && list_all (may_shift (x -ℤ o.rect.x) (y -ℤ o.rect.y)) rest) itself

    go : (b : Bool) → (if b then list_all (may_shift (x -ℤ o.rect.x) (y -ℤ o.rect.y)) (objects_in board o.id) else is_place x && is_place y) ≡ false
    go true = all _
    go false = fails

  -- a smart object
  pub group_answers : is_smart o ≡ true → (dx dy : ℤ) → dx ≡ x -ℤ o.rect.x → dy ≡ y -ℤ o.rect.y → (result : Result (Unit {0}) Refusal) (new : Board)
      → Answers (unless (list_all (may_shift dx dy) (objects_in board o.id)) refusal.Range) board (shifted_all dx dy board o.id) result new → Answers verdict board after result new
  group_answers smart dx dy ex ey result new said =
      subst (λ verdict. Answers verdict board after result new) (sym its_verdict) (subst (λ after. Answers (unless (list_all (may_shift dx dy) (objects_in board o.id)) refusal.Range) board after result new) (sym its_after) said)
    where
      its_verdict : verdict ≡ unless (list_all (may_shift dx dy) (objects_in board o.id)) refusal.Range
      its_verdict =
          verdict_is ∙ ap (λ b. unless (if b then list_all (may_shift (x -ℤ o.rect.x) (y -ℤ o.rect.y)) (objects_in board o.id) else is_place x && is_place y) refusal.Range) smart
          ∙ sym (ap₂ (λ dx dy. unless (list_all (may_shift dx dy) (objects_in board o.id)) refusal.Range) ex ey)

      its_after : after ≡ shifted_all dx dy board o.id
      its_after =
          after_is ∙ ap (λ b. if b then shifted_all (x -ℤ o.rect.x) (y -ℤ o.rect.y) board o.id else changed (change.Move x y) board o) smart
          ∙ sym (ap₂ (λ dx dy. shifted_all dx dy board o.id) ex ey)

  -- the states that a smart object makes, none where it stays, are few enough
  pub group_made : (dx dy : ℤ) → dx ≡ x -ℤ o.rect.x → dy ≡ y -ℤ o.rect.y → (made made' : ℕ) → MakesAtMost (length (inside board o.id)) made made' → (dx ≡ pos 0 → dy ≡ pos 0 → made' ≡ made)
      → MakesAtMost (option_map_or (move_writes x y board) (named board.objects name) 1) made made'
  group_made dx dy ex ey made made' few still = subst (λ found. MakesAtMost (option_map_or (move_writes x y board) found 1) made made') is (go (is_at x y o) refl) where
    go : (at : Bool) → is_at x y o ≡ at → MakesAtMost (if at then 1 else length (inside board o.id)) made made'
    go true e =
        let same = and_parts (int_eq x o.rect.x) (int_eq y o.rect.y) e in
        let none : made' ≡ made = still (ex ∙ no_distance x o.rect.x same.0) (ey ∙ no_distance y o.rect.y same.1) in
        record { grows = omega (arith, none); bound = omega (arith, none) }
    go false e = few

  -- the state that another object makes is one
  pub one_made : (made made' : ℕ) → MakesAtMost 1 made made' → MakesAtMost (option_map_or (move_writes x y board) (named board.objects name) 1) made made'
  one_made made made' few = subst (λ found. MakesAtMost (option_map_or (move_writes x y board) found 1) made made') is (go (is_at x y o)) where
    go : (at : Bool) → MakesAtMost (if at then 1 else length (inside board o.id)) made made'
    go true = few
    go false = record { grows = few.grows; bound = omega (arith, few.bound) }

  -- another object
  module _ (plain : is_smart o ≡ false) (places : (is_place x && is_place y) ≡ true) where
    one_verdict : verdict ≡ None
    one_verdict =
        verdict_is ∙ ap (λ b. unless (if b then list_all (may_shift (x -ℤ o.rect.x) (y -ℤ o.rect.y)) (objects_in board o.id) else is_place x && is_place y) refusal.Range) plain
        ∙ ap (λ b. unless b refusal.Range) places

    pub one_answers : (c : Change) (objects : List (Option Object)) → c ≡ change.Move x y → of_id board.objects o.id ≡ Some o → objects ≡ put board.objects o.id (option_map (apply c) (of_id board.objects o.id))
        → (verdict ≡ None) × (record board { objects = objects } ≡ after)
    one_answers c objects e there f = (
      one_verdict,
      changed_is board o c objects there f ∙ ap (λ c. changed c board o) e
          ∙ sym (after_is ∙ ap (λ b. if b then shifted_all (x -ℤ o.rect.x) (y -ℤ o.rect.y) board o.id else changed (change.Move x y) board o) plain),
    )

    pub one_refused : (result : Result (Unit {0}) Refusal) (new : Board) → IsErrAnd result (λ cause. cause ≡ refusal.NoMemory) → new ≡ board → Answers verdict board after result new
    one_refused result new = wanting verdict board after new result one_verdict
