use Rattle.std.proofs.Common.{◌≡◌, ◌-ℤ◌, FitsSigned, w64, refl, ap, ◌∙◌, sym, rules}
use Rattle.std.proofs.lemmas.Int.{to_z-of_z}
use Rattle.ev_scene.specs.Board.{values_of}
use Rattle.ev_scene.specs.Cast.{board_of}
use Rattle.std.proofs.lemmas.Bool.{and_parts}
use Rattle.ev_scene.proofs.Standing.{looked}
use Rattle.ev_scene.proofs.Moving.{passed, not_passed, told_places, told_place, no_place, group_answers, group_made, one_made, one_answers, one_refused}
use Rattle.ev_scene.proofs.Verdicts.{has_state}
use Rattle.ev_scene.proofs.cast.Cast.shift.Goals as goal

pub returns-in_default-move_to-clause-edits : goal.returns-in_default-move_to-clause-edits
returns-in_default-move_to-clause-edits c =
    let x : FitsSigned w64 c.args.x = search rules in
    let y : FitsSigned w64 c.args.y = search rules in (
      no_place (board_of c.args.self.now) c.args.name.now c.in-Some.object.now (c.in-Some.ensures).value c.args.x c.args.y (c.in-Some.ensures).there
          (told_places c.args.x c.args.y x y ∙ not_passed _ _ (c.in_default-move_to.ensures).value),
      refl,
    )

pub distance-dy-requires-clause-to : goal.distance-dy-requires-clause-to
distance-dy-requires-clause-to c = (and_parts _ _ (passed _ _ _ (c.in-Some-move_to.ensures).value).0).1

pub returns-then-is_smart-clause-edits : goal.returns-then-is_smart-clause-edits
returns-then-is_smart-clause-edits c =
    let dx : FitsSigned w64 c.distance-dx.result = search rules in
    let dy : FitsSigned w64 c.distance-dy.result = search rules in
    let along : c.distance-dx.result ≡ c.args.x -ℤ c.in-Some.object.now.rect.x = search rules in
    let down : c.distance-dy.result ≡ c.args.y -ℤ c.in-Some.object.now.rect.y = search rules in
    group_answers (board_of c.args.self.now) c.args.name.now c.in-Some.object.now (c.in-Some.ensures).value c.args.x c.args.y (sym c.is_smart.ensures ∙ c.if-is_smart.true)
    _ _ (to_z-of_z w64 c.distance-dx.result dx ∙ along) (to_z-of_z w64 c.distance-dy.result dy ∙ down) c.shift_group.result (board_of c.shift_group.new.self) c.shift_group.ensures.edits

pub returns-then-is_smart-clause-made : goal.returns-then-is_smart-clause-made
returns-then-is_smart-clause-made c =
    let dx : FitsSigned w64 c.distance-dx.result = search rules in
    let dy : FitsSigned w64 c.distance-dy.result = search rules in
    let along : c.distance-dx.result ≡ c.args.x -ℤ c.in-Some.object.now.rect.x = search rules in
    let down : c.distance-dy.result ≡ c.args.y -ℤ c.in-Some.object.now.rect.y = search rules in
    group_made (board_of c.args.self.now) c.args.name.now c.in-Some.object.now (c.in-Some.ensures).value c.args.x c.args.y
    _ _ (to_z-of_z w64 c.distance-dx.result dx ∙ along) (to_z-of_z w64 c.distance-dy.result dy ∙ down) c.args.self.now.roll.made c.shift_group.new.self.roll.made
    c.shift_group.ensures.made c.shift_group.ensures.still

pub change-requires-clause-there : goal.change-requires-clause-there
change-requires-clause-there c = has_state c.args.self.now.roll.states c.in-Some.object.now.id c.in-Some.object.now (c.in-Some.ensures).there

pub returns-in_err-change-clause-edits : goal.returns-in_err-change-clause-edits
returns-in_err-change-clause-edits c =
    let x : FitsSigned w64 c.args.x = search rules in
    let y : FitsSigned w64 c.args.y = search rules in
    one_refused (board_of c.args.self.now) c.args.name.now c.in-Some.object.now (c.in-Some.ensures).value c.args.x c.args.y (sym c.is_smart.ensures ∙ c.if-is_smart.false)
    (told_places c.args.x c.args.y x y ∙ (passed _ _ _ (c.in-Some-move_to.ensures).value).0) c.from_residual.result _ c.from_residual.ensures.1 (ap (λ states. record (board_of c.args.self.now) { objects = values_of states }) (c.in_err-change.ensures).err)

pub returns-clause-whole : goal.returns-clause-whole
returns-clause-whole c =
    looked c.requires.whole c.in-Some.object.now.id c.in-Some.object.now c.in-Some-move_to.change
    (values_of c.change.new.self.states) (c.in-Some.ensures).there (c.in-Some-move_to.ensures).fit (c.in_ok-change.ensures).ok

pub returns-clause-edits : goal.returns-clause-edits
returns-clause-edits c =
    let x : FitsSigned w64 c.args.x = search rules in
    let y : FitsSigned w64 c.args.y = search rules in
    one_answers (board_of c.args.self.now) c.args.name.now c.in-Some.object.now (c.in-Some.ensures).value c.args.x c.args.y (sym c.is_smart.ensures ∙ c.if-is_smart.false)
    (told_places c.args.x c.args.y x y ∙ (passed _ _ _ (c.in-Some-move_to.ensures).value).0) c.in-Some-move_to.change (values_of c.change.new.self.states)
    ((passed _ _ _ (c.in-Some-move_to.ensures).value).1 ∙ told_place c.args.x c.args.y x y) (c.in-Some.ensures).there (c.in_ok-change.ensures).ok

pub returns-clause-made : goal.returns-clause-made
returns-clause-made c =
    one_made (board_of c.args.self.now) c.args.name.now c.in-Some.object.now (c.in-Some.ensures).value c.args.x c.args.y c.args.self.now.roll.made c.change.new.self.made (c.change.ensures.made)
