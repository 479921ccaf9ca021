use Rattle.std.proofs.Common.{[], ◌∷◌, ◌++◌, ℕ, ℤ, Option, Some, List, ap, sym, ◌∙◌, subst}
use Rattle.ev_state.specs.Held.{Held}
use Rattle.ev_model.specs.declared.object.Object.{Object}
use Rattle.ev_scene.specs.Board.{values_of}
use Rattle.ev_scene.specs.Whole.{IsWhole}
use Rattle.ev_scene.proofs.Standing.{memberless, undone, made_to, known_tie, next_of}
use Rattle.ev_scene.proofs.cast.Cast.make.Goals as goal

pub drop_id-requires : goal.drop_id-requires
drop_id-requires c =
    memberless c.requires.whole c.tell_ties.ensures
    c.next_id-id.result c.args.kind c.add.new.self (next_of c.args.self.now.roll.states c.next_id-id.result c.next_id-id.ensures) (c.in_ok-add.ensures).ok

pub unreachable-requires : goal.unreachable-requires
unreachable-requires c = known_tie c.args.self.now.links c.add.new.self c.next_id-id.result c.args.kind c.in_default-drop_id.field-0 (c.in_ok-add.ensures).ok (c.in_default-drop_id.ensures).fault

pub returns-in-Err-clause-whole : goal.returns-in-Err-clause-whole
returns-in-Err-clause-whole c =
    let P : List (List (ℕ × ℤ)) → Type 0 = λ groups. IsWhole (record { w = c.args.self.now.w; h = c.args.self.now.h; objects = values_of c.make.new.self.states; groups = groups }) c.drop_id.new.self in
    let Q : List (Option (Held Object)) → Type 0 = λ states. IsWhole (record { w = c.args.self.now.w; h = c.args.self.now.h; objects = values_of states; groups = c.args.self.now.groups }) c.drop_id.new.self in
    subst P (sym (c.in-Err.ensures).err) (subst Q (sym (c.make.ensures.states ∙ c.reserve.ensures.states))
    (undone c.requires.whole c.tell_ties.ensures
    c.next_id-id.result c.args.kind c.add.new.self c.drop_id.new.self (next_of c.args.self.now.roll.states c.next_id-id.result c.next_id-id.ensures) (c.in_ok-add.ensures).ok (c.in-Ok.ensures).ok))

pub returns-clause-whole : goal.returns-clause-whole
returns-clause-whole c =
    made_to c.args.self.now.roll.states c.requires.whole
    c.add-3.new.self.states c.in_ok-state.state c.args.name.now c.args.kind c.next_id-id.result c.add-2.new.self c.add.new.self c.next_id-id.ensures
    ((c.in_ok-state.ensures).value ∙ c.in_ok-object.ensures)
    (c.add-3.ensures.states ∙ ap (λ states. states ++ Some c.in_ok-state.state ∷ []) (c.make.ensures.states ∙ c.reserve.ensures.states))
    (c.in_default.ensures).ok (c.in_ok-add.ensures).ok
