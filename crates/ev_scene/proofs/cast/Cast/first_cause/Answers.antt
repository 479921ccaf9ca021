use Rattle.std.proofs.Common.{FitsSigned, w64, ◌∙◌, sym, rules, option_to_list}
use Rattle.std.proofs.Math.Bool.{true≢false}
use Rattle.ev_scene.specs.Ids.{of_id}
use Rattle.ev_scene.specs.Board.{values_of}
use Rattle.ev_scene.proofs.Refusing.{told_may, told_below, all_below, may_next, refused_range, refused_memory}
use Rattle.ev_scene.proofs.cast.Cast.first_cause.Goals as goal
use Rattle.ev_scene.proofs.cast.Cast.first_cause.Goals.{else-inside-via-then-inside+else-not-may_shift_id, else-inside-via-else-inside}

pub returns-then-not-may_shift_id : goal.returns-then-not-may_shift_id
returns-then-not-may_shift_id c =
    let dx : FitsSigned w64 c.args.dx = search rules in
    let dy : FitsSigned w64 c.args.dy = search rules in
    refused_range c.requires.whole c.tell_ties.ensures c.args.dx c.args.dy c.args.id c.requires.there c.loop-other.other
    (sym c.inside.ensures ∙ c.if-inside.true)
    (told_may c.args.dx c.args.dy dx dy (option_to_list (of_id (values_of c.args.self.now.roll.states) c.loop-other.other)) c.may_shift_id.result c.may_shift_id.ensures ∙ c.if-not-may_shift_id.true)

pub loop-other-preserved : goal.loop-other-preserved
loop-other-preserved c = may_next _ _ (values_of c.args.self.now.roll.states) c.args.self.now.links c.args.id c.loop-other.other c.loop-other.invariant
    (elim c.else-inside.branch [
      | else-inside-via-then-inside+else-not-may_shift_id w ↦ λ e. sym w.may_shift_id.ensures ∙ w.if-not-may_shift_id.false
      | else-inside-via-else-inside w ↦ λ e. absurd (true≢false (sym e ∙ sym c.inside.ensures ∙ w.if-inside.false))
    ])

pub returns : goal.returns
returns c =
    let dx : FitsSigned w64 c.args.dx = search rules in
    let dy : FitsSigned w64 c.args.dy = search rules in
    refused_memory c.requires.whole c.tell_ties.ensures c.args.dx c.args.dy c.args.id c.requires.there c.loop-other.other
    (all_below c.args.self.now.roll.states c.next_id-other-end.result c.loop-other.other c.next_id-other-end.ensures c.loop-other-test.false)
    (told_below c.args.dx c.args.dy dx dy (values_of c.args.self.now.roll.states) c.args.self.now.links c.args.id c.loop-other.other c.loop-other.invariant)
