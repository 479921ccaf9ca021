use Rattle.std.proofs.Common.{true, false, refl, sym, ap, ◌∙◌}
use Rattle.ev_scene.specs.Board.{board}
use Rattle.ev_scene.proofs.Rehoming.{not_top}
use Rattle.ev_scene.proofs.Verdicts.{refuses, allows, leave_known, leave_made, wanting}
use Rattle.ev_scene.proofs.cast.Cast.leave.Goals as goal

pub returns-in-Some-leave_fault-clause-edits : goal.returns-in-Some-leave_fault-clause-edits
returns-in-Some-leave_fault-clause-edits c = (
  refuses _ _ c.in-Some-leave_fault.fault c.refusal_of.result (leave_known c.requires.whole c.args.name.now c.in-Some.object.now (c.in-Some.ensures).value)
      c.in-Some-leave_fault.ensures c.refusal_of.ensures,
  refl,
)

pub returns-then-is_none-clause-edits : goal.returns-then-is_none-clause-edits
returns-then-is_none-clause-edits c = (
  allows _ _ (leave_known c.requires.whole c.args.name.now c.in-Some.object.now (c.in-Some.ensures).value)
      c.in_default-leave_fault.ensures,
  sym (leave_made c.requires.whole c.args.name.now c.in-Some.object.now (c.in-Some.ensures).value false c.if-is_none.ensures),
)

pub rehome-requires-clause-other : goal.rehome-requires-clause-other
rehome-requires-clause-other c =
    not_top c.requires.whole c.tell_ties.ensures c.in-Some.object.now.id c.in-Some.object.now (c.in-Some.ensures).there c.if-is_none.ensures

pub returns-in_err-rehome-clause-edits : goal.returns-in_err-rehome-clause-edits
returns-in_err-rehome-clause-edits c =
    wanting _ _ _ _ c.from_residual.result
    (allows _ _ (leave_known c.requires.whole c.args.name.now c.in-Some.object.now (c.in-Some.ensures).value)
    c.in_default-leave_fault.ensures)
    c.from_residual.ensures.1 (ap board (c.in_err-rehome.ensures).err)

pub returns-clause-edits : goal.returns-clause-edits
returns-clause-edits c = (
  allows _ _ (leave_known c.requires.whole c.args.name.now c.in-Some.object.now (c.in-Some.ensures).value)
      c.in_default-leave_fault.ensures,
  (c.in_ok-rehome.ensures).ok c.in-Some.object.now (c.in-Some.ensures).there
      ∙ sym (leave_made c.requires.whole c.args.name.now c.in-Some.object.now (c.in-Some.ensures).value true c.if-is_none.ensures),
)
