use Rattle.std.proofs.Common.{true, false, refl, sym, ap, ◌∙◌}
use Rattle.ev_scene.specs.Board.{board}
use Rattle.ev_scene.proofs.Rehoming.{members_known}
use Rattle.ev_scene.proofs.Verdicts.{refuses, allows, join_known, join_made, wanting}
use Rattle.ev_scene.proofs.cast.Cast.join.Goals as goal

pub returns-in-Some-join_fault-clause-edits : goal.returns-in-Some-join_fault-clause-edits
returns-in-Some-join_fault-clause-edits c = (
  refuses _ _ c.in-Some-join_fault.fault c.refusal_of.result (join_known c.requires.whole c.args.name.now c.args.smart.now c.in-Some.object.now c.in-Some-named.parent.now (c.in-Some.ensures).value (c.in-Some-named.ensures).value)
      (c.in-Some-join_fault.ensures).value c.refusal_of.ensures,
  refl,
)

pub returns-then-eq-clause-edits : goal.returns-then-eq-clause-edits
returns-then-eq-clause-edits c = (
  allows _ _ (join_known c.requires.whole c.args.name.now c.args.smart.now c.in-Some.object.now c.in-Some-named.parent.now (c.in-Some.ensures).value (c.in-Some-named.ensures).value)
      (c.in_default-join_fault.ensures).value,
  sym (join_made c.requires.whole c.args.name.now c.args.smart.now c.in-Some.object.now c.in-Some-named.parent.now (c.in-Some.ensures).value (c.in-Some-named.ensures).value true c.if-eq.ensures),
)

pub rehome-requires-clause-known : goal.rehome-requires-clause-known
rehome-requires-clause-known c =
    members_known c.requires.whole c.in-Some-named.parent.now.id c.in-Some-named.parent.now (c.in-Some-named.ensures).there

pub returns-in_err-rehome-clause-edits : goal.returns-in_err-rehome-clause-edits
returns-in_err-rehome-clause-edits c =
    wanting _ _ _ _ c.from_residual.result
    (allows _ _ (join_known c.requires.whole c.args.name.now c.args.smart.now c.in-Some.object.now c.in-Some-named.parent.now (c.in-Some.ensures).value (c.in-Some-named.ensures).value)
    (c.in_default-join_fault.ensures).value)
    c.from_residual.ensures.1 (ap board (c.in_err-rehome.ensures).err)

pub returns-clause-edits : goal.returns-clause-edits
returns-clause-edits c = (
  allows _ _ (join_known c.requires.whole c.args.name.now c.args.smart.now c.in-Some.object.now c.in-Some-named.parent.now (c.in-Some.ensures).value (c.in-Some-named.ensures).value)
      (c.in_default-join_fault.ensures).value,
  (c.in_ok-rehome.ensures).ok c.in-Some.object.now (c.in-Some.ensures).there
      ∙ sym (join_made c.requires.whole c.args.name.now c.args.smart.now c.in-Some.object.now c.in-Some-named.parent.now (c.in-Some.ensures).value (c.in-Some-named.ensures).value false c.if-eq.ensures),
)
