use Rattle.std.proofs.Common.{Some, refl, ap}
use Rattle.ev_scene.specs.Board.{values_of}
use Rattle.ev_scene.proofs.Standing.{clipped}
use Rattle.ev_scene.proofs.Verdicts.{refuses, allows, clip_known, clip_made, wanting, has_state}
use Rattle.ev_scene.proofs.cast.Cast.clip.Goals as goal

pub returns-in-Some-clip_fault-clause-edits : goal.returns-in-Some-clip_fault-clause-edits
returns-in-Some-clip_fault-clause-edits c = (
  refuses _ _ c.in-Some-clip_fault.fault c.refusal_of.result (clip_known c.requires.whole c.args.name.now c.args.clipper.now c.in-Some.object.now c.in-Some-named.by.now (c.in-Some.ensures).value (c.in-Some-named.ensures).value)
      (c.in-Some-clip_fault.ensures).value c.refusal_of.ensures,
  refl,
)

pub change-requires-clause-there : goal.change-requires-clause-there
change-requires-clause-there c = has_state c.args.self.now.roll.states c.in-Some.object.now.id c.in-Some.object.now (c.in-Some.ensures).there

pub returns-in_err-change-clause-edits : goal.returns-in_err-change-clause-edits
returns-in_err-change-clause-edits c =
    wanting _ _ _ _ c.from_residual.result
    (allows _ _ (clip_known c.requires.whole c.args.name.now c.args.clipper.now c.in-Some.object.now c.in-Some-named.by.now (c.in-Some.ensures).value (c.in-Some-named.ensures).value)
    (c.in_default-clip_fault.ensures).value)
    c.from_residual.ensures.1
    (ap (λ states. record { w = c.args.self.now.w; h = c.args.self.now.h; objects = values_of states; groups = c.args.self.now.groups }) (c.in_err-change.ensures).err)

pub returns-clause-whole : goal.returns-clause-whole
returns-clause-whole c =
    clipped c.requires.whole c.in-Some.object.now.id c.in-Some.object.now (Some c.in-Some-named.by.now.id)
    (values_of c.change.new.self.states) c.clip.new.self (c.in-Some.ensures).there (c.in_ok-change.ensures).ok (c.in-Ok.ensures).ok

pub returns-clause-edits : goal.returns-clause-edits
returns-clause-edits c = (
  allows _ _ (clip_known c.requires.whole c.args.name.now c.args.clipper.now c.in-Some.object.now c.in-Some-named.by.now (c.in-Some.ensures).value (c.in-Some-named.ensures).value)
      (c.in_default-clip_fault.ensures).value,
  clip_made c.requires.whole c.args.name.now c.args.clipper.now c.in-Some.object.now c.in-Some-named.by.now (c.in-Some.ensures).value (c.in-Some-named.ensures).value (c.in-Some.ensures).there
      (values_of c.change.new.self.states) (c.in_ok-change.ensures).ok,
)
