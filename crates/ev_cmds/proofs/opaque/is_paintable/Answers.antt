use Rattle.std.proofs.Common.{subst}
use Rattle.ev_geom.specs.Area.{InLimits}
use Rattle.ev_model.specs.Look.{look_of}
use Rattle.ev_model.specs.declared.object.Object.{Object}
use Rattle.ev_cmds.specs.Opaque.{IsSoundContent}
use Rattle.ev_cmds.proofs.Filling.{paintable}
use Rattle.ev_cmds.proofs.opaque.is_paintable.Goals as goal

pub returns : goal.returns
returns c =
    paintable c.args.w c.args.h (look_of c.args.one.now) c.requires c.is_premultiplied.ensures
    (subst (λ (o : Object). IsSoundContent o.content) c.get-object.ensures c.is_sound.ensures)
    (subst (λ (o : Object). InLimits o.rect) c.get-object.ensures c.w-w.ensures.limits)
