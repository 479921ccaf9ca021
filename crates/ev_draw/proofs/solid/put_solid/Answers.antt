use Rattle.std.proofs.Common.{ℕ}
use Rattle.ev_argb.specs.Argb.{Argb}
use Rattle.ev_model.specs.Paint.{put}
use Rattle.ev_draw.proofs.Solids.{patch_painted}
use Rattle.ev_draw.proofs.solid.put_solid.Goals as goal

pub returns : goal.returns
returns c =
    let within = c.requires.within in
    patch_painted c.args.patch _ _ _ _ (λ (x y : ℕ) (value : Argb). put c.args.op c.args.color value) c.args.plane.now c.put_color.new.plane c.from-x.ensures c.from-y.ensures c.from-width.ensures c.from-height.ensures within.across within.down
    c.put_color.ensures
