use Rattle.std.proofs.Common.{refl}
use Rattle.ev_argb.specs.Argb.{over}
use Rattle.ev_model.specs.Paint.{put}
use Rattle.ev_draw.proofs.Solids.{rect_painted}
use Rattle.ev_draw.proofs.span.put_color.Goals as goal

pub returns-in-Copy : goal.returns-in-Copy
returns-in-Copy c =
    rect_painted c.args.plane.now c.fill_rect.new.self c.args.x c.args.y c.args.w c.args.h (λ under. c.args.color) (λ i j value. put c.args.op c.args.color value) c.fill_rect.ensures (λ i j value. rw (c.in-Copy.is) refl)

pub returns-in-Blend : goal.returns-in-Blend
returns-in-Blend c =
    rect_painted c.args.plane.now c.blend_rect.new.self c.args.x c.args.y c.args.w c.args.h (over c.args.color) (λ i j value. put c.args.op c.args.color value) c.blend_rect.ensures (λ i j value. rw (c.in-Blend.is) refl)
