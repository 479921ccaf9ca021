use Rattle.std.proofs.Common.{Bool, sym, ap, refl}
use Rattle.std.specs.Prelude.{if◌then◌else◌}
use Rattle.ev_model.specs.Paint.{put}
use Rattle.ev_draw.specs.Making.{span}
use Rattle.ev_draw.proofs.Patching.{repainted, left_alone}
use Rattle.ev_draw.proofs.Solids.{span_painted}
use Rattle.ev_draw.proofs.text.put_run.Goals as goal

pub returns-then-bit : goal.returns-then-bit
returns-then-bit c =
    let s = span c.args.x c.args.y c.args.len in
    repainted s s (λ i j value. put c.args.op c.args.color value) (λ i j value. if c.args.bit then put c.args.op c.args.color value else value) c.args.len c.args.len c.args.plane.now c.put_color.new.plane refl refl
    (λ i j value has. sym (ap (λ (b : Bool). if b then put c.args.op c.args.color value else value) c.if-bit.true))
    (span_painted c.args.x c.args.y c.args.len (λ i j value. put c.args.op c.args.color value) c.args.plane.now c.put_color.new.plane c.put_color.ensures)

pub returns-else-bit : goal.returns-else-bit
returns-else-bit c =
    left_alone (span c.args.x c.args.y c.args.len) (λ i j value. if c.args.bit then put c.args.op c.args.color value else value) c.args.len c.args.plane.now
    (λ i j value has. ap (λ (b : Bool). if b then put c.args.op c.args.color value else value) c.if-bit.false)
