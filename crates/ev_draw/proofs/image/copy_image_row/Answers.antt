use Rattle.std.proofs.Common.{ℕ, ◌≡◌, ◌+◌, ◌-◌, Option, arith, ap, refl, ◌∙◌}
use Rattle.ev_argb.specs.Argb.{Argb}
use Rattle.ev_model.specs.Paint.{put_sample}
use Rattle.ev_model.specs.Sample.{sample}
use Rattle.ev_model.specs.declared.object.Op.TheVariants.{Copy}
use Rattle.ev_model.specs.declared.content.Content.TheVariants.{Image}
use Rattle.ev_draw.specs.Making.{span}
use Rattle.ev_draw.proofs.Patching.{repainted, columns_more, no_columns}
use Rattle.ev_draw.proofs.image.copy_image_row.Goals as goal

pub loop-k-init : goal.loop-k-init
loop-k-init c = no_columns c.args.x c.args.y (λ column line value. put_sample Copy c.args.color (sample (Image c.args.part.now) c.args.w c.args.h (c.args.i + (column - c.args.x)) c.args.j) value) c.args.plane.now

pub loop-k-preserved : goal.loop-k-preserved
loop-k-preserved c =
    let x = c.args.x in
    let k = c.loop-k.k in
    let found = λ (column : ℕ). sample (Image c.args.part.now) c.args.w c.args.h column c.args.j in
    columns_more x c.args.y k (x + k) 1 (k + 1) k 1 (k + 1) (λ column line value. put_sample Copy c.args.color (found (c.args.i + (column - x))) value) c.args.plane.now c.loop-k.plane c.copy_sample.new.plane refl refl refl
    c.loop-k.invariant
    (repainted (span (x + k) c.args.y 1) (span (x + k) c.args.y 1) (λ column line value. put_sample Copy c.args.color c.sample.result value) (λ column line value. put_sample Copy c.args.color (found (c.args.i + (column - x))) value) 1 1 c.loop-k.plane c.copy_sample.new.plane refl refl
    (λ column line value has.
    let l = has.left in let r = has.right in
    let e : c.args.i + k ≡ c.args.i + (column - x) = omega arith in
    ap (λ (o : Option Argb). put_sample Copy c.args.color o value) (c.sample.ensures ∙ ap found e))
    c.copy_sample.ensures)
