use Rattle.std.proofs.Common.{◌∙◌, ap, length, refl}
use Rattle.std.proofs.lemmas.List.{length-map}
use Rattle.ev_argb.specs.Argb.{Argb, tint}
use Rattle.ev_draw.proofs.Imaging.{made_row}
use Rattle.ev_draw.proofs.image.make_row.Goals as goal

pub returns-clause-made : goal.returns-clause-made
returns-clause-made c =
    let tinted = λ (p : Argb). tint p c.args.color in
    let len = ap length c.tint_row.ensures ∙ length-map c.shown_pixels.new.into tinted ∙ c.shown_pixels.ensures.len in
    made_row c.args.part.now c.args.w c.args.i c.args.color c.args.shown _ (length c.args.row.now) c.shown_pixels.new.into c.tint_row.new.row refl c.shown_pixels.ensures.pixels c.tint_row.ensures len

pub returns-clause-len : goal.returns-clause-len
returns-clause-len c = ap length c.tint_row.ensures ∙ length-map c.shown_pixels.new.into (λ (p : Argb). tint p c.args.color) ∙ c.shown_pixels.ensures.len
