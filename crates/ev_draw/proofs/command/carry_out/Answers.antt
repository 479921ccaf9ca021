use Rattle.std.proofs.Common.{ℕ, ◌+◌, sym, ap, ◌∙◌}
use Rattle.std.specs.Prelude.{Option}
use Rattle.ev_argb.specs.Argb.{Argb}
use Rattle.ev_model.specs.Paint.{put, put_sample}
use Rattle.ev_model.specs.declared.object.Object.{Object}
use Rattle.ev_cmds.specs.Sheets.{op_of}
use Rattle.ev_draw.proofs.Sheeting.{carried, rect_sample}
use Rattle.ev_draw.proofs.Texting.{text_good}
use Rattle.ev_draw.proofs.command.carry_out.Goals as goal

pub returns-in-Rect : goal.returns-in-Rect
returns-in-Rect c =
    carried c.args.command.now c.args.left c.args.top c.args.plane.now c.put_solid.new.plane (λ (x y : ℕ) (value : Argb). put c.op_of.result c.white_in.result value)
    (λ x y value has.
    rw (c.op_of.ensures, c.white_in.ensures) (sym (ap (λ (found : Option Argb). put_sample (op_of c.args.command.now) c.args.command.now.color found value)
    (rect_sample c.args.command.now.object.value (c.args.left + x) (c.args.top + y) (ap (λ (o : Object). o.content) (sym c.get-object.ensures) ∙ c.in-Rect.is)))))
    c.put_solid.ensures

pub put_image-requires-clause-content : goal.put_image-requires-clause-content
put_image-requires-clause-content c = ap (λ (o : Object). o.content) (sym c.get-object.ensures) ∙ c.in-Image.is

pub put_text_part-requires-clause-content : goal.put_text_part-requires-clause-content
put_text_part-requires-clause-content c = ap (λ (o : Object). o.content) (sym c.get-object.ensures) ∙ c.in-Text.is

pub put_text_part-requires-clause-text : goal.put_text_part-requires-clause-text
put_text_part-requires-clause-text c = text_good c.args.command.now.object.value _ c.requires.fits.limits (ap (λ (o : Object). o.content) (sym c.get-object.ensures) ∙ c.in-Text.is)
