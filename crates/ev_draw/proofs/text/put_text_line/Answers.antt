use Rattle.std.proofs.Common.{◌+◌, arith, ap, ◌∙◌}
use Rattle.std.specs.Prelude.{unsigned_abs, pos, ◌-ℤ◌}
use Rattle.ev_model.specs.declared.object.Object.{Object}
use Rattle.ev_draw.proofs.Texting.{IsLine, text_line}
use Rattle.ev_draw.proofs.text.put_text_line.Goals as goal

pub returns : goal.returns
returns c =
    let command = c.args.command.now in
    let font = c.args.font.now in
    let text = c.args.text.now in
    let line : IsLine command font text c.args.left c.args.top c.args.y c.args.i c.row_of-j.result = record {
      content = c.requires.content;
      low = c.requires.line.0;
      high = c.requires.line.1;
      row = c.row_of-j.ensures.value ∙ ap (λ (o : Object). unsigned_abs (pos (c.args.top + c.args.y) -ℤ o.rect.y)) c.get-object.ensures;
    } in
    text_line command font text c.args.left c.args.top c.args.plane.now.w c.args.plane.now.h c.args.y c.args.i c.row_of-j.result _ _ c.op_of.result c.args.plane.now c.put_text_row.new.plane c.requires.fits line c.from-x.ensures (omega arith)
    c.op_of.ensures c.put_text_row.ensures
