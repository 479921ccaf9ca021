use Rattle.std.proofs.Common.{ℕ, ◌+◌, ◌-◌, arith, ap, ap₂, ◌≡◌, ◌∙◌, sym, Some, length}
use Rattle.std.specs.Prelude.{unsigned_abs, pos, ◌-ℤ◌}
use Rattle.ev_model.specs.declared.object.Object.{Object}
use Rattle.ev_model.specs.declared.object.Op.TheVariants.{Copy}
use Rattle.ev_draw.proofs.Imaging.{IsLine, image_line, made_here, made_there, made_line, row_in}
use Rattle.ev_draw.proofs.image.put_image_line.Goals as goal

pub make_row-requires-clause-made : goal.make_row-requires-clause-made
make_row-requires-clause-made c =
    let command = c.args.command.now in
    let part = c.args.part.now in
    let get = c.get-object.ensures in
    let line : IsLine command part c.args.left c.args.top c.args.y c.column_of-i.result c.row_of-j.result c.width_of-w.result c.height_of-h.result = record {
      content = c.requires.content;
      low = c.requires.line.0;
      high = c.requires.line.1;
      column = c.column_of-i.ensures.value ∙ ap₂ (λ (o : Object) (x : ℕ). unsigned_abs (pos (c.args.left + x) -ℤ o.rect.x)) get c.from-x.ensures;
      row = c.row_of-j.ensures.value ∙ ap (λ (o : Object). unsigned_abs (pos (c.args.top + c.args.y) -ℤ o.rect.y)) get;
      width = c.width_of-w.ensures.value ∙ ap (λ (o : Object). unsigned_abs o.rect.w) get;
      height = c.height_of-h.ensures.value ∙ ap (λ (o : Object). unsigned_abs o.rect.h) get;
    } in
    made_here command part c.args.left c.args.top c.args.y c.column_of-i.result c.row_of-j.result c.width_of-w.result c.height_of-h.result c.args.made.now c.args.row.now line c.requires.made

pub returns-then-has_gaps-clause-painted : goal.returns-then-has_gaps-clause-painted
returns-then-has_gaps-clause-painted c =
    let command = c.args.command.now in
    let part = c.args.part.now in
    let get = c.get-object.ensures in
    let line : IsLine command part c.args.left c.args.top c.args.y c.column_of-i.result c.row_of-j.result c.width_of-w.result c.height_of-h.result = record {
      content = c.requires.content;
      low = c.requires.line.0;
      high = c.requires.line.1;
      column = c.column_of-i.ensures.value ∙ ap₂ (λ (o : Object) (x : ℕ). unsigned_abs (pos (c.args.left + x) -ℤ o.rect.x)) get c.from-x.ensures;
      row = c.row_of-j.ensures.value ∙ ap (λ (o : Object). unsigned_abs (pos (c.args.top + c.args.y) -ℤ o.rect.y)) get;
      width = c.width_of-w.ensures.value ∙ ap (λ (o : Object). unsigned_abs o.rect.w) get;
      height = c.height_of-h.ensures.value ∙ ap (λ (o : Object). unsigned_abs o.rect.h) get;
    } in
    image_line command part c.args.left c.args.top c.args.plane.now.w c.args.plane.now.h c.args.y c.column_of-i.result c.row_of-j.result c.width_of-w.result c.height_of-h.result _ _ Copy c.args.plane.now c.copy_image_row.new.plane c.requires.fits line c.from-x.ensures (omega arith)
    (sym (c.has_gaps.ensures.gaps c.if-has_gaps.true))
    c.copy_image_row.ensures

pub returns-clause-painted : goal.returns-clause-painted
returns-clause-painted c =
    let command = c.args.command.now in
    let part = c.args.part.now in
    let get = c.get-object.ensures in
    let line : IsLine command part c.args.left c.args.top c.args.y c.column_of-i.result c.row_of-j.result c.width_of-w.result c.height_of-h.result = record {
      content = c.requires.content;
      low = c.requires.line.0;
      high = c.requires.line.1;
      column = c.column_of-i.ensures.value ∙ ap₂ (λ (o : Object) (x : ℕ). unsigned_abs (pos (c.args.left + x) -ℤ o.rect.x)) get c.from-x.ensures;
      row = c.row_of-j.ensures.value ∙ ap (λ (o : Object). unsigned_abs (pos (c.args.top + c.args.y) -ℤ o.rect.y)) get;
      width = c.width_of-w.ensures.value ∙ ap (λ (o : Object). unsigned_abs o.rect.w) get;
      height = c.height_of-h.ensures.value ∙ ap (λ (o : Object). unsigned_abs o.rect.h) get;
    } in
    let same = c.make_row.ensures.len in
    let len : length c.make_row.new.row ≡ command.patch.right - command.patch.left = same ∙ c.requires.row in
    made_line command part c.args.left c.args.top c.args.plane.now.w c.args.plane.now.h c.args.y c.column_of-i.result c.row_of-j.result c.width_of-w.result c.height_of-h.result _ c.make_row.new.row c.op_of.result c.args.plane.now c.put_span.new.plane c.requires.fits line c.from-x.ensures len c.op_of.ensures
    (c.has_gaps.ensures.whole c.if-has_gaps.false)
    (c.make_row.ensures.made.are c.height_of-h.result c.row_of-j.result (row_in command part c.args.left c.args.top c.args.plane.now.w c.args.plane.now.h c.args.y c.column_of-i.result c.row_of-j.result c.width_of-w.result c.height_of-h.result c.requires.fits line) (ap Some (sym c.shown_row-shown.ensures.value) ∙ sym c.make_row.ensures.shown))
    c.put_span.ensures

pub returns-clause-made : goal.returns-clause-made
returns-clause-made c =
    let command = c.args.command.now in
    let part = c.args.part.now in
    let get = c.get-object.ensures in
    let line : IsLine command part c.args.left c.args.top c.args.y c.column_of-i.result c.row_of-j.result c.width_of-w.result c.height_of-h.result = record {
      content = c.requires.content;
      low = c.requires.line.0;
      high = c.requires.line.1;
      column = c.column_of-i.ensures.value ∙ ap₂ (λ (o : Object) (x : ℕ). unsigned_abs (pos (c.args.left + x) -ℤ o.rect.x)) get c.from-x.ensures;
      row = c.row_of-j.ensures.value ∙ ap (λ (o : Object). unsigned_abs (pos (c.args.top + c.args.y) -ℤ o.rect.y)) get;
      width = c.width_of-w.ensures.value ∙ ap (λ (o : Object). unsigned_abs o.rect.w) get;
      height = c.height_of-h.ensures.value ∙ ap (λ (o : Object). unsigned_abs o.rect.h) get;
    } in
    made_there command part c.args.left c.args.top c.args.y c.column_of-i.result c.row_of-j.result c.width_of-w.result c.height_of-h.result c.make_row.new.made c.make_row.new.row line c.make_row.ensures.made
