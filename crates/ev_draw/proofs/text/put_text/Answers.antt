use Rattle.std.proofs.Common.{ℕ, ◌≡◌, ◌+◌, ◌-◌, ◌*◌, arith, refl, ap₂, ◌∙◌}
use Rattle.std.specs.Prelude.{unsigned_abs, pos, ◌-ℤ◌}
use Rattle.ev_model.specs.declared.object.Object.{Object}
use Rattle.ev_draw.specs.Making.{shown_by}
use Rattle.ev_draw.proofs.Patching.{no_rows, line_step, all_rows}
use Rattle.ev_draw.proofs.Sheeting.{carried}
use Rattle.ev_draw.proofs.Texting.{first_column, shows_from}
use Rattle.ev_draw.proofs.text.put_text.Goals as goal

pub loop-y-init : goal.loop-y-init
loop-y-init c =
    let p = c.args.command.now.patch in
    let z : p.top - p.top ≡ 0 = omega arith in
    no_rows p (shown_by c.args.command.now c.args.left c.args.top) c.args.plane.now ((p.right - p.left) * (p.top - p.top)) (rw z (omega arith))

pub put_text_line-requires-clause-content : goal.put_text_line-requires-clause-content
put_text_line-requires-clause-content c =
    let command = c.args.command.now in
    shows_from command.object.value c.args.font.now c.args.text.now _ c.column_of-i.result (first_column command c.args.left) _ c.requires.content
    (c.column_of-i.ensures.value ∙ ap₂ (λ (o : Object) (x : ℕ). unsigned_abs (pos (c.args.left + x) -ℤ o.rect.x)) c.get-object.ensures c.from-x.ensures)
    c.text_from-column.ensures.same

pub loop-y-preserved : goal.loop-y-preserved
loop-y-preserved c =
    line_step c.args.command.now.patch (shown_by c.args.command.now c.args.left c.args.top) c.loop-y.y _ c.args.plane.now c.loop-y.plane c.put_text_line.new.plane c.from.ensures (omega arith) c.loop-y.invariant c.put_text_line.ensures

pub returns : goal.returns
returns c =
    carried c.args.command.now c.args.left c.args.top c.args.plane.now c.loop-y.plane (shown_by c.args.command.now c.args.left c.args.top) (λ x y value has. refl)
    (all_rows c.args.command.now.patch (shown_by c.args.command.now c.args.left c.args.top) c.loop-y.y c.args.plane.now c.loop-y.plane (omega arith) c.loop-y.invariant)
