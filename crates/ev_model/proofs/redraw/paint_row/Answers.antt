use Rattle.std.proofs.Common.{◌<◌, ◌≤ℤ◌, ◌<ℤ◌, ◌+ℤ◌, pos, ap, ◌∙◌, arith}
use Rattle.std.proofs.lemmas.Int.{ints}
use Rattle.ev_model.specs.Look.{look_of}
use Rattle.ev_model.specs.Paint.{painted, put_sample, sample_at}
use Rattle.ev_model.proofs.Painting.{painted_inside, nothing_past_column, column_more, row_done}
use Rattle.ev_model.proofs.redraw.paint_row.Goals as goal

pub loop-x-preserved : goal.loop-x-preserved
loop-x-preserved c =
    let l = look_of c.args.one.now in
    let on = c.requires.look.canvas in
    let left : l.area.x ≤ℤ pos c.loop-x.x = omega (arith, ints, on.left, c.x-left.ensures.x, c.loop-x.auto.x) in
    let right : pos c.loop-x.x <ℤ (l.area.x +ℤ l.area.w) = omega (arith, ints, on.left, on.right, c.x-left.ensures.x, c.w.ensures.w, c.loop-x-test.true) in
    let column : c.loop-x.x < c.args.picture.now.w = omega (arith, ints, right, on.right) in
    column_more (painted l) c.args.picture.now c.loop-x.picture _ c.args.y c.loop-x.x c.painted.result
    c.loop-x.invariant column c.requires.row
    (painted_inside l c.loop-x.x c.args.y _ _ left right c.requires.top c.requires.bottom
    (c.painted.ensures ∙ ap (put_sample l.object.op l.color (sample_at l.object c.loop-x.x c.args.y)) c.get-below.ensures))
    c.set.ensures.value c.set.ensures.whole c.set.ensures.pixels

pub returns : goal.returns
returns c =
    let l = look_of c.args.one.now in
    let on = c.requires.look.canvas in
    let last : (l.area.x +ℤ l.area.w) ≤ℤ pos c.loop-x.x = omega (arith, ints, on.left, on.right, c.x-left.ensures.x, c.w.ensures.w, c.loop-x-test.false) in
    row_done (painted l) c.args.picture.now c.loop-x.picture c.args.y c.loop-x.x c.loop-x.invariant
    (nothing_past_column l c.args.y c.loop-x.x c.args.picture.now.w last)
