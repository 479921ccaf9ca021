use Rattle.std.proofs.Common.{◌≤ℤ◌, ◌+ℤ◌, pos, arith}
use Rattle.std.proofs.lemmas.Int.{ints}
use Rattle.ev_model.specs.Look.{look_of}
use Rattle.ev_model.specs.Paint.{painted}
use Rattle.ev_model.proofs.Painting.{nothing_past_row, row_more, rows_done}
use Rattle.ev_model.proofs.redraw.paint_record.Goals as goal

pub loop-y-preserved : goal.loop-y-preserved
loop-y-preserved c = row_more (painted (look_of c.args.one.now)) c.args.picture.now c.loop-y.picture _ c.loop-y.y c.loop-y.invariant c.paint_row.ensures

pub returns : goal.returns
returns c =
    let l = look_of c.args.one.now in
    let on = c.requires.look.canvas in
    let bottom : (l.area.y +ℤ l.area.h) ≤ℤ pos c.loop-y.y = omega (arith, ints, on.top, on.bottom, c.y-top.ensures.y, c.h.ensures.h, c.loop-y-test.false) in
    rows_done (painted l) c.args.picture.now c.loop-y.picture c.loop-y.y c.loop-y.invariant
    (nothing_past_row l c.loop-y.y c.args.picture.now.h bottom)
