use Rattle.std.proofs.Common.{◌≤◌, arith}
use Rattle.ev_argb.specs.Argb.{clear}
use Rattle.ev_model.specs.Remade.{cleared}
use Rattle.ev_model.proofs.Painting.{row_more, rows_done, none_past}
use Rattle.ev_model.proofs.redraw.clear.Goals as goal

pub loop-y-preserved : goal.loop-y-preserved
loop-y-preserved c = row_more cleared c.args.picture.now c.loop-y.picture _ c.loop-y.y c.loop-y.invariant c.clear_row.ensures

pub returns : goal.returns
returns c =
    let all : c.args.picture.now.h ≤ c.loop-y.y = omega (arith, c.height-y-end.ensures.height, c.loop-y-test.false) in
    rows_done cleared c.args.picture.now c.loop-y.picture c.loop-y.y c.loop-y.invariant (λ x. none_past (λ y value. clear) c.args.picture.now.h c.loop-y.y all)
