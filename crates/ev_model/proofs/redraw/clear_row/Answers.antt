use Rattle.std.proofs.Common.{◌<◌, ◌≤◌, refl, arith}
use Rattle.ev_argb.specs.Argb.{clear}
use Rattle.ev_model.specs.Remade.{cleared}
use Rattle.ev_model.proofs.Painting.{column_more, row_done, none_past}
use Rattle.ev_model.proofs.redraw.clear_row.Goals as goal

pub loop-x-preserved : goal.loop-x-preserved
loop-x-preserved c =
    let column : c.loop-x.x < c.args.picture.now.w = omega (arith, c.width-x-end.ensures.width, c.loop-x-test.true) in
    column_more cleared c.args.picture.now c.loop-x.picture _ c.args.y c.loop-x.x clear c.loop-x.invariant column c.requires.row refl c.set.ensures.value c.set.ensures.whole c.set.ensures.pixels

pub returns : goal.returns
returns c =
    let all : c.args.picture.now.w ≤ c.loop-x.x = omega (arith, c.width-x-end.ensures.width, c.loop-x-test.false) in
    row_done cleared c.args.picture.now c.loop-x.picture c.args.y c.loop-x.x c.loop-x.invariant (none_past (λ x value. clear) c.args.picture.now.w c.loop-x.x all)
