use Rattle.std.proofs.Common.{◌+◌, subst, sym, arith}
use Rattle.ev_cmds.proofs.Baring.{AreFirst, edges_more}
use Rattle.ev_cmds.proofs.opening.edges_of.Goals as goal

pub loop-rect-preserved : goal.loop-rect-preserved
loop-rect-preserved c =
    subst (AreFirst c.rects-rect-items.result.now (c.loop-rect.rect-index + 1) c.args.w c.args.h) (sym c.in_ok-push.ensures.items)
    (edges_more c.rects-rect-items.result.now c.loop-rect.rect-index c.args.w c.args.h _ c.rect-item.result c.loop-rect.found.items c.of.result (omega arith) c.loop-rect.invariant c.rect-item.is c.of.ensures)
