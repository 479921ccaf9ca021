use Rattle.std.proofs.Common.{◌+◌, ◌≤◌, take, subst, sym, arith}
use Rattle.ev_areas.specs.declared.edges.Edges.{Edges}
use Rattle.ev_areas.proofs.Edging.{AreAround, around_more}
use Rattle.ev_areas.proofs.edges.around.Goals as goal

pub loop-rect-preserved : goal.loop-rect-preserved
loop-rect-preserved c =
    let before = c.loop-rect.invariant in
    subst (λ (e : Edges). (e.right ≤ c.args.w) × (e.bottom ≤ c.args.h) × AreAround (take (c.loop-rect.rect-index + 1) c.args.rects.now) c.args.w c.args.h e) (sym c.join-bounds.ensures) (
      omega (arith, before.0, c.of.ensures.right),
      omega (arith, before.1, c.of.ensures.bottom),
      around_more c.args.rects.now c.loop-rect.rect-index c.args.w c.args.h _ c.rect-item.result c.loop-rect.bounds c.of.result (omega arith) c.rect-item.is c.of.ensures before.2,
    )
