use Rattle.std.proofs.Common.{arith, ap, ◌∙◌}
use Rattle.std.proofs.lemmas.Int.{ints}
use Rattle.ev_region.specs.Spans.{clamped}
use Rattle.ev_region.proofs.Clips.{IsSnapped-box}
use Rattle.ev_region.proofs.block.Block.snapped.Goals as goal

pub returns : goal.returns
returns c =
    IsSnapped-box c.args.cell c.args.w c.args.h c.args.rect.now _ _ _ _ _ _ _ _ _
    c.requires.some c.requires.small c.requires.width c.requires.height
    (c.clipped-across.ensures.from ∙ ap clamped (omega (arith, ints)))
    (c.clipped-across.ensures.to ∙ ap clamped (omega (arith, ints)))
    (c.clipped-down.ensures.from ∙ ap clamped (omega (arith, ints)))
    (c.clipped-down.ensures.to ∙ ap clamped (omega (arith, ints)))
    c.snapped.ensures c.snapped-2.ensures c.between.ensures
