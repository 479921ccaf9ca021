use Rattle.std.proofs.Common.{arith, ap, ◌∙◌}
use Rattle.std.proofs.lemmas.Int.{ints}
use Rattle.ev_region.specs.Spans.{clamped}
use Rattle.ev_region.proofs.Clips.{IsClipped-box}
use Rattle.ev_region.proofs.block.Block.of.Goals as goal

pub returns : goal.returns
returns c =
    IsClipped-box c.args.rect.now _ _ _ _ _
    (c.clipped.ensures.from ∙ ap clamped (omega (arith, ints)))
    (c.clipped.ensures.to ∙ ap clamped (omega (arith, ints)))
    (c.clipped-2.ensures.from ∙ ap clamped (omega (arith, ints)))
    (c.clipped-2.ensures.to ∙ ap clamped (omega (arith, ints)))
    c.between.ensures
