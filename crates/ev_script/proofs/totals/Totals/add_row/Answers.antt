use Rattle.std.proofs.Common.{ap₂, ◌∙◌, arith}
use Rattle.ev_script.specs.PixelTotals.{with_place}
use Rattle.ev_script.proofs.Counting.{counted_more}
use Rattle.ev_script.proofs.totals.Totals.add_row.Goals as goal

pub loop-pixel-preserved : goal.loop-pixel-preserved
loop-pixel-preserved c = record {
  counted = c.add_place.ensures.place ∙ ap₂ with_place c.loop-pixel.invariant.counted c.pixel-item.is ∙ counted_more c.args.self.now c.args.places.now c.loop-pixel.pixel-index c.pixel-item.result c.loop-pixel-test.true;
  count = omega (arith, c.add_place.ensures.count, c.loop-pixel.invariant.count);
}
