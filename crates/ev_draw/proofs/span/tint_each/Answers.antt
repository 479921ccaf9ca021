use Rattle.std.proofs.lemmas.List.Edits.{map_over_more}
use Rattle.ev_argb.specs.Argb.{tint}
use Rattle.ev_draw.proofs.span.tint_each.Goals as goal

pub loop-i-preserved : goal.loop-i-preserved
loop-i-preserved c = rw c.tint.ensures (map_over_more (λ p. tint p c.args.color) c.args.row.now c.loop-i.row c.loop-i.i c.index-row-i.result c.loop-i-test.true c.loop-i.invariant c.index-row-i.is)
