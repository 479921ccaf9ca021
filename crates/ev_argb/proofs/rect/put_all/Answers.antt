use Rattle.std.proofs.lemmas.List.Edits.{map_over_more}
use Rattle.ev_argb.specs.Tile.{made}
use Rattle.ev_argb.proofs.rect.put_all.Goals as goal

pub loop-i-preserved : goal.loop-i-preserved
loop-i-preserved c = rw c.put_on.ensures (map_over_more (made c.args.way c.args.pixel) c.args.to.now c.loop-i.to c.loop-i.i c.index-to-i.result c.loop-i-test.true c.loop-i.invariant c.index-to-i.is)
