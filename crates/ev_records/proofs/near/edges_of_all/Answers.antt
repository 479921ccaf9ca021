use Rattle.ev_records.proofs.Changing.{marked_at}
use Rattle.ev_records.proofs.Nearing.{around_more}
use Rattle.ev_records.proofs.near.edges_of_all.Goals as goal

pub edges_at-requires : goal.edges_at-requires
edges_at-requires c = c.requires _ (marked_at c.args.group.now c.loop-i.i 0 c.loop-i-test.true)

pub loop-i-preserved : goal.loop-i-preserved
loop-i-preserved c = rw c.join-bound.ensures (around_more c.args.cells.now c.args.group.now c.loop-i.i c.loop-i.bound c.edges_at.result c.loop-i.invariant c.loop-i-test.true c.edges_at.ensures.around c.edges_at.ensures.right c.edges_at.ensures.bottom)
