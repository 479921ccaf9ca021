use Rattle.std.proofs.Common.{arith, get_or, length, ◌<◌}
use Rattle.ev_records.proofs.Changing.{marked_at}
use Rattle.ev_records.proofs.Ranking.{settling_more, all_settled}
use Rattle.ev_records.proofs.ranks.settle_all.Goals as goal

pub index_mut-requires : goal.index_mut-requires
index_mut-requires c =
    let b : get_or c.args.moved.now c.loop-i.i 0 < length c.args.ranks.now.items = c.requires.are.within _ (marked_at c.args.moved.now c.loop-i.i 0 c.loop-i-test.true) in
    omega (arith, b, c.loop-i.invariant.long, c.loop-i.ranks.ok)

pub loop-i-preserved : goal.loop-i-preserved
loop-i-preserved c =
    let b : get_or c.args.moved.now c.loop-i.i 0 < length c.args.ranks.now.items = c.requires.are.within _ (marked_at c.args.moved.now c.loop-i.i 0 c.loop-i-test.true) in
    let low : get_or c.args.moved.now c.loop-i.i 0 < length c.loop-i.ranks.items = omega (arith, b, c.loop-i.invariant.long) in
    settling_more c.loop-i.ranks.items c.args.ranks.now.items c.args.moved.now c.loop-i.i c.index_mut.result.now c.settle.new.rank c.loop-i.invariant c.loop-i-test.true low c.index_mut.ensures.value c.settle.ensures

pub returns : goal.returns
returns c = all_settled c.loop-i.ranks.items c.args.ranks.now.items c.args.moved.now c.loop-i.i c.loop-i.invariant (omega arith)
