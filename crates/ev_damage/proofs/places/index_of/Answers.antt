use Rattle.ev_damage.proofs.Gathering.{index_more}
use Rattle.ev_damage.proofs.places.index_of.Goals as goal

pub loop-at-preserved : goal.loop-at-preserved
loop-at-preserved c = index_more c.args.records.now c.loop-at.at c.index-records-at.result c.loop-at.index c.insert.new.self c.requires c.loop-at.invariant c.loop-at-test.true c.index-records-at.is
    c.in_ok-insert.ensures.updates.0
