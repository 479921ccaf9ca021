use Rattle.ev_damage.proofs.Gathering.{unkept_step}
use Rattle.ev_damage.proofs.unkept.add_unkept.Goals as goal

pub loop-i-preserved : goal.loop-i-preserved
loop-i-preserved c = λ others all.
    unkept_step others c.args.records.now c.args.places.now c.loop-i.i c.index-records-i.result _ _ _ _ (c.loop-i.invariant others all) all c.loop-i-test.true c.index-records-i.is c.in_ok-add_unless.ensures
