use Rattle.std.proofs.Common.{map}
use Rattle.ev_model.specs.Look.{look_of}
use Rattle.ev_damage.proofs.Gathering.{kept_here, places_more}
use Rattle.ev_damage.proofs.places.places_of.Goals as goal

pub kept_place-kept-requires-clause-unmarked : goal.kept_place-kept-requires-clause-unmarked
kept_place-kept-requires-clause-unmarked c =
    kept_here c.args.marks.any c.args.marks.ids.now (map look_of c.args.others.now) c.args.records.now c.loop-one.one-index c.one-item.result c.requires.unmarked c.loop-one-test.true c.one-item.is

pub loop-one-preserved : goal.loop-one-preserved
loop-one-preserved c =
    places_more (map look_of c.args.others.now) c.args.records.now c.loop-one.one-index c.one-item.result _ _ _ c.loop-one.invariant c.loop-one-test.true c.one-item.is c.kept_place-kept.ensures c.in_ok-push.ensures.items
