use Rattle.ev_records.proofs.Changing.{kept_inside, changes_more}
use Rattle.ev_records.proofs.changes.changed_areas.Goals as goal

pub push_changed-requires : goal.push_changed-requires
push_changed-requires c = kept_inside c.args.formers.now c.args.cells.now c.loop-i.i c.index-formers-i.result c.requires.tied c.loop-i-test.true c.index-formers-i.is

pub loop-i-preserved : goal.loop-i-preserved
loop-i-preserved c =
    changes_more c.args.formers.now c.args.cells.now c.loop-i.i c.index-formers-i.result _ _ _ c.requires.tied c.loop-i.invariant c.loop-i-test.true c.index-formers-i.is c.in_ok-push_changed.ensures
