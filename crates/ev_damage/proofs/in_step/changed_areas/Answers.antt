use Rattle.ev_damage.proofs.Stepping.{same_here, changes_more}
use Rattle.ev_damage.proofs.in_step.changed_areas.Goals as goal

pub push_changed-requires : goal.push_changed-requires
push_changed-requires c =
    same_here c.args.marks.any c.args.marks.ids.now c.args.old.now c.args.new.now c.loop-i.i c.index-old-i.result c.index-new-i.result c.requires.same_ids c.requires.new_ids c.requires.unmarked c.loop-i-test.true c.index-old-i.is c.index-new-i.is

pub loop-i-preserved : goal.loop-i-preserved
loop-i-preserved c =
    changes_more c.args.old.now c.args.new.now c.loop-i.i c.index-old-i.result c.index-new-i.result _ _ _ c.loop-i.invariant c.loop-i-test.true c.requires.same_ids c.index-old-i.is c.index-new-i.is c.in_ok-push_changed.ensures
