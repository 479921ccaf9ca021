use Rattle.ev_records.specs.Turned.{in_pair}
use Rattle.ev_records.proofs.Changing.{marked_at}
use Rattle.ev_records.proofs.Nearing.{pairs_more}
use Rattle.ev_records.proofs.turned.push_turned_with.Goals as goal

pub push_if_turned-requires-clause-other : goal.push_if_turned-requires-clause-other
push_if_turned-requires-clause-other c = c.requires.within _ (marked_at c.args.found.now c.loop-i.i 0 c.loop-i-test.true)

pub loop-i-preserved : goal.loop-i-preserved
loop-i-preserved c =
    pairs_more (λ x y. in_pair c.args.records.now c.args.ranks.now x y c.args.place) c.args.found.now c.loop-i.i _ _ _ c.loop-i-test.true c.loop-i.invariant c.in_ok-push_if_turned.ensures
