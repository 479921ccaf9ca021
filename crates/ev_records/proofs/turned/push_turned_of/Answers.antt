use Rattle.std.proofs.Common.{ℕ, List, sym, subst, get_or}
use Rattle.ev_records.specs.Near.{FindsNear}
use Rattle.ev_records.proofs.Changing.{marked_at}
use Rattle.ev_records.proofs.Gatherings.{turned_more}
use Rattle.ev_records.proofs.Nearing.{near_counts}
use Rattle.ev_records.proofs.turned.push_turned_of.Goals as goal

pub push_turned_with-requires-clause-there : goal.push_turned_with-requires-clause-there
push_turned_with-requires-clause-there c = c.requires.within _ (marked_at c.args.group.now c.loop-i.i 0 c.loop-i-test.true)

pub loop-i-preserved : goal.loop-i-preserved
loop-i-preserved c =
    let P : List ℕ → Type 0 = FindsNear c.args.records.now c.args.group.now in
    turned_more c.args.records.now c.args.ranks.now c.args.group.now c.loop-i.i _ _ _ c.loop-i-test.true c.loop-i.invariant
    (near_counts c.args.records.now c.args.ranks.now c.args.group.now c.deref.result.now (get_or c.args.group.now c.loop-i.i 0) _ _ (subst P (sym c.deref.ensures.value) c.in_ok-found.ensures)
    (marked_at c.args.group.now c.loop-i.i 0 c.loop-i-test.true) c.in_ok-push_turned_with.ensures)
