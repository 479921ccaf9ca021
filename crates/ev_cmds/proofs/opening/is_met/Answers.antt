use Rattle.std.proofs.Common.{arith, rules}
use Rattle.ev_cmds.proofs.Baring.{one_met, none_met}
use Rattle.ev_cmds.proofs.opening.is_met.Goals as goal

pub returns-then-is_some : goal.returns-then-is_some
returns-then-is_some c = one_met c.args.near.now c.loop-one.one-index _ c.args.left c.args.top c.part_on.result (omega arith) c.part_on.ensures (search rules)

pub loop-one-preserved : goal.loop-one-preserved
loop-one-preserved c = none_met c.args.near.now c.loop-one.one-index _ c.args.left c.args.top c.part_on.result (omega arith) c.loop-one.invariant c.part_on.ensures (search rules)
