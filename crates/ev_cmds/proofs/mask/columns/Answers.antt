use Rattle.std.proofs.Common.{arith}
use Rattle.ev_cmds.proofs.Masking.{shifts}
use Rattle.ev_cmds.proofs.mask.columns.Goals as goal

pub overflow_sub-result : goal.overflow_sub-result
overflow_sub-result c = let known = shifts c.args.left c.args.right c.requires.order c.requires.tile in omega (arith, known)
