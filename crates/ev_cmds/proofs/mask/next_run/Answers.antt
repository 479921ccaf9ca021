use Rattle.std.proofs.Common.{arith}
use Rattle.ev_cmds.proofs.Running.{no_run, first_within, run_found}
use Rattle.ev_cmds.proofs.mask.next_run.Goals as goal

pub returns-then-rest-eq0 : goal.returns-then-rest-eq0
returns-then-rest-eq0 c = no_run c.args.bits c.args.from (omega arith)

pub overflow_shr-bits : goal.overflow_shr-bits
overflow_shr-bits c = first_within c.args.bits c.args.from (omega arith) (omega arith)

pub returns : goal.returns
returns c = run_found c.args.bits c.args.from c.trailing_ones.result (omega arith) (omega arith) (omega (arith, c.trailing_ones.ensures))
