use Rattle.ev_cmds.proofs.Leaving.{cut_of_all}
use Rattle.ev_cmds.proofs.commands.what_misses_may_be_left_out.Goals as goal

pub returns : goal.returns
returns c = cut_of_all
