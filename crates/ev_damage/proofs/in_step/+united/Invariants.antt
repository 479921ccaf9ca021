use Rattle.std.proofs.Common.{length}
use Rattle.ev_damage.proofs.in_step.+united.Given as goal

abbrev pub decreases-united : goal.decreases-united
decreases-united l = length l.areas.now
