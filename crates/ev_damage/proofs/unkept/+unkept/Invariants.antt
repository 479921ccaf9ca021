use Rattle.std.proofs.Common.{length}
use Rattle.ev_damage.proofs.unkept.+unkept.Given as goal

abbrev pub decreases-unkept : goal.decreases-unkept
decreases-unkept l = length l.records.now
