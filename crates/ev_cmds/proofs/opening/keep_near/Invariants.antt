use Rattle.std.proofs.Common.{take}
use Rattle.ev_cmds.specs.TileJobs.{AreNear}
use Rattle.ev_cmds.proofs.opening.keep_near.Given as goal

abbrev pub invariant-loop-one : goal.invariant-loop-one
invariant-loop-one l = AreNear (take l.one-index l.all) l.top l.near.items
