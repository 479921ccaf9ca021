use Rattle.std.proofs.Common.{take}
use Rattle.ev_cmds.specs.SeenEdges.{any_has}
use Rattle.ev_cmds.specs.TileJobs.{HasNone}
use Rattle.ev_cmds.proofs.opening.is_met.Given as goal

abbrev pub invariant-loop-one : goal.invariant-loop-one
invariant-loop-one l = HasNone (any_has (take l.one-index l.near)) l.left l.top
