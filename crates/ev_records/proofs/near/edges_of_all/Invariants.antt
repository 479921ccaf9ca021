use Rattle.std.proofs.Common.{take}
use Rattle.ev_records.specs.Near.{IsAroundAll}
use Rattle.ev_records.proofs.near.edges_of_all.Given as goal

abbrev pub invariant-loop-i : goal.invariant-loop-i
invariant-loop-i l = IsAroundAll l.cells (take l.i l.group) l.bound
