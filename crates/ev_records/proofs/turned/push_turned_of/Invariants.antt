use Rattle.std.proofs.Common.{take}
use Rattle.ev_records.specs.Turned.{in_turned, Gathers}
use Rattle.ev_records.proofs.turned.push_turned_of.Given as goal

abbrev pub invariant-loop-i : goal.invariant-loop-i
invariant-loop-i l = Gathers (in_turned l.records l.ranks (take l.i l.group)) l.initial.areas.items l.areas.items
