use Rattle.std.proofs.Common.{take}
use Rattle.std.specs.List.{list_any}
use Rattle.ev_records.specs.Turned.{in_pair, Gathers}
use Rattle.ev_records.proofs.turned.push_turned_with.Given as goal

abbrev pub invariant-loop-i : goal.invariant-loop-i
invariant-loop-i l = Gathers (λ x y. list_any (in_pair l.records l.ranks x y l.place) (take l.i l.found)) l.initial.areas.items l.areas.items
