use Rattle.std.proofs.Common.{◌≡◌, map, take, drop, ◌++◌}
use Rattle.ev_region.specs.Flat.{moved}
use Rattle.ev_region.proofs.merge.move_ends.Given as goal

abbrev pub invariant-loop-i : goal.invariant-loop-i
invariant-loop-i l = l.steps ≡ map (moved l.from l.to) (take l.i l.initial.steps) ++ drop l.i l.initial.steps
