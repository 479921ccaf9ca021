use Rattle.std.proofs.Common.{◌≡◌, ◌++◌, length}
use Rattle.ev_model.specs.Order.{in_order}
use Rattle.ev_groups.specs.Groups.{siblings}
use Rattle.ev_groups.specs.Walk.{ahead}
use Rattle.ev_groups.proofs.groups.Groups.walk.Given as goal

-- what was given, and what is ahead, are all
abbrev pub invariant-loop-frame : goal.invariant-loop-frame
invariant-loop-frame l = l.ids.items ++ ahead l.self l.frames.items ≡ l.initial.ids.items ++ in_order l.fn.levels (siblings l.self) l.fn.root

abbrev pub decreases-loop-frame : goal.decreases-loop-frame
decreases-loop-frame l = length (ahead l.self l.frames.items)
