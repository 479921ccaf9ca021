use Rattle.std.proofs.Common.{◌-◌, ◌≤◌}
use Rattle.ev_cmds.specs.Masks.{AddsParts}
use Rattle.ev_cmds.proofs.Masking.{down_to}
use Rattle.ev_cmds.proofs.mask.Mask.push_parts.Given as goal

abbrev pub invariant-loop-top : goal.invariant-loop-top
invariant-loop-top l = (l.area.top ≤ l.top) × (l.top ≤ l.area.bottom) × AddsParts l.self (down_to l.area l.top) l.initial.into.items l.into.items

abbrev pub decreases-loop-top : goal.decreases-loop-top
decreases-loop-top l = l.area.bottom - l.top
