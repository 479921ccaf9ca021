use Rattle.std.proofs.Common.{◌≡◌, false, length}
use Rattle.ev_cmds.specs.Masks.{Adds}
use Rattle.ev_cmds.proofs.Masking.{down_to}
use Rattle.ev_cmds.proofs.mask.Mask.add.Given as goal

abbrev pub invariant-loop-y : goal.invariant-loop-y
invariant-loop-y l = (length l.self-inside.rows ≡ 64) × (l.self-inside.is_spent ≡ false) × Adds (down_to l.fn.patch l.y) l.initial.self-inside.rows l.self-inside.rows
