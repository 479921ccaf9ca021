use Rattle.std.proofs.Common.{◌≡◌, length}
use Rattle.ev_cmds.specs.Masks.{Cuts}
use Rattle.ev_cmds.proofs.Masking.{down_to}
use Rattle.ev_cmds.proofs.mask.Mask.cut.Given as goal

abbrev pub invariant-loop-y : goal.invariant-loop-y
invariant-loop-y l = (length l.self-inside.rows ≡ 64) × Cuts (down_to l.fn.patch l.y) l.initial.self-inside.rows l.self-inside.rows
