use Rattle.std.proofs.Common.{◌≡◌, ℕ, ◌+◌, ◌<◌, take}
use Rattle.ev_cmds.specs.SeenEdges.{any_has}
use Rattle.ev_cmds.specs.Masks.{has_bit}
use Rattle.ev_cmds.proofs.opening.bare_part.Given as goal

abbrev pub invariant-loop-one : goal.invariant-loop-one
invariant-loop-one l = (x y : ℕ) → x < 64 → y < 64 → has_bit l.bare x y ≡ any_has (take l.one-index l.near) (l.left + x) (l.top + y)
