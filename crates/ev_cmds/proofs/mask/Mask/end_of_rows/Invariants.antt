use Rattle.std.proofs.Common.{ℕ, ◌≡◌, ◌≤◌, ◌<◌, slice_index, bit_and}
use Rattle.ev_cmds.proofs.mask.Mask.end_of_rows.Given as goal

abbrev pub invariant-loop-y : goal.invariant-loop-y
invariant-loop-y l = (y : ℕ) → l.top ≤ y → y < l.y → bit_and (slice_index l.self y) l.columns ≡ l.bits
