use Rattle.std.proofs.Common.{◌≡◌, ◌*◌, ◌++◌, drop}
use Rattle.ev_text.specs.FontReading.{rows_of}
use Rattle.ev_text.proofs.rows.rows_of.Given as goal

abbrev pub invariant-loop-i : goal.invariant-loop-i
invariant-loop-i l = l.rows.items ++ rows_of (drop (4 * l.i) l.bytes) ≡ rows_of l.bytes
