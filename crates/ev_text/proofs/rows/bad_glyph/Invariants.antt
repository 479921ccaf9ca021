use Rattle.std.proofs.Common.{◌≡◌, ◌+◌, ◌*◌, drop, length}
use Rattle.ev_text.specs.FontReading.{bad_glyph, rows_of}
use Rattle.ev_text.proofs.rows.bad_glyph.Given as goal

abbrev pub invariant-loop-glyph : goal.invariant-loop-glyph
invariant-loop-glyph l = record {
  so_far : bad_glyph l.glyph l.height (drop l.glyph l.widths) (rows_of l.rest) ≡ bad_glyph 0 l.height l.widths (rows_of l.bytes);
  left : length l.rest + 4 * l.height * l.glyph ≡ 380 * l.height;
}
