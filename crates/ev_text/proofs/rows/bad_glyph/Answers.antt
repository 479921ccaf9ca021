use Rattle.std.proofs.Common.{◌≡◌, ◌*◌, ◌∙◌, sym, true, false, arith, get_or, take}
use Rattle.std.specs.List.{list_all}
use Rattle.ev_text.specs.FontReading.{fits, rows_of}
use Rattle.ev_text.proofs.Four.{glyph_fits, glyph_bad}
use Rattle.ev_text.proofs.rows.bad_glyph.Goals as goal

pub returns-then-not-fits : goal.returns-then-not-fits
returns-then-not-fits c =
    let fit : list_all (fits (get_or c.args.widths.now c.loop-glyph.glyph 0)) (rows_of (take (4 * c.args.height) c.loop-glyph.rest.now)) ≡ false = rw (← c.split_at.ensures.front) (sym c.fits.ensures ∙ c.if-not-fits.true) in
    sym (glyph_bad c.loop-glyph.glyph c.args.height c.args.widths.now c.loop-glyph.rest.now c.loop-glyph-test.true fit) ∙ c.loop-glyph.invariant.so_far

pub loop-glyph-preserved : goal.loop-glyph-preserved
loop-glyph-preserved c =
    let fit : list_all (fits (get_or c.args.widths.now c.loop-glyph.glyph 0)) (rows_of (take (4 * c.args.height) c.loop-glyph.rest.now)) ≡ true = rw (← c.split_at.ensures.front) (sym c.fits.ensures ∙ c.if-not-fits.false) in
    record {
      so_far = rw c.split_at.ensures.back (sym (glyph_fits c.loop-glyph.glyph c.args.height c.args.widths.now c.loop-glyph.rest.now c.loop-glyph-test.true fit) ∙ c.loop-glyph.invariant.so_far);
      left = omega (arith, c.split_at.ensures.back_len, c.loop-glyph.invariant.left);
    }
