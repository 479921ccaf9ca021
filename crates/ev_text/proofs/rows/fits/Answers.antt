use Rattle.std.proofs.Common.{◌∙◌, sym, ap}
use Rattle.std.specs.List.{list_all}
use Rattle.ev_text.specs.FontReading.{fits}
use Rattle.ev_text.proofs.Four.{fits_more, fits_not, fits_yes, fits_no, rest_none}
use Rattle.ev_text.proofs.rows.fits.Goals as goal

pub returns-then-from-end : goal.returns-then-from-end
returns-then-from-end c =
    let fit = fits_no c.args.width c.row_at.result c.from.result c.requires c.from.ensures (rw (← c.from-in-loop-i.ensures) c.if-from-end.true) in
    fits_not c.args.width c.loop-i.i c.row_at.result c.args.bytes.now c.loop-i-test.true c.row_at.ensures fit c.loop-i.invariant

pub loop-i-preserved : goal.loop-i-preserved
loop-i-preserved c =
    let fit = fits_yes c.args.width c.row_at.result c.from.result c.requires c.from.ensures (rw (← c.from-in-loop-i.ensures) c.if-from-end.false) in
    fits_more c.args.width c.loop-i.i c.row_at.result c.args.bytes.now c.loop-i-test.true c.row_at.ensures fit c.loop-i.invariant

pub returns : goal.returns
returns c = ap (list_all (fits c.args.width)) (sym (rest_none c.args.bytes.now c.loop-i.i c.loop-i-test.false)) ∙ c.loop-i.invariant
