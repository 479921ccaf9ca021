use Rattle.std.proofs.Common.{◌≡◌, ◌*◌, drop}
use Rattle.std.specs.List.{list_all}
use Rattle.ev_text.specs.FontReading.{rows_of, fits}
use Rattle.ev_text.proofs.rows.fits.Given as goal

abbrev pub invariant-loop-i : goal.invariant-loop-i
invariant-loop-i l = list_all (fits l.width) (rows_of (drop (4 * l.i) l.bytes)) ≡ list_all (fits l.width) (rows_of l.bytes)
