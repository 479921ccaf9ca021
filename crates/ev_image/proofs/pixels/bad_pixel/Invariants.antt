use Rattle.std.proofs.Common.{◌≡◌, ◌+◌, ◌*◌, drop}
use Rattle.ev_image.specs.Reading.{bad_pixel}
use Rattle.ev_image.proofs.pixels.bad_pixel.Given as goal

abbrev pub invariant-loop-i : goal.invariant-loop-i
invariant-loop-i l = bad_pixel l.at l.bytes ≡ bad_pixel (l.at + 4 * l.i) (drop (4 * l.i) l.bytes)
