use Rattle.std.proofs.Common.{◌≡◌, true}
use Rattle.ev_image.proofs.Four.{AreFilled}
use Rattle.ev_image.proofs.pixels.fill.Given as goal

abbrev pub invariant-loop-i : goal.invariant-loop-i
invariant-loop-i l = l.good ≡ true → AreFilled l.into l.bytes l.i
