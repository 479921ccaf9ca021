use Rattle.std.proofs.Common.{◌≡◌, drop}
use Rattle.ev_lang.specs.Words.{skipped}
use Rattle.ev_lang.proofs.words.skip_spaces.Given as goal

abbrev pub invariant-loop-i : goal.invariant-loop-i
invariant-loop-i l = skipped l.line ≡ skipped (drop l.i l.line)
