use Rattle.std.proofs.Common.{◌≡◌, length}
use Rattle.ev_script.specs.Status.{texts}
use Rattle.ev_script.specs.Options.{are_pairs}
use Rattle.ev_script.proofs.words.are_pairs.Given as goal

-- the words that are left are pairs exactly where all are
abbrev pub invariant-loop-rest : goal.invariant-loop-rest
invariant-loop-rest l = are_pairs (texts l.rest) ≡ are_pairs (texts l.words)

abbrev pub decreases-loop-rest : goal.decreases-loop-rest
decreases-loop-rest l = length l.rest
