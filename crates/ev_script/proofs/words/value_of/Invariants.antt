use Rattle.std.proofs.Common.{◌≡◌, length}
use Rattle.ev_script.specs.Status.{texts}
use Rattle.ev_script.specs.Options.{value_of}
use Rattle.ev_script.proofs.words.value_of.Given as goal

-- the value stands among the words that are left
abbrev pub invariant-loop-rest : goal.invariant-loop-rest
invariant-loop-rest l = value_of l.option (texts l.rest) ≡ value_of l.option (texts l.words)

abbrev pub decreases-loop-rest : goal.decreases-loop-rest
decreases-loop-rest l = length l.rest
