use Rattle.std.specs.List.{All}
use Rattle.ev_ring.specs.Seen.{IsFreeHand}
use Rattle.ev_ring.proofs.tests.fn.pass_in_threads.scope.Given as goal

abbrev pub invariant-loop-hand : goal.invariant-loop-hand
invariant-loop-hand g l = All IsFreeHand l.hands.items

abbrev pub decreases-loop-hand : goal.decreases-loop-hand
decreases-loop-hand g l = goal.left-loop-hand g l
