use Rattle.ev_ring.specs.Seen.{hand_view, HoldsNothing}
use Rattle.ev_ring.proofs.tests.work_until_closed.Given as goal

abbrev pub invariant-loop : goal.invariant-loop
invariant-loop g l = HoldsNothing (hand_view l.hand)
