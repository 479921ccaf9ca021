use Rattle.std.proofs.Common.{◌≡◌, vec_len}
use Rattle.ev_ring.proofs.tests.jobs_from.Given as goal

abbrev pub invariant-loop-i : goal.invariant-loop-i
invariant-loop-i l = vec_len l.jobs ≡ l.i
