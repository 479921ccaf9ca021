use Rattle.std.proofs.Common.{◌≡◌}
use Rattle.ev_ring.specs.Seen.{owner_view, HoldsNothing}
use Rattle.ev_ring.proofs.tests.work_until_ready.Given as goal

abbrev pub invariant-loop : goal.invariant-loop
invariant-loop g l = record {
  limit : (owner_view l.owner).counts.owner.limit ≡ (owner_view l.initial.owner).counts.owner.limit;
  jobs : (owner_view l.owner).jobs ≡ (owner_view l.initial.owner).jobs;
  free : HoldsNothing (owner_view l.owner);
}
