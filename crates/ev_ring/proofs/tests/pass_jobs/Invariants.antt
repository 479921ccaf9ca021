use Rattle.std.proofs.Common.{◌≡◌, ◌*◌, ◌≤◌, []}
use Rattle.ev_ring.specs.Seen.{owner_view, IsQuiet, HoldsNothing}
use Rattle.ev_ring.proofs.tests.pass_jobs.Given as goal

abbrev pub invariant-loop-round : goal.invariant-loop-round
invariant-loop-round g l = record {
  quiet : IsQuiet (owner_view l.owner);
  limit : (owner_view l.owner).counts.owner.limit ≡ l.round * 4000;
  free : HoldsNothing (owner_view l.owner);
  back : (owner_view l.owner).jobs ≡ [];
  right : l.right ≤ l.round * 4000;
}
