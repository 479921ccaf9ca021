use Rattle.std.proofs.Common.{◌≡◌, ◌+◌, ◌≤◌, List, length}
use Rattle.ev_seats.specs.Jobs.{numbered}
use Rattle.ev_ring.specs.Seen.{owner_view, IsQuiet}
use Rattle.ev_ring.specs.declared.tests.Square.{Square}
use Rattle.ev_ring.proofs.tests.take_all.Given as goal

abbrev pub invariant-loop-i : goal.invariant-loop-i
invariant-loop-i l = record {
  quiet : IsQuiet (owner_view l.owner);
  limit : (owner_view l.owner).counts.owner.limit ≡ (owner_view l.initial.owner).counts.owner.limit;
  held : (owner_view l.owner).counts.hand.held ≡ (owner_view l.initial.owner).counts.hand.held;
  left : (js : List Square) × ((owner_view l.owner).jobs ≡ numbered (l.first + l.i) js) × (length js + l.i ≡ l.count);
  right : l.right ≤ l.i;
}
