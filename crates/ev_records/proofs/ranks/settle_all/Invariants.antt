use Rattle.std.proofs.Common.{drop}
use Rattle.ev_records.proofs.Ranking.{IsSettling}
use Rattle.ev_records.proofs.ranks.settle_all.Given as goal

abbrev pub invariant-loop-i : goal.invariant-loop-i
invariant-loop-i l = IsSettling l.ranks.items l.initial.ranks.items (drop l.i l.moved)
