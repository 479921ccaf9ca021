use Rattle.ev_records.proofs.Settling.{IsSettling}
use Rattle.ev_records.proofs.records.settle_all.Given as goal

abbrev pub invariant-loop-i : goal.invariant-loop-i
invariant-loop-i l = IsSettling l.formers l.cells.items l.initial.cells.items l.i
