use Rattle.ev_records.proofs.Numbering.{IsNumbering}
use Rattle.ev_records.proofs.ranks.number_all.Given as goal

abbrev pub invariant-loop-i : goal.invariant-loop-i
invariant-loop-i l = IsNumbering l.ranks.items l.initial.ranks.items l.order l.gap l.i
