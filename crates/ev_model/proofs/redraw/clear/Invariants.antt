use Rattle.ev_model.specs.Remade.{cleared, RemakesRowsBelow}
use Rattle.ev_model.proofs.redraw.clear.Given as goal

abbrev pub invariant-loop-y : goal.invariant-loop-y
invariant-loop-y l = RemakesRowsBelow cleared l.initial.picture l.picture l.y
