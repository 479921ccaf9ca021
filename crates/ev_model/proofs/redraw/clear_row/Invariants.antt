use Rattle.ev_model.specs.Remade.{cleared, RemakesColumnsBelow}
use Rattle.ev_model.proofs.redraw.clear_row.Given as goal

abbrev pub invariant-loop-x : goal.invariant-loop-x
invariant-loop-x l = RemakesColumnsBelow cleared l.initial.picture l.picture l.y l.x
