use Rattle.ev_model.specs.Look.{look_of}
use Rattle.ev_model.specs.Paint.{painted}
use Rattle.ev_model.specs.Remade.{RemakesColumnsBelow}
use Rattle.ev_model.proofs.redraw.paint_row.Given as goal

abbrev pub invariant-loop-x : goal.invariant-loop-x
invariant-loop-x l = RemakesColumnsBelow (painted (look_of l.one)) l.initial.picture l.picture l.y l.x
