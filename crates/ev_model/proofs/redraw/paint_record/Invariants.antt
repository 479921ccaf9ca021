use Rattle.ev_model.specs.Look.{look_of}
use Rattle.ev_model.specs.Paint.{painted}
use Rattle.ev_model.specs.Remade.{RemakesRowsBelow}
use Rattle.ev_model.proofs.redraw.paint_record.Given as goal

abbrev pub invariant-loop-y : goal.invariant-loop-y
invariant-loop-y l = RemakesRowsBelow (painted (look_of l.one)) l.initial.picture l.picture l.y
