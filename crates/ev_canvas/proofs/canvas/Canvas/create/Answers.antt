use Rattle.std.proofs.Common.{rules}
use Rattle.ev_canvas.proofs.Ledgers.{ledger_new}
use Rattle.ev_canvas.proofs.canvas.Canvas.create.Goals as goal

pub invariant_of-result : goal.invariant_of-result
invariant_of-result c = record {
  cell_low = search rules;
  cell_high = search rules;
  frames = search rules;
  objects = search rules;
  ledger = ledger_new _ _ _ (search rules) (search rules) (search rules);
}
