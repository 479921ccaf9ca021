use Rattle.std.proofs.Common.{◌≤◌, take}
use Rattle.std.specs.List.{flat_map}
use Rattle.ev_port.specs.Told.{GrowsBy}
use Rattle.ev_model.specs.Text.{update_text}
use Rattle.ev_lang.proofs.shown.write_updates.Given as goal

abbrev pub invariant-loop-change : goal.invariant-loop-change
invariant-loop-change g l = record {
  written : GrowsBy (g.K.Sink.written l.fn.sink) (g.K.Sink.written l.sink) (flat_map update_text (take l.change-index l.updates));
  faults : g.K.Sink.faults l.fn.sink ≤ g.K.Sink.faults l.sink;
}
