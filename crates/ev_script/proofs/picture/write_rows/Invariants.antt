use Rattle.std.proofs.Common.{◌≤◌, map}
use Rattle.std.specs.List.{range_with_len}
use Rattle.ev_port.specs.Told.{GrowsBy}
use Rattle.ev_model.specs.Answer.{DumpRow}
use Rattle.ev_model.specs.Text.{text}
use Rattle.ev_script.specs.Dumps.{place_row}
use Rattle.ev_script.proofs.picture.write_rows.Given as goal

abbrev pub invariant-loop-y : goal.invariant-loop-y
invariant-loop-y g l = record {
  written : GrowsBy (g.K.Sink.written l.fn.sink) (g.K.Sink.written l.sink) (text (map (λ y. DumpRow (place_row l.hidden l.picture y)) (range_with_len 0 l.y)));
  faults : g.K.Sink.faults l.fn.sink ≤ g.K.Sink.faults l.sink;
}
