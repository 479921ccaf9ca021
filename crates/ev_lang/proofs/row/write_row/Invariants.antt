use Rattle.std.proofs.Common.{◌≤◌, ◌+◌, length, take}
use Rattle.ev_model.specs.Text.{places_text}
use Rattle.ev_lang.specs.declared.row.TheConstants.{ROW}
use Rattle.ev_lang.specs.ReplyParts.{IsLaid}
use Rattle.ev_lang.proofs.row.write_row.Given as goal

abbrev pub invariant-loop-x : goal.invariant-loop-x
invariant-loop-x g l = record {
  laid : IsLaid (g.K.Sink.written l.fn.sink) (g.K.Sink.written l.sink) l.draft (places_text (take l.x l.pixels));
  short : length l.draft + 1 ≤ ROW;
  faults : g.K.Sink.faults l.fn.sink ≤ g.K.Sink.faults l.sink;
}
