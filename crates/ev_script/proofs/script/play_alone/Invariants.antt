use Rattle.std.proofs.Common.{◌≤◌, ◌+◌, ◌*◌, length}
use Rattle.ev_script.specs.Outside.{devices}
use Rattle.ev_script.specs.Session.{IsReady, most_of_frame, setting}
use Rattle.ev_script.proofs.Playing.{SoFar}
use Rattle.ev_script.proofs.script.play_alone.Given as goal

abbrev pub invariant-loop-rest : goal.invariant-loop-rest
invariant-loop-rest g l = record {
  so_far : SoFar (setting l.fn.canvas.setup (g.T.Store.files l.fn.store)) l.script (g.K.Sink.written l.fn.sink) (g.K.Sink.written l.sink)
      (devices (g.P.Screen.shown l.fn.screen) (g.P.Screen.faults l.fn.screen) (g.T.Store.files l.fn.store) (g.T.Store.faults l.fn.store))
      (devices (g.P.Screen.shown l.screen) (g.P.Screen.faults l.screen) (g.T.Store.files l.store) (g.T.Store.faults l.store)) l.canvas l.number l.rest;
  ready : IsReady l.canvas l.number;
  painted : 3 * l.canvas.painted + length l.rest * most_of_frame ≤ length l.script * most_of_frame;
  numbered : l.number + length l.rest ≤ length l.script + 1;
  faults : g.K.Sink.faults l.fn.sink ≤ g.K.Sink.faults l.sink;
}

abbrev pub decreases-loop-rest : goal.decreases-loop-rest
decreases-loop-rest g l = length l.rest
