use Rattle.ev_cmds.proofs.Framing.{OpensColumns}
use Rattle.ev_cmds.proofs.frame.Frame.open_row.Given as goal

abbrev pub invariant-loop-column : goal.invariant-loop-column
invariant-loop-column l = OpensColumns l.near l.row l.column l.initial.self l.self
