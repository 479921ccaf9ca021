use Rattle.ev_geom.specs.Bands.{has_pixel}
use Rattle.ev_cmds.proofs.Framing.{OpensRows}
use Rattle.ev_cmds.proofs.frame.Frame.open.Given as goal

abbrev pub invariant-loop-row : goal.invariant-loop-row
invariant-loop-row l = OpensRows (has_pixel l.work) l.row l.initial.frame l.frame
