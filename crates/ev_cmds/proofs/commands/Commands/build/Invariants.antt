use Rattle.std.proofs.Common.{◌≤◌, length, map}
use Rattle.ev_geom.specs.Bands.{has_pixel}
use Rattle.ev_cmds.specs.Frames.{HasTaken}
use Rattle.ev_cmds.proofs.Cutting.{looks_from}
use Rattle.ev_cmds.proofs.commands.Commands.build.Given as goal

abbrev pub invariant-loop-left : goal.invariant-loop-left
invariant-loop-left l = (l.left ≤ length l.records) × HasTaken (has_pixel l.work) (looks_from (map (λ r. r.now) l.records) l.left) l.w l.h l.frame

abbrev pub decreases-loop-left : goal.decreases-loop-left
decreases-loop-left l = l.left
