use Rattle.std.proofs.Common.{length}
use Rattle.ev_region.proofs.snap.+snap_rects.Given as goal

abbrev pub decreases-snap_rects : goal.decreases-snap_rects
decreases-snap_rects l = length l.rects.now
