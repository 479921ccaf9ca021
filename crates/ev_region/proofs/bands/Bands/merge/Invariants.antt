use Rattle.std.proofs.Common.{◌+◌, length}
use Rattle.ev_region.specs.Combine.{keeps}
use Rattle.ev_region.specs.Flat.{bands_of, IsFlat}
use Rattle.ev_region.proofs.BandMerges.{IsBandMerging}
use Rattle.ev_region.proofs.bands.Bands.merge.Given as goal

abbrev pub invariant-loop-y : goal.invariant-loop-y
invariant-loop-y l =
    IsFlat (length l.left.edges.now) l.left.start l.left.steps.now × IsFlat (length l.right.edges.now) l.right.start l.right.steps.now
    × IsBandMerging (keeps l.how) (bands_of l.a.start l.a.steps.now l.a.edges.now) (bands_of l.b.start l.b.steps.now l.b.edges.now)
    l.left.row.now (bands_of l.left.start l.left.steps.now l.left.edges.now)
    l.right.row.now (bands_of l.right.start l.right.steps.now l.right.edges.now) l.self

abbrev pub decreases-loop-y : goal.decreases-loop-y
decreases-loop-y l = length (bands_of l.left.start l.left.steps.now l.left.edges.now) + length (bands_of l.right.start l.right.steps.now l.right.edges.now)
