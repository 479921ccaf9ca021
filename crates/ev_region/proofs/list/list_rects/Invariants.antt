use Rattle.std.proofs.Common.{length}
use Rattle.ev_geom.specs.Bands.{rects_of}
use Rattle.ev_region.specs.Flat.{bands_of, IsFlat}
use Rattle.ev_region.proofs.Listings.{IsListing}
use Rattle.ev_region.proofs.list.list_rects.Given as goal

abbrev pub invariant-loop-steps : goal.invariant-loop-steps
invariant-loop-steps l =
    IsFlat (length l.edges) l.start l.steps
    × IsListing (rects_of (bands_of l.bands.start l.bands.steps.now l.bands.edges.now)) (bands_of l.start l.steps l.edges) l.rects.items

abbrev pub decreases-loop-steps : goal.decreases-loop-steps
decreases-loop-steps l = length l.steps
