use Rattle.std.proofs.Common.{ap, ◌∙◌, refl}
use Rattle.ev_geom.specs.Bands.{rects_of}
use Rattle.ev_region.specs.Combine.{keeps}
use Rattle.ev_region.proofs.Regions.{Combines-region, IsMerged-listed, IsRegion-same}
use Rattle.ev_region.proofs.region.Region.combine_region.Goals as goal

pub returns-clause-ok : goal.returns-clause-ok
returns-clause-ok c =
    let merge = rw (c.rest.ensures.bands, c.rest-2.ensures.bands) at c.in_ok-merge.ensures in
    let listed = ap (λ rects. rects.items) c.swap-2.ensures.x_after ∙ c.in_ok-list_rects.ensures ∙ ap rects_of c.rest-3.ensures.bands in
    Combines-region (keeps c.args.how) _ _ _ _ _
    (IsMerged-listed (keeps c.args.how) _ _ _ _ merge listed)
    (IsRegion-same _ _ _ _ refl c.self.view_is c.self.invariant)
    (IsRegion-same _ _ _ _ refl c.other.view_is c.other.invariant)
