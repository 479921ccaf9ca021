use Rattle.std.proofs.Common.{List, subst, sym, arith, ◌∙◌}
use Rattle.std.proofs.lemmas.Result.{IfOk-weaker}
use Rattle.ev_geom.specs.Area.{Area, holds}
use Rattle.ev_geom.specs.Bands.{has_pixel}
use Rattle.ev_region.specs.Spans.{IsSnapped}
use Rattle.ev_region.proofs.Snaps.{IsSnapped-one, IsSnapped-alone, IsSnapped-split, one_is}
use Rattle.ev_region.proofs.snap.+snap_rects.Goals as goal

pub returns-in-len1 : goal.returns-in-len1
returns-in-len1 t c =
    let one = one_is c.args.rects.now c.rect-item.result c.in-len1.len_at_least (omega arith) c.rect-item.is in
    IfOk-weaker c.union_of.result _ _
    (λ bands merge. subst (λ (rects : List Area). IsSnapped c.args.cells.size c.args.cells.w c.args.cells.h (has_pixel rects) bands) (sym one)
    (IsSnapped-one c.args.cells.size c.args.cells.w c.args.cells.h c.rect-item.result bands
    (IsSnapped-alone c.args.cells.size c.args.cells.w c.args.cells.h (holds c.rect-item.result) _ _ _ bands
    c.rest.ensures.bands (c.rest-in-len1.ensures.bands ∙ c.new-none.ensures) c.snapped-block.ensures merge)))
    c.union_of.ensures

pub returns-in_ok-below-in_default : goal.returns-in_ok-below-in_default
returns-in_ok-below-in_default t c =
    IfOk-weaker c.union_of-in_default.result _ _
    (λ bands merge. IsSnapped-split c.args.cells.size c.args.cells.w c.args.cells.h _ c.args.rects.now _ _ _ _ _ _ bands
    c.split_at.ensures.front c.split_at.ensures.back c.rest-in_default.ensures.bands c.rest-in_default-2.ensures.bands
    c.in_ok-above-in_default.ensures c.in_ok-below-in_default.ensures merge)
    c.union_of-in_default.ensures
