use Rattle.std.proofs.lemmas.Result.{on_ok_weaker}
use Rattle.ev_region.specs.Combine.{keeps}
use Rattle.ev_region.proofs.BandMerges.{IsBandMerging-pushed, IsBandMerging-end, keeps-none}
use Rattle.ev_region.proofs.bands.Bands.merge.Goals as goal

pub loop-y-preserved : goal.loop-y-preserved
loop-y-preserved c = (
  c.pass-left.ensures.reading.flat,
  c.pass-right.ensures.reading.flat,
  IsBandMerging-pushed _ _ _ _ _ _ _ _ _ _ _ _ _ _ c.loop-y.invariant.2 c.in-Some.ensures c.pass-left.ensures.passes c.pass-right.ensures.passes c.in_ok-push_row.ensures,
)

pub returns : goal.returns
returns c =
    on_ok_weaker c.add_kept-2.result
    (λ second. IsBandMerging-end (keeps c.args.how) _ _ _ _ _ _ _ _ _ _ _ (keeps-none c.args.how) c.keeps.ensures c.keeps-2.ensures c.in_default.ensures c.in_ok-add_kept.ensures second c.loop-y.invariant.2)
    c.add_kept-2.ensures
