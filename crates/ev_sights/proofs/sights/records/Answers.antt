use Rattle.std.proofs.Common.{map}
use Rattle.ev_model.specs.Look.{look_of, look}
use Rattle.ev_model.specs.Stage.{Stage, values}
use Rattle.ev_sights.specs.Sights.{over, Ends}
use Rattle.ev_sights.proofs.Bounding.{records_on}
use Rattle.ev_sights.proofs.Sighting.{of_item, one_more_seen, all_seen}
use Rattle.ev_sights.proofs.sights.records.Goals as goal

pub push_record-requires-clause-ends : goal.push_record-requires-clause-ends
push_record-requires-clause-ends c = of_item (λ o. Ends (values c.args.objects.now) (over o)) c.args.objects.now c.as_slice-state-items.result.now c.loop-state.state-index c.state-item.result c.as_slice-state-items.ensures c.loop-state-test.true c.state-item.is c.requires.ways

pub loop-state-preserved : goal.loop-state-preserved
loop-state-preserved c = record {
  so_far = one_more_seen (look (record { w = c.args.w; h = c.args.h; objects = values c.args.objects.now })) c.as_slice-state-items.result.now c.loop-state.state-index c.state-item.result
      (map look_of c.loop-state.records.items) (map look_of c.push_record.new.records.items) _ c.loop-state-test.true c.state-item.is c.in_ok-push_record.ensures.records c.loop-state.invariant.so_far;
  known = c.in_ok-push_record.ensures.known;
}

pub returns-clause-on_canvas : goal.returns-clause-on_canvas
returns-clause-on_canvas c limits =
    let s : Stage = record { w = c.args.w; h = c.args.h; objects = values c.args.objects.now } in
    records_on s c.loop-state.records.items limits
    (all_seen (look s) c.as_slice-state-items.result.now c.args.objects.now c.loop-state.state-index (map look_of c.loop-state.records.items) c.loop-state-test.false c.as_slice-state-items.ensures c.loop-state.invariant.so_far)
