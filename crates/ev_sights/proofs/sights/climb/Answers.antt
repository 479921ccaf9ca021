use Rattle.std.proofs.Common.{sym, ap, ◌∙◌}
use Rattle.std.specs.Option.{option_and_then}
use Rattle.ev_model.specs.Up.{with_id}
use Rattle.ev_sights.specs.Sights.{stage_on}
use Rattle.ev_sights.proofs.Sighting.{climb_known, climbed_bare, climb_leads, climb_ends, climb_fewer}
use Rattle.ev_sights.proofs.sights.climb.Goals as goal

pub returns-in-Some-get : goal.returns-in-Some-get
returns-in-Some-get c = climb_known (stage_on c.args.ground.now) c.args.first c.loop-at.ids.items c.loop-at.at c.in-Some.id c.in-Some-get.sight.now c.in-Some.is c.loop-at.invariant.leads
    (c.requires.known c.in-Some.id c.in-Some-get.sight.now (sym c.in-Some-get.ensures.value))

pub returns-in_default-object : goal.returns-in_default-object
returns-in_default-object c =
    let s = stage_on c.args.ground.now in
    climbed_bare s c.args.first c.loop-at.ids.items c.loop-at.at c.bare.result c.loop-at.invariant.leads (ap (option_and_then (with_id s.objects)) c.in-Some.is ∙ sym c.in_default-object.ensures) c.bare.ensures

pub loop-at-smaller : goal.loop-at-smaller
loop-at-smaller c = climb_fewer (stage_on c.args.ground.now).objects c.loop-at.at c.or-at.result c.in-Some.id c.in-Some-object.object.now c.in-Some.is (sym c.in-Some-object.ensures) c.or-at.ensures c.loop-at.invariant.ends

pub loop-at-preserved : goal.loop-at-preserved
loop-at-preserved c = record {
  leads = climb_leads (stage_on c.args.ground.now).objects c.loop-at.at c.or-at.result c.in-Some.id c.in-Some-object.object.now c.in-Some.is (sym c.in-Some-object.ensures) c.or-at.ensures c.loop-at.invariant.ends c.args.first c.loop-at.ids.items c.push.new.self.items c.loop-at.invariant.leads c.in_ok-push.ensures.items;
  ends = climb_ends (stage_on c.args.ground.now).objects c.loop-at.at c.or-at.result c.in-Some.id c.in-Some-object.object.now c.in-Some.is (sym c.in-Some-object.ensures) c.or-at.ensures c.loop-at.invariant.ends;
}

pub returns : goal.returns
returns c =
    let s = stage_on c.args.ground.now in
    climbed_bare s c.args.first c.loop-at.ids.items c.loop-at.at c.bare-2.result c.loop-at.invariant.leads (ap (option_and_then (with_id s.objects)) c.in_default.is) c.bare-2.ensures
