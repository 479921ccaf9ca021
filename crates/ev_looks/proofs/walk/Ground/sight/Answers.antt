use Rattle.std.proofs.Common.{sym, ap, ◌∙◌, subst}
use Rattle.std.specs.Option.{option_and_then}
use Rattle.ev_model.specs.Up.{with_id, cut}
use Rattle.ev_looks.specs.Grounds.{stage_on}
use Rattle.ev_looks.specs.WaysUp.{Ends}
use Rattle.ev_looks.proofs.Climbing.{at_start, at_end, climb_ends, climb_fewer, climb_sight}
use Rattle.ev_looks.proofs.Ending.{now_ended}
use Rattle.ev_looks.proofs.walk.Ground.sight.Goals as goal

pub loop-at-init : goal.loop-at-init
loop-at-init c =
    let s = stage_on c.args.self.now in
    let ground = c.requires.ground in
    record {
      on = at_start s c.args.object.now c.or-at.result c.cut.result c.or-at.ensures (c.cut.ensures ∙ ap (λ area. cut area c.args.object.now) c.at_origin.ensures);
      ends = subst (λ at. Ends s.objects at) (sym c.or-at.ensures) (now_ended c.args.self.now.objects.now c.args.self.now.links.now ground.laws ground.tied ground.sound c.args.object.now c.requires.there);
    }

pub returns-in_default-object : goal.returns-in_default-object
returns-in_default-object c =
    let s = stage_on c.args.self.now in
    at_end s c.args.object.now c.loop-at.at c.loop-at.sight c.loop-at.invariant.on (ap (option_and_then (with_id s.objects)) c.in-Some.is ∙ sym c.in_default-object.ensures)

pub loop-at-smaller : goal.loop-at-smaller
loop-at-smaller c =
    let s = stage_on c.args.self.now in
    climb_fewer s.objects c.loop-at.at c.or-at-in-Some.result c.in-Some.id c.in-Some-object.over.now c.in-Some.is (sym c.in-Some-object.ensures) c.or-at-in-Some.ensures c.loop-at.invariant.ends

pub loop-at-preserved : goal.loop-at-preserved
loop-at-preserved c =
    let s = stage_on c.args.self.now in
    let over = c.in-Some-object.over.now in
    record {
      on = climb_sight s c.args.object.now c.loop-at.at c.or-at-in-Some.result c.in-Some.id over c.in-Some.is (sym c.in-Some-object.ensures) c.or-at-in-Some.ensures c.loop-at.invariant.ends
          c.loop-at.sight c.loop-at.invariant.on c.lowered-sight.result c.lowered-sight.ensures;
      ends = climb_ends s.objects c.loop-at.at c.or-at-in-Some.result c.in-Some.id over c.in-Some.is (sym c.in-Some-object.ensures) c.or-at-in-Some.ensures c.loop-at.invariant.ends;
    }

pub returns : goal.returns
returns c =
    let s = stage_on c.args.self.now in
    at_end s c.args.object.now c.loop-at.at c.loop-at.sight c.loop-at.invariant.on (ap (option_and_then (with_id s.objects)) c.in_default.is)
