use Rattle.std.proofs.Common.{sym, ◌∙◌, subst}
use Rattle.ev_sights.specs.Sights.{stage_on, IsColor}
use Rattle.ev_sights.proofs.Sighting.{climb_ends, tinted_from, fewer_from}
use Rattle.ev_sights.proofs.sights.tinted.Goals as goal

pub next_tinted-at-requires-clause-ends : goal.next_tinted-at-requires-clause-ends
next_tinted-at-requires-clause-ends c = climb_ends (stage_on c.args.ground.now).objects c.loop-at.at c.or.result c.in-Some.id c.in-Some-object.object.now c.in-Some.is (sym c.in-Some-object.ensures) c.or.ensures c.loop-at.invariant.ends

pub loop-at-smaller : goal.loop-at-smaller
loop-at-smaller c = fewer_from (stage_on c.args.ground.now).objects c.loop-at.at c.or.result c.in-Some.id c.in-Some-object.object.now c.in-Some.is (sym c.in-Some-object.ensures) c.or.ensures c.loop-at.invariant.ends c.next_tinted-at.result c.next_tinted-at.ensures

pub loop-at-preserved : goal.loop-at-preserved
loop-at-preserved c = record {
  rest = tinted_from (stage_on c.args.ground.now).objects c.loop-at.at c.or.result c.in-Some.id c.in-Some-object.object.now c.in-Some.is (sym c.in-Some-object.ensures) c.or.ensures c.loop-at.invariant.ends c.next_tinted-at.result c.next_tinted-at.ensures
      c.loop-at.color c.in_bytes-color-in-Some.result _ (c.in_bytes-color-in-Some.ensures.same ∙ c.tint.ensures) (subst IsColor (sym c.in_bytes-color-in-Some.ensures.same) c.in_bytes-color-in-Some.ensures.bytes) c.loop-at.invariant.rest;
  ends = c.next_tinted-at.ensures.ends;
}
