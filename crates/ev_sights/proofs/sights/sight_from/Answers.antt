use Rattle.std.proofs.Common.{sym}
use Rattle.ev_sights.specs.Sights.{stage_on}
use Rattle.ev_sights.proofs.Sighting.{never_none, down_sight, down_climbed, more_sights}
use Rattle.ev_sights.proofs.sights.sight_from.Goals as goal

pub loop-id-preserved-in_ok-insert : goal.loop-id-preserved-in_ok-insert
loop-id-preserved-in_ok-insert c =
    let s = stage_on c.args.ground.now in
    record {
      climbed = down_climbed s c.args.at c.loop-id.ids.items c.pop.new.self.items c.in-Some.id c.loop-id.sight c.in-Some.ensures.items c.loop-id.invariant.climbed c.in-Some-object.object.now c.lowered-sight.result (sym c.in-Some-object.ensures) c.lowered-sight.ensures;
      known = more_sights s c.loop-id.known c.insert.new.self c.in-Some.id c.lowered-sight.result c.loop-id.invariant.known
          (down_sight s c.args.at c.loop-id.ids.items c.pop.new.self.items c.in-Some.id c.loop-id.sight c.in-Some.ensures.items c.loop-id.invariant.climbed c.in-Some-object.object.now c.lowered-sight.result (sym c.in-Some-object.ensures) c.lowered-sight.ensures)
          c.in_ok-insert.ensures.updates;
    }

pub loop-id-preserved : goal.loop-id-preserved
loop-id-preserved c = absurd (never_none (stage_on c.args.ground.now) c.args.at c.loop-id.ids.items c.pop.new.self.items c.in-Some.id c.loop-id.sight c.in-Some.ensures.items c.loop-id.invariant.climbed c.in_default-object.ensures)
