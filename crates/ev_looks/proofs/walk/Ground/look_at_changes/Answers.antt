use Rattle.std.proofs.Common.{arith}
use Rattle.ev_looks.specs.Refreshes.{IsStill, IsLookedAt}
use Rattle.ev_looks.proofs.Looking.{looked_twice, done_stays}
use Rattle.ev_looks.proofs.Reaching.{passed, passed_all}
use Rattle.ev_looks.proofs.walk.Ground.look_at_changes.Goals as goal

pub loop-place-preserved : goal.loop-place-preserved
loop-place-preserved c =
    let g = c.args.self.now in
    let t = g.objects.now in
    let new = c.look_at_change.new.records in
    let next = c.in-Some.ensures in
    let inside = next.inside in
    record {
      low = omega (arith, inside);
      looks = looked_twice g c.args.records.now c.loop-place.records new c.loop-place.invariant.looks c.look_at_change.ensures.looks;
      done = passed (λ p. IsLookedAt g new p) t c.loop-place.from c.in-Some.place next.still
          (done_stays g (λ p. IsStill t p) c.loop-place.records new c.look_at_change.ensures.looks c.loop-place.from c.loop-place.invariant.done) c.in_ok-look_at_change.ensures.ok;
    }

pub returns-clause-ok : goal.returns-clause-ok
returns-clause-ok c = λ place low.
    let len = c.len-len.ensures in
    passed_all (λ p. IsLookedAt c.args.self.now c.loop-place.records p) c.args.self.now.objects.now c.loop-place.from c.len-len.result c.in_default.ensures c.loop-place.invariant.done place (omega (arith, low, len))
