use Rattle.std.proofs.Common.{arith}
use Rattle.ev_looks.specs.Refreshes.{IsShallow}
use Rattle.ev_looks.proofs.Reaching.{passed}
use Rattle.ev_looks.proofs.walk.Ground.reaches.Goals as goal

pub loop-place-preserved : goal.loop-place-preserved
loop-place-preserved c =
    let t = c.args.self.now.objects.now in
    let next = c.in-Some.ensures in
    let inside = next.inside in
    record {
      low = omega (arith, inside);
      done = passed (λ p. IsShallow t p) t c.loop-place.from c.in-Some.place next.still c.loop-place.invariant.done (c.is_deep.ensures c.if-is_deep.false);
    }
