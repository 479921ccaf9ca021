use Rattle.std.proofs.Common.{arith, ap, ◌≡◌}
use Rattle.std.proofs.lemmas.Int.{ints}
use Rattle.ev_geom.specs.Area.{Area}
use Rattle.ev_geom.proofs.Areas.{same_area, side_of}
use Rattle.ev_geom.proofs.rect.Rect.sized.Goals as goal

pub invariant_of-result : goal.invariant_of-result
invariant_of-result c =
    let w = side_of c.args.w c.requires.width in
    let h = side_of c.args.h c.requires.height in
    let old = c.self.invariant in
    record {
      w = record { low = omega (arith, ints, w.low, w.high); high = omega (arith, ints, w.low, w.high) };
      h = record { low = omega (arith, ints, h.low, h.high); high = omega (arith, ints, h.low, h.high) };
      x = record { low = omega (arith, ints, old.x.low, old.x.high); high = omega (arith, ints, old.x.low, old.x.high) };
      y = record { low = omega (arith, ints, old.y.low, old.y.high); high = omega (arith, ints, old.y.low, old.y.high) };
    }

pub returns : goal.returns
returns c =
    let w = side_of c.args.w c.requires.width in
    let h = side_of c.args.h c.requires.height in
    let old = c.self.invariant in
    let x : c.self.inside.x ≡ c.args.self.x = ap (λ (a : Area). a.x) c.self.view_is in
    let y : c.self.inside.y ≡ c.args.self.y = ap (λ (a : Area). a.y) c.self.view_is in
    same_area _ _ (omega (arith, ints, old.x.low, old.x.high, x)) (omega (arith, ints, old.y.low, old.y.high, y)) (omega (arith, ints, w.low, w.high)) (omega (arith, ints, h.low, h.high))
