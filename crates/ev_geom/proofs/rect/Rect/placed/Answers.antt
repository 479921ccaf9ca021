use Rattle.std.proofs.Common.{arith, ap, ◌≡◌}
use Rattle.std.proofs.lemmas.Int.{ints}
use Rattle.ev_geom.specs.Area.{Area}
use Rattle.ev_geom.proofs.Areas.{same_area, place_of}
use Rattle.ev_geom.proofs.rect.Rect.placed.Goals as goal

pub invariant_of-result : goal.invariant_of-result
invariant_of-result c =
    let x = place_of c.args.x c.requires.column in
    let y = place_of c.args.y c.requires.row in
    let old = c.self.invariant in
    record {
      x = record { low = omega (arith, ints, x.low, x.high); high = omega (arith, ints, x.low, x.high) };
      y = record { low = omega (arith, ints, y.low, y.high); high = omega (arith, ints, y.low, y.high) };
      w = record { low = omega (arith, ints, old.w.low, old.w.high); high = omega (arith, ints, old.w.low, old.w.high) };
      h = record { low = omega (arith, ints, old.h.low, old.h.high); high = omega (arith, ints, old.h.low, old.h.high) };
    }

pub returns : goal.returns
returns c =
    let x = place_of c.args.x c.requires.column in
    let y = place_of c.args.y c.requires.row in
    let old = c.self.invariant in
    let w : c.self.inside.w ≡ c.args.self.w = ap (λ (a : Area). a.w) c.self.view_is in
    let h : c.self.inside.h ≡ c.args.self.h = ap (λ (a : Area). a.h) c.self.view_is in
    same_area _ _ (omega (arith, ints, x.low, x.high)) (omega (arith, ints, y.low, y.high)) (omega (arith, ints, old.w.low, old.w.high, w)) (omega (arith, ints, old.h.low, old.h.high, h))
