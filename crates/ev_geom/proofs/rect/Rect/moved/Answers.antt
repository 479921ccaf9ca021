use Rattle.std.proofs.Common.{arith, ap, ◌∙◌, w64}
use Rattle.std.proofs.lemmas.Int.{ints}
use mir.Val.{to_z, of_z}
use Rattle.ev_geom.specs.Area.{Area, limited, moved_by}
use Rattle.ev_geom.proofs.Moving.{moved_is}
use Rattle.ev_geom.proofs.rect.Rect.moved.Goals as goal

pub returns : goal.returns
returns c =
    let a : Area = record { x = c.self.inside.x; y = c.self.inside.y; w = c.self.inside.w; h = c.self.inside.h } in
    let b : Area = record { x = to_z w64 (of_z w64 c.shifted-x.result); y = to_z w64 (of_z w64 c.shifted-y.result); w = to_z w64 (of_z w64 c.from.result); h = to_z w64 (of_z w64 c.from-2.result) } in
    c.new.ensures
    ∙ moved_is a b c.args.dx c.args.dy _ _ _ _ _ _ c.shifted-x.ensures c.shifted-y.ensures
    (omega (arith, ints)) (omega (arith, ints)) (omega (arith, ints)) (omega (arith, ints)) (omega (arith, ints)) (omega (arith, ints)) (omega (arith, ints)) (omega (arith, ints))
    ∙ ap (λ a. limited (moved_by a c.args.dx c.args.dy)) c.self.view_is
