use Rattle.std.proofs.Common.{◌≡◌, ◌+ℤ◌, FitsSigned, w64, ap, ◌∙◌, rules}
use Rattle.std.proofs.lemmas.Int.{to_z-of_z}
use Rattle.ev_geom.specs.Area.{is_place}
use Rattle.std.proofs.lemmas.Bool.{and_parts}
use Rattle.ev_scene.proofs.shift.shift_one.Goals as goal

pub placed-object-requires-clause-column : goal.placed-object-requires-clause-column
placed-object-requires-clause-column c =
    let fits : FitsSigned w64 c.moved-x.result = search rules in
    let is : c.moved-x.result ≡ c.args.object.now.rect.x +ℤ c.args.dx = search rules in
    ap is_place (to_z-of_z w64 c.moved-x.result fits ∙ is) ∙ (and_parts _ _ c.requires.places).0

pub placed-object-requires-clause-row : goal.placed-object-requires-clause-row
placed-object-requires-clause-row c =
    let fits : FitsSigned w64 c.moved-y.result = search rules in
    let is : c.moved-y.result ≡ c.args.object.now.rect.y +ℤ c.args.dy = search rules in
    ap is_place (to_z-of_z w64 c.moved-y.result fits ∙ is) ∙ (and_parts _ _ c.requires.places).1
