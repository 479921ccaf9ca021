use Rattle.std.proofs.Common.{◌≡◌, ap, sym, ◌∙◌, subst, arith}
use Rattle.std.proofs.lemmas.Int.{ints}
use Rattle.ev_model.specs.Capture.{IsInside}
use Rattle.ev_model.specs.Limits.{IsObject}
use Rattle.ev_model.specs.Stage.{canvas_on}
use Rattle.ev_draw.proofs.tile_tests.record.Goals as goal

pub returns : goal.returns
returns c =
    let area = c.at_origin.ensures in
    let inside : IsInside (canvas_on 4 4) c.at_origin.result = subst (λ a. IsInside (canvas_on 4 4) a) (sym area) (record {
      left = omega (arith, ints);
      top = omega (arith, ints);
      right = omega (arith, ints);
      bottom = omega (arith, ints);
    }) in
    let same : c.in_ok-object.object.value ≡ c.object-object.result = ap (λ s. s.value) (c.in_ok-object.ensures).ok in
    record {
      wide = omega (arith, ints, ap (λ a. a.w) area);
      high = omega (arith, ints, ap (λ a. a.h) area);
      canvas = inside;
      rect = subst (λ a. IsInside a c.at_origin.result) (sym (ap (λ o. o.rect) same ∙ c.object-object.ensures.rect)) inside;
      limits = subst IsObject (sym same) (c.object-object.ensures.limits c.requires);
    }
