use Rattle.std.proofs.Common.{map, ap, ◌∙◌}
use Rattle.ev_model.specs.Capture.{IsLookOn}
use Rattle.ev_model.specs.Look.{look_of}
use Rattle.ev_canvas.proofs.Cutting.{all_made, on_capture}
use Rattle.ev_canvas.proofs.begun.Begun.commands.Goals as goal

pub build-requires-clause-looks : goal.build-requires-clause-looks
build-requires-clause-looks c =
    let scene = c.scene-scene.result.now in
    let on = on_capture c.args.self.now.shot c.records.result.now scene.w scene.h c.records.ensures.shot c.records.ensures.value (ap (λ s. s.w) c.scene-scene.ensures.value) (ap (λ s. s.h) c.scene-scene.ensures.value) in
    all_made (λ r. r.now) (λ r. IsLookOn scene.w scene.h (look_of r)) _ _ (ap (map (λ r. r.now)) c.deref.ensures.value ∙ c.in_ok-records.ensures.all) on
