use Rattle.std.proofs.Common.{◌++◌, [], ◌∷◌, is_some, ap, sym, ◌∙◌}
use Rattle.ev_preload.specs.Loads.{Loads}
use Rattle.ev_scene.specs.Board.{board}
use Rattle.ev_scene.specs.Ids.{of_id}
use Rattle.ev_canvas.specs.declared.event.Event.TheVariants.{Cancelled}
use Rattle.ev_canvas.proofs.Sweeping.{others, missing, present, passed, cancelled}
use Rattle.ev_canvas.proofs.sweep.look_at.Goals as goal

pub returns-in_default-kind_of-clause-looks : goal.returns-in_default-kind_of-clause-looks
returns-in_default-kind_of-clause-looks c =
    let objects = (board c.args.scene.now).objects in
    let gone_is = ap (λ i. is_some (of_id objects i)) (sym c.id.ensures) ∙ missing (of_id objects c.id.result) c.in_default-kind_of.ensures in
    let rest = ap (λ (l : Loads). l.running) c.cancel.ensures.after ∙ ap (λ i. others i c.args.preloads.now.running) c.id-in_default-kind_of.ensures in
    cancelled (board c.args.scene.now) c.args.preloads.now.running c.args.place c.in-Some.job c.args.events.now _ _ c.requires.apart (sym c.running_at.ensures ∙ c.in-Some.is) gone_is rest
    (c.push.ensures ∙ ap (λ n. c.args.events.now ++ Cancelled n ∷ []) c.name.ensures)

pub returns-clause-looks : goal.returns-clause-looks
returns-clause-looks c =
    let objects = (board c.args.scene.now).objects in
    let there = ap (λ i. is_some (of_id objects i)) (sym c.id.ensures) ∙ present (of_id objects c.id.result) _ c.in-Some-kind_of.ensures in
    passed (board c.args.scene.now) c.args.preloads.now.running c.args.place c.in-Some.job c.args.events.now (sym c.running_at.ensures ∙ c.in-Some.is) there
