use Rattle.std.proofs.Common.{FitsSigned, w64, ap, ap₂, ◌∙◌, rules}
use Rattle.std.proofs.lemmas.Int.{to_z-of_z}
use Rattle.ev_scene.specs.Ids.{of_id}
use Rattle.ev_scene.specs.Board.{values_of}
use Rattle.ev_scene.specs.Edits.{may_shift, shifted_by}
use Rattle.ev_scene.proofs.Shifting.{one_passes, made_of}
use Rattle.ev_scene.proofs.shift.push_shifted.Goals as goal

pub shift_one-requires-clause-places : goal.shift_one-requires-clause-places
shift_one-requires-clause-places c =
    let dx : FitsSigned w64 c.args.dx = search rules in
    let dy : FitsSigned w64 c.args.dy = search rules in
    ap₂ (λ dx dy. may_shift dx dy c.in_ok-copy.copy) (to_z-of_z w64 c.args.dx dx) (to_z-of_z w64 c.args.dy dy)
    ∙ ap (may_shift c.args.dx c.args.dy) c.in_ok-copy.ensures ∙ one_passes (may_shift c.args.dx c.args.dy) _ c.in-Some.object.now c.in-Some.ensures c.requires.places

pub returns-in_ok-push-clause-states : goal.returns-in_ok-push-clause-states
returns-in_ok-push-clause-states c =
    let dx : FitsSigned w64 c.args.dx = search rules in
    let dy : FitsSigned w64 c.args.dy = search rules in
    made_of c.args.states.now.items c.push.new.self.items c.in_ok-make.field-0 (shifted_by c.args.dx c.args.dy) (of_id (values_of c.args.roll.now.states) c.args.id) c.in-Some.object.now
    (c.in_ok-push.ensures).items
    (c.in_ok-make.ensures.value ∙ c.shift_one.ensures ∙ ap₂ (λ dx dy. shifted_by dx dy c.in_ok-copy.copy) (to_z-of_z w64 c.args.dx dx) (to_z-of_z w64 c.args.dy dy) ∙ ap (shifted_by c.args.dx c.args.dy) c.in_ok-copy.ensures)
    c.in-Some.ensures
