use Rattle.std.proofs.Common.{Some, sym, ap, ◌∙◌}
use Rattle.std.specs.Option.{option_map}
use Rattle.ev_state.specs.Held.{Held}
use Rattle.ev_model.specs.declared.object.Object.{Object}
use Rattle.ev_looks.proofs.Placing.{with_now}
use Rattle.ev_looks.proofs.walk.Ground.object.Goals as goal

pub returns-in-Some : goal.returns-in-Some
returns-in-Some c =
    ap Some c.get-in-Some.ensures ∙ ap (option_map (λ (s : Held Object). s.value)) c.in-Some.ensures
    ∙ sym (with_now c.args.self.now.objects.now c.args.self.now.links.now c.requires.laws c.requires.tied c.args.id)

pub returns-in-None : goal.returns-in-None
returns-in-None c =
    ap (option_map (λ (s : Held Object). s.value)) c.in-None.ensures ∙ sym (with_now c.args.self.now.objects.now c.args.self.now.links.now c.requires.laws c.requires.tied c.args.id)
