use Rattle.std.proofs.Common.{◌≡◌, false, inr, sym, ap, ◌∙◌}
use Rattle.std.specs.List.{list_any}
use Rattle.std.proofs.lemmas.Option.{same_Some}
use Rattle.ev_state.specs.Held.{Held}
use Rattle.ev_model.specs.Up.{is_smart, is_clipped_by}
use Rattle.ev_model.specs.declared.object.Object.{Object}
use Rattle.ev_looks.specs.PlacedStates.{objects_in, states_now}
use Rattle.ev_looks.proofs.Reaching.{none_below}
use Rattle.ev_looks.proofs.walk.Ground.is_deep.Goals as goal

pub returns-else-is_smart : goal.returns-else-is_smart
returns-else-is_smart c = λ none now at.
    let t = c.args.self.now.objects.now in
    let value : c.get-now.result.now ≡ now.value = c.get-now.ensures ∙ ap (λ (s : Held Object). s.value) (same_Some _ _ (c.in-Some.ensures ∙ at)) in
    let plain : is_smart now.value ≡ false = sym (ap is_smart value) ∙ sym c.is_smart.ensures ∙ c.if-is_smart.false in
    let clips_none : list_any (is_clipped_by now.value.id) (objects_in (states_now t)) ≡ false = sym (ap (λ (o : Object). list_any (is_clipped_by o.id) (objects_in (states_now t))) value) ∙ sym c.clips.ensures ∙ none in
    inr (none_below t c.args.self.now.links.now c.requires.ground.laws c.requires.ground.tied c.requires.ground.sound c.args.place now at plain clips_none)
