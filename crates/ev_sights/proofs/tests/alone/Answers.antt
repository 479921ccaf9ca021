use Rattle.std.proofs.Common.{◌++◌, [], ◌∷◌, Some, ap, ◌∙◌}
use Rattle.ev_sights.proofs.Alone.{is_alone}
use Rattle.ev_sights.proofs.tests.alone.Goals as goal

pub returns : goal.returns
returns c =
    is_alone c.push-2.new.self.slots c.push.new.self c.in_ok-state.state
    (c.push-2.ensures.slots ∙ ap (λ slots. slots ++ Some c.in_ok-state.state ∷ []) (c.reserve.ensures.slots ∙ c.new-slots.ensures.slots))
    ((c.in_ok-push.ensures).ok ∙ ap (λ objects. objects ++ c.in_ok-share.field-0 ∷ []) c.new-objects.ensures ∙ ap (λ s. s ∷ []) c.in_ok-share.ensures)
    (ap (λ s. s.value.id) (c.in_ok-state.ensures).ok ∙ c.requires.id) (ap (λ s. s.value.clipper) (c.in_ok-state.ensures).ok ∙ c.requires.clipper) (ap (λ s. s.value.parent) (c.in_ok-state.ensures).ok ∙ c.requires.parent)
