use Rattle.std.proofs.Common.{length, sym, ap, ◌∙◌}
use Rattle.ev_scene.specs.Ids.{live, value_of}
use Rattle.ev_scene.specs.Board.{values_of}
use Rattle.ev_scene.proofs.Places.{live_map}
use Rattle.ev_scene.proofs.roll.Roll.len.Goals as goal

pub returns : goal.returns
returns c = c.len.ensures ∙ sym (live_map value_of c.self.inside.slots.slots) ∙ ap (λ v. length (live (values_of v.states))) c.self.view_is
