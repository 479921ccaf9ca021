use Rattle.ev_scene.proofs.Trees.{sound_stage}
use Rattle.ev_scene.proofs.cast.Cast.laws.Goals as goal

pub returns : goal.returns
returns c =
    sound_stage c.requires c.tell_ties.ensures c.tell_orders.ensures
