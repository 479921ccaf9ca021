use Rattle.ev_scene.proofs.Giving.{stage_had}
use Rattle.ev_scene.proofs.laws.stages_bring_no_loads.Goals as goal

pub returns : goal.returns
returns c = stage_had
