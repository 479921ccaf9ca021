use Rattle.ev_scene.proofs.Giving.{edits_had}
use Rattle.ev_scene.proofs.laws.edits_bring_no_loads.Goals as goal

pub returns : goal.returns
returns c = edits_had
