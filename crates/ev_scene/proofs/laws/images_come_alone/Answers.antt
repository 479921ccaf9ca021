use Rattle.ev_scene.proofs.Giving.{image_had}
use Rattle.ev_scene.proofs.laws.images_come_alone.Goals as goal

pub returns : goal.returns
returns c = image_had
