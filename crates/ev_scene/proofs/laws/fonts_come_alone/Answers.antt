use Rattle.ev_scene.proofs.Giving.{font_had}
use Rattle.ev_scene.proofs.laws.fonts_come_alone.Goals as goal

pub returns : goal.returns
returns c = font_had
