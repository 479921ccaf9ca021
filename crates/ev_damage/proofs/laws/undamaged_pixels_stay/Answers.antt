use Rattle.ev_damage.proofs.Painting.{still}
use Rattle.ev_damage.proofs.laws.undamaged_pixels_stay.Goals as goal

pub returns : goal.returns
returns c = still
