use Rattle.ev_damage.proofs.Telling.{tells}
use Rattle.ev_damage.proofs.laws.equal_looks_pass.Goals as goal

pub returns : goal.returns
returns c = tells
