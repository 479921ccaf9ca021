use Rattle.ev_looks.proofs.Leaving.{looks_same}
use Rattle.ev_looks.proofs.laws.unreached_looks_stay.Goals as goal

pub returns : goal.returns
returns c = looks_same
