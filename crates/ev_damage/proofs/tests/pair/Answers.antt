use Rattle.ev_damage.proofs.Comparing.{comparable}
use Rattle.ev_damage.proofs.tests.pair.Goals as goal

pub returns : goal.returns
returns c = comparable c.args.lower c.args.upper c.in_ok-first.first c.in_ok-second.second c.requires.ids c.in_ok-first.ensures c.in_ok-second.ensures
