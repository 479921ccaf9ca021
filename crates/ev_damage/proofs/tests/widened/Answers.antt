use Rattle.ev_damage.proofs.Comparing.{differ_in}
use Rattle.ev_damage.proofs.tests.widened.Goals as goal

pub returns : goal.returns
returns c = differ_in 1 2 c.in_ok-lower.lower c.in_ok-upper.upper c.in_ok-same.same c.in_ok-wider.wider (λ e. cc) c.in_ok-lower.ensures c.in_ok-upper.ensures c.in_ok-same.ensures c.in_ok-wider.ensures
