use Rattle.std.proofs.Common.{◌∙◌}
use Rattle.ev_seats.specs.Weights.{only}
use Rattle.ev_seats.proofs.Sums.{below-in, below-out}
use Rattle.ev_ring.proofs.laws.each_ticket_is_got_once.Goals as goal

pub returns : goal.returns
returns c = λ limit claim done views rule ticket. ((λ lt. rule.once (only ticket) ∙ below-in ticket claim lt), λ le. rule.once (only ticket) ∙ below-out ticket claim le)
