use Rattle.ev_records.proofs.Numbering.{numbered_ranks}
use Rattle.ev_records.proofs.ranks.Ranks.renumber.Goals as goal

pub invariant_of-self : goal.invariant_of-self
invariant_of-self c = numbered_ranks c.number_all.new.ranks.items c.self.inside.ranks.items c.self.inside.moved.items c.args.order.now c.number_all.ensures c.self.invariant
