use Rattle.std.proofs.Common.{ℕ, List, sym, subst}
use Rattle.ev_records.specs.Ranks.{AreRanks}
use Rattle.ev_records.proofs.Ranking.{ranks_settled}
use Rattle.ev_records.proofs.ranks.Ranks.settle.Goals as goal

pub invariant_of-self : goal.invariant_of-self
invariant_of-self c =
    let P : List ℕ → Type 0 = AreRanks c.settle_all.new.ranks.items in
    subst P (sym c.clear.ensures.items) (ranks_settled c.self.inside.ranks.items c.settle_all.new.ranks.items c.self.inside.moved.items c.self.invariant c.settle_all.ensures)
