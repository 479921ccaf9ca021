use Rattle.std.proofs.Common.{ℕ, List, sym, subst}
use Rattle.ev_records.specs.Standing.{Stays, Standings}
use Rattle.ev_records.specs.Ranks.{standings}
use Rattle.ev_records.proofs.Ranking.{stays}
use Rattle.ev_records.proofs.ranks.Ranks.moved.Goals as goal

pub returns-clause-stays : goal.returns-clause-stays
returns-clause-stays c =
    let P : Standings → Type 0 = λ st. Stays st c.deref.result.now in
    let Q : List ℕ → Type 0 = λ moved. Stays (standings c.self.inside.ranks.items) moved in
    subst P c.self.view_is (subst Q (sym c.deref.ensures.value) (stays c.self.inside.ranks.items c.self.inside.moved.items c.self.invariant))
