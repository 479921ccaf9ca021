use Rattle.std.proofs.Common.{◌∙◌, ap, refl, set}
use Rattle.ev_records.specs.Standing.{Standings}
use Rattle.ev_records.proofs.Ranking.{placed, renumbered}
use Rattle.ev_records.proofs.ranks.Ranks.place.Goals as goal
use Rattle.ev_records.proofs.ranks.Ranks.place.Goals.{then-not-index+in_ok-push, else-not-index}

pub returns-clause-ok : goal.returns-clause-ok
returns-clause-ok c = elim c.if-not-index.branch [
  | then-not-index+in_ok-push w ↦ placed c.if-not-index.self-inside.ranks.items c.args.place c.args.rank c.index_mut-one.result.now _ c.index_mut-one.ensures.value refl
      ∙ ap (λ ranks. renumbered ranks c.args.place c.args.rank) (ap (λ inside. inside.ranks.items) w.self-inside-is)
      ∙ ap {A = Standings} (λ st. record st { stands = set st.stands c.args.place c.args.rank }) c.self.view_is
  | else-not-index w ↦ placed c.if-not-index.self-inside.ranks.items c.args.place c.args.rank c.index_mut-one.result.now _ c.index_mut-one.ensures.value refl
      ∙ ap (λ ranks. renumbered ranks c.args.place c.args.rank) (ap (λ inside. inside.ranks.items) w.self-inside-is)
      ∙ ap {A = Standings} (λ st. record st { stands = set st.stands c.args.place c.args.rank }) c.self.view_is
]
