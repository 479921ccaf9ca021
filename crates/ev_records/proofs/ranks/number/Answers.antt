use Rattle.std.proofs.Common.{refl}
use Rattle.ev_records.proofs.Ranking.{number_set}
use Rattle.ev_records.proofs.ranks.number.Goals as goal

pub returns : goal.returns
returns c = number_set c.args.ranks.now.items c.args.place c.args.rank c.index_mut-one.result.now _ c.index_mut-one.ensures.value refl
