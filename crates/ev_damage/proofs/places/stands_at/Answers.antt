use Rattle.std.proofs.Common.{get_or}
use Rattle.std.proofs.lemmas.Bool.{eqb-true}
use Rattle.ev_damage.proofs.Placing.{place_guessed}
use Rattle.ev_damage.proofs.places.stands_at.Goals as goal

pub returns-then-at-others : goal.returns-then-at-others
returns-then-at-others c = λ e.
    place_guessed c.args.others.now c.args.id c.args.at c.index-others-at.result c.requires c.if-at-others.true
    (eqb-true (get_or c.args.others.now c.args.at c.index-others-at.result).id c.args.id e)
