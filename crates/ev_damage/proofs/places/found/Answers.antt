use Rattle.std.proofs.Common.{◌∙◌, ◌==◌}
use Rattle.std.proofs.lemmas.Iterator.Adapters.{position_from-zero}
use Rattle.ev_model.specs.declared.scene.Record.{Record}
use Rattle.ev_damage.proofs.Placing.{place_found}
use Rattle.ev_damage.proofs.places.found.Goals as goal

pub returns-in-None : goal.returns-in-None
returns-in-None c = c.searched.ensures ∙ position_from-zero (λ (r : Record). r.id == c.args.id) c.args.others.now ∙ place_found 0 c.args.others.now c.args.id
