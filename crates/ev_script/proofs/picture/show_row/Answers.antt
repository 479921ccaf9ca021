use Rattle.std.proofs.Common.{ap, ◌∙◌}
use Rattle.ev_script.specs.Dumps.{unhidden_row}
use Rattle.ev_script.proofs.Painting.{row_places}
use Rattle.ev_script.proofs.picture.show_row.Goals as goal

pub returns : goal.returns
returns c = c.hide.ensures ∙ ap (unhidden_row c.args.hidden.now c.args.y) c.row.ensures ∙ row_places c.args.hidden.now c.args.picture.now c.args.y
