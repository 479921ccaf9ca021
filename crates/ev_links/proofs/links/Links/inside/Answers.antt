use Rattle.std.proofs.Common.{◌∙◌}
use Rattle.ev_links.proofs.Faults.{inside_read}
use Rattle.ev_links.proofs.links.Links.inside.Goals as goal

pub returns : goal.returns
returns c = c.is_inside.ensures.value ∙ inside_read c.self.inside.table c.args.self.now c.args.id c.args.of c.self.view_is c.is_inside.ensures.unique
