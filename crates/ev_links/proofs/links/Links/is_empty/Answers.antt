use Rattle.std.proofs.Common.{refl}
use Rattle.ev_links.proofs.Views.{len_read}
use Rattle.ev_links.proofs.links.Links.is_empty.Goals as goal

pub returns : goal.returns
returns c = rw (len_read c.self.inside.table c.args.self.now c.self.view_is c.len.ensures.unique, c.len.ensures.value) refl
