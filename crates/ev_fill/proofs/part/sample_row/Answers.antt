use Rattle.std.proofs.Common.{◌∙◌, length, Option}
use Rattle.ev_argb.specs.Argb.{Argb}
use Rattle.ev_fill.proofs.Images.{not_loaded}
use Rattle.ev_fill.proofs.part.sample_row.Goals as goal

pub returns-in-None : goal.returns-in-None
returns-in-None c = c.empty.ensures ∙ not_loaded (λ (sample : Option Argb). sample) c.args.part.now c.args.w c.args.h c.args.i c.args.j (length c.args.into.now) c.in-None.is
