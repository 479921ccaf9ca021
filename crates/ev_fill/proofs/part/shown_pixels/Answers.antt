use Rattle.std.proofs.Common.{◌∙◌, None, ap, length}
use Rattle.std.proofs.lemmas.List.{length-replicate}
use Rattle.ev_fill.specs.Rows.{blended}
use Rattle.ev_fill.proofs.Images.{not_loaded}
use Rattle.ev_fill.proofs.part.shown_pixels.Goals as goal

pub returns-in-None-clause-pixels : goal.returns-in-None-clause-pixels
returns-in-None-clause-pixels c = λ h j within at. c.empty.ensures ∙ not_loaded blended c.args.part.now c.args.w h c.args.i j (length c.args.into.now) c.in-None.is

pub returns-in-None-clause-len : goal.returns-in-None-clause-len
returns-in-None-clause-len c = ap length c.empty.ensures ∙ length-replicate (length c.args.into.now) (blended None)
