use Rattle.std.proofs.Common.{sym, ◌∙◌}
use Rattle.ev_looks.proofs.Reaching.{rect_is}
use Rattle.ev_looks.proofs.refresh.same_rect.Goals as goal

pub returns : goal.returns
returns c = λ is. rect_is c.args.one.now c.args.other.now (sym c.eq.ensures ∙ is)
