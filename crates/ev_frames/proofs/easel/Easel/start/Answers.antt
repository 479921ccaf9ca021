use Rattle.std.proofs.Common.{sym, ap, ◌∙◌, subst}
use Rattle.ev_buffers.specs.Kept.{KeepsByLending}
use Rattle.ev_frames.specs.Running.{Lends}
use Rattle.ev_frames.proofs.Standing.{starts}
use Rattle.ev_frames.proofs.easel.Easel.start.Goals as goal

pub returns-clause-kept : goal.returns-clause-kept
returns-clause-kept c = λ updates hidden hidden' before capture made is keeps follows.
    starts _ c.args.plan c.args.commands c.lend-loan.new.self c.lend-loan.result c.begin.result c.self.inside.given_up updates hidden hidden' before capture
    (c.requires.commands.is.width ∙ c.requires.commands.width) (c.requires.commands.is.height ∙ c.requires.commands.height)
    (subst (λ chain. KeepsByLending chain c.args.plan c.lend-loan.new.self c.lend-loan.result) (ap (λ e. e.chain) c.self.view_is) c.lend-loan.ensures.kept)
    (λ paint hid lends. c.begin.ensures.kept paint hid (subst (λ cut. Lends paint hid cut c.lend-loan.result) (sym c.in_ok-room.ensures.commands) lends))
    made is keeps follows
