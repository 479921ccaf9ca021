use Rattle.ev_canvas.proofs.Setting.{set_up}
use Rattle.ev_canvas.proofs.begun.Begun.set_up.Goals as goal

pub returns-clause-set : goal.returns-clause-set
returns-clause-set c = set_up c.args.self.now c.args.easel.now c.in_ok-plan.plan c.in_ok-commands.commands (rw c.work.ensures at c.in_ok-commands.ensures) c.requires.width c.requires.height c.start.new.self c.left.result
    c.in_ok-plan.ensures.made c.in_ok-plan.ensures.repairs c.in_ok-start.ensures.lent c.in_ok-start.ensures.running c.in_ok-start.ensures.drawn c.in_ok-start.ensures.left c.in_ok-start.ensures.painted c.in_ok-start.ensures.kept c.left.ensures
