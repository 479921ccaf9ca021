use Rattle.std.proofs.Common.{ap, ◌∙◌, arith}
use Rattle.ev_groups.specs.Walk.{ahead}
use Rattle.ev_groups.proofs.Walking.{entered}
use Rattle.ev_groups.proofs.groups.Groups.enter.Goals as goal

pub returns-in_ok-push : goal.returns-in_ok-push
returns-in_ok-push c =
    ap (ahead c.args.self.now) c.in_ok-push.ensures.items
    ∙ entered c.args.self.now c.args.frames.now.items c.args.parent c.in-Some.id c.args.levels _ (omega arith) (rw (← c.group.ensures) c.in-Some.ensures.all)
