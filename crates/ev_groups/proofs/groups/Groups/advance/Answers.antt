use Rattle.std.proofs.Common.{ap, ◌∙◌}
use Rattle.ev_groups.specs.Walk.{ahead}
use Rattle.ev_groups.proofs.Walking.{advanced}
use Rattle.ev_groups.proofs.groups.Groups.advance.Goals as goal

pub returns-in_ok-push : goal.returns-in_ok-push
returns-in_ok-push c =
    ap (ahead c.args.self.now) c.in_ok-push.ensures.items
    ∙ advanced c.args.self.now c.args.frames.now.items c.args.frame.now c.in-Some.id (rw (← c.group.ensures) c.in-Some.ensures.rest)
