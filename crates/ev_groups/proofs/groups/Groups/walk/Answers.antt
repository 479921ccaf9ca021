use Rattle.std.proofs.Common.{◌++◌}
use Rattle.ev_model.specs.Order.{in_order}
use Rattle.ev_groups.specs.Groups.{siblings}
use Rattle.ev_groups.specs.Walk.{ahead}
use Rattle.ev_groups.proofs.Walking.{stepped, given, fewer}
use Rattle.ev_groups.proofs.groups.Groups.walk.Goals as goal

pub loop-frame-smaller : goal.loop-frame-smaller
loop-frame-smaller c =
    fewer (ahead c.args.self.now c.loop-frame.frames.items) (ahead c.args.self.now c.enter-in-Some.new.frames.items) c.in-Some.frame.id
    (stepped c.args.self.now c.loop-frame.frames.items c.pop.new.self.items c.in-Some.frame _ _ c.in-Some.ensures.items c.in_ok-advance.ensures c.in_ok-enter-2.ensures)

pub loop-frame-preserved : goal.loop-frame-preserved
loop-frame-preserved c =
    rw c.in_ok-push.ensures.items
    (given (ahead c.args.self.now c.loop-frame.frames.items) (ahead c.args.self.now c.enter-in-Some.new.frames.items) c.loop-frame.ids.items (c.args.ids.now.items ++ in_order c.args.levels (siblings c.args.self.now) c.args.root) c.in-Some.frame.id
    (stepped c.args.self.now c.loop-frame.frames.items c.pop.new.self.items c.in-Some.frame _ _ c.in-Some.ensures.items c.in_ok-advance.ensures c.in_ok-enter-2.ensures)
    c.loop-frame.invariant)
