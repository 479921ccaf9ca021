use Rattle.ev_scene.proofs.Orders.{first_order, next_order, each_order, all_groups}
use Rattle.ev_scene.proofs.cast.Cast.tell_orders.Goals as goal

pub loop-id-init : goal.loop-id-init
loop-id-init c = first_order c.args.self.now.groups c.tell_order.ensures

pub loop-id-preserved : goal.loop-id-preserved
loop-id-preserved c = next_order c.args.self.now.groups c.loop-id.id c.loop-id.invariant c.tell_order-in-loop-id.ensures

pub returns : goal.returns
returns c = each_order c.args.self.now.groups c.loop-id.id c.loop-id.invariant
    (all_groups c.args.self.now.roll.states c.args.self.now.groups c.next_id-id-end.result c.loop-id.id c.requires.grouped c.next_id-id-end.ensures c.loop-id-test.false)
