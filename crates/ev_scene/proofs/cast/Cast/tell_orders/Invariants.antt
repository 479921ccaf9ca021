use Rattle.ev_scene.proofs.Orders.{AreOrdersBelow}
use Rattle.ev_scene.proofs.cast.Cast.tell_orders.Given as goal

abbrev pub invariant-loop-id : goal.invariant-loop-id
invariant-loop-id l = AreOrdersBelow l.fn.self.groups l.id
