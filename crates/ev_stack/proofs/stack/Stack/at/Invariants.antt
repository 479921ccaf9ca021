use Rattle.std.proofs.Common.{◌≡◌, ◌-◌}
use Rattle.ev_stack.specs.LayerOrder.{above_in, at_place}
use Rattle.ev_stack.specs.Links.{order_of, climbed}
use Rattle.ev_stack.proofs.stack.Stack.at.Given as goal

-- the steps that are left lead to the place
abbrev pub invariant-up : goal.invariant-up
invariant-up l = climbed (above_in (order_of l.self.chain)) (l.place - l.counter) l.found ≡ at_place (order_of l.self.chain) l.place
