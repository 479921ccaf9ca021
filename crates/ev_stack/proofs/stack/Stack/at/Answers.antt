use Rattle.std.proofs.Common.{◌≡◌, refl, Some, ◌-◌, suc, ◌+◌}
use Rattle.ev_stack.specs.LayerOrder.{above_in, at_place}
use Rattle.ev_stack.specs.Links.{order_of, climbed}
use Rattle.ev_stack.proofs.Walks.{none_done, left_more, at_place-climbed}
use Rattle.ev_stack.proofs.stack.Stack.at.Goals as goal

pub up-init : goal.up-init
up-init c =
    rw (none_done c.args.place, c.bottom-found.ensures.bottom)
    (at_place-climbed (above_in (order_of c.args.self.now.chain)) (order_of c.args.self.now.chain) c.args.place (λ id there. refl) c.requires.sound.distinct)

pub up-preserved : goal.up-preserved
up-preserved c =
    let now : climbed (above_in (order_of c.args.self.now.chain)) (suc (c.args.place - (c.up.counter + 1))) (Some c.in-Some.id) ≡ at_place (order_of c.args.self.now.chain) c.args.place =
    rw (left_more c.up.counter c.args.place c.up-test.true, c.in-Some.is) at c.up.invariant
    in
    rw c.next_above-found.ensures.above now
