use Rattle.std.proofs.Common.{◌∙◌, refl}
use Rattle.ev_stack.proofs.Moves.{loose_alone, forgotten}
use Rattle.ev_stack.proofs.stack.Stack.remove.Goals as goal

pub forget-requires-clause-alone : goal.forget-requires-clause-alone
forget-requires-clause-alone c = loose_alone c.take_out.new.self c.args.id c.take_out.ensures.loose

pub returns-clause-stack : goal.returns-clause-stack
returns-clause-stack c =
    (forgotten c.take_out.new.self (record c.take_out.new.self { chain = c.forget.new.self }) c.args.id c.take_out.ensures.loose c.forget.ensures.above c.forget.ensures.below c.forget.ensures.layers c.forget.ensures.len refl refl).0

pub returns-clause-order : goal.returns-clause-order
returns-clause-order c =
    (forgotten c.take_out.new.self (record c.take_out.new.self { chain = c.forget.new.self }) c.args.id c.take_out.ensures.loose c.forget.ensures.above c.forget.ensures.below c.forget.ensures.layers c.forget.ensures.len refl refl).1
    ∙ c.take_out.ensures.order
