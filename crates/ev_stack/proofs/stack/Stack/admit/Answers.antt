use Rattle.std.proofs.Common.{◌≤◌, ◌+◌, vec_capacity, rules}
use Rattle.std.specs.HashMap.{hash_map_len}
use Rattle.std.specs.Int.{w32}
use Rattle.std.specs.Int.RustNames.{FitsSigned}
use Rattle.std.proofs.lemmas.Int.{to_z-of_z}
use Rattle.ev_stack.proofs.Moves.{tops_fit, admitted, unchanged, on_err}
use Rattle.ev_stack.proofs.stack.Stack.admit.Goals as goal

pub reserve-requires-clause-most : goal.reserve-requires-clause-most
reserve-requires-clause-most c = rw c.node_count.ensures.count (tops_fit c.args.self.now c.requires.stack)

pub returns-in_err-insert-clause-order : goal.returns-in_err-insert-clause-order
returns-in_err-insert-clause-order c =
    (unchanged c.args.self.now (record { chain = c.insert.new.self; layers = c.reserve.new.self }) c.requires.stack c.in_err-insert.ensures.above c.in_err-insert.ensures.below c.in_err-insert.ensures.same_layers c.in_err-insert.ensures.same_len c.reserve.ensures.tops c.reserve.ensures.room).1

pub returns-in_err-insert-clause-err : goal.returns-in_err-insert-clause-err
returns-in_err-insert-clause-err c =
    on_err c.from_residual-in_err-insert.result
    (unchanged c.args.self.now (record { chain = c.insert.new.self; layers = c.reserve.new.self }) c.requires.stack c.in_err-insert.ensures.above c.in_err-insert.ensures.below c.in_err-insert.ensures.same_layers c.in_err-insert.ensures.same_len c.reserve.ensures.tops c.reserve.ensures.room).0

pub returns-clause-order : goal.returns-clause-order
returns-clause-order c =
    let fits : FitsSigned w32 c.args.layer = search rules in
    let room : hash_map_len c.args.self.now.chain.nodes + 1 ≤ vec_capacity c.reserve.new.self.tops = rw c.node_count.ensures.count at c.in_ok-reserve.ensures.ok in
    (admitted c.args.self.now (record { chain = c.insert.new.self; layers = c.reserve.new.self }) c.args.id c.args.layer c.requires.stack c.requires.fresh c.requires.object
    c.in_ok-insert.ensures.above c.in_ok-insert.ensures.below (simp to_z-of_z at c.in_ok-insert.ensures.layers) c.in_ok-insert.ensures.len c.reserve.ensures.tops room).1

pub returns-clause-ok : goal.returns-clause-ok
returns-clause-ok c =
    let fits : FitsSigned w32 c.args.layer = search rules in
    let room : hash_map_len c.args.self.now.chain.nodes + 1 ≤ vec_capacity c.reserve.new.self.tops = rw c.node_count.ensures.count at c.in_ok-reserve.ensures.ok in
    (admitted c.args.self.now (record { chain = c.insert.new.self; layers = c.reserve.new.self }) c.args.id c.args.layer c.requires.stack c.requires.fresh c.requires.object
    c.in_ok-insert.ensures.above c.in_ok-insert.ensures.below (simp to_z-of_z at c.in_ok-insert.ensures.layers) c.in_ok-insert.ensures.len c.reserve.ensures.tops room).0
