use Rattle.std.proofs.Common.{rules}
use Rattle.std.specs.Int.{w32}
use Rattle.std.specs.Int.RustNames.{FitsSigned}
use Rattle.std.proofs.lemmas.Int.{to_z-of_z}
use Rattle.ev_stack.proofs.Moves.{tops_layered, taken_out}
use Rattle.ev_stack.proofs.stack.Stack.take_out.Goals as goal

pub leave-requires : goal.leave-requires
leave-requires c = tops_layered c.args.self.now c.requires.stack.tops c.requires.stack.layered

pub returns-clause-loose : goal.returns-clause-loose
returns-clause-loose c =
    let fits : FitsSigned w32 c.args.layer = search rules in
    taken_out c.args.self.now (record { chain = c.unlink-below.new.self; layers = c.leave.new.self }) c.args.id c.args.layer c.unlink-below.result c.in_layer-instead.result
    c.requires.stack c.requires.there c.unlink-below.ensures.sound c.unlink-below.ensures.order c.unlink-below.ensures.layers c.unlink-below.ensures.len c.unlink-below.ensures.below
    (simp to_z-of_z at c.in_layer-instead.ensures) (simp to_z-of_z at c.leave.ensures.tops) c.leave.ensures.room
