use Rattle.std.proofs.Common.{rules}
use Rattle.std.specs.Int.{w32}
use Rattle.std.specs.Int.RustNames.{FitsSigned}
use Rattle.std.proofs.lemmas.Int.{to_z-of_z}
use Rattle.ev_stack.proofs.Moves.{tops_layered, tops_room, put_back}
use Rattle.ev_stack.proofs.stack.Stack.put_in.Goals as goal

pub enter-requires-clause-layered : goal.enter-requires-clause-layered
enter-requires-clause-layered c = tops_layered c.args.self.now c.requires.loose.tops c.requires.loose.layered

pub enter-requires-clause-room : goal.enter-requires-clause-room
enter-requires-clause-room c = tops_room c.args.self.now c.args.id c.requires.loose

pub returns-clause-stack : goal.returns-clause-stack
returns-clause-stack c =
    let fits : FitsSigned w32 c.args.layer = search rules in
    put_back c.args.self.now (record { chain = c.link.new.self; layers = c.enter.new.self }) c.args.id c.args.place c.args.layer c.requires.loose c.requires.place c.requires.layered
    c.link.ensures.sound (simp to_z-of_z at c.link.ensures.order) (simp to_z-of_z at c.link.ensures.layers) c.link.ensures.len (simp to_z-of_z at c.enter.ensures.tops) c.enter.ensures.room
