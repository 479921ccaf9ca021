use Rattle.std.proofs.Common.{◌≡◌, ◌∙◌, Some, ap, rules}
use Rattle.std.specs.Int.{w32}
use Rattle.std.specs.Int.RustNames.{FitsSigned}
use Rattle.std.proofs.lemmas.Int.{to_z-of_z}
use Rattle.ev_stack.specs.LayerOrder.{layer_in, put_above}
use Rattle.ev_stack.specs.Links.{order_of}
use Rattle.ev_stack.proofs.Places.{IsPut, put_right_above}
use Rattle.ev_stack.proofs.Moves.{still_there}
use Rattle.ev_stack.proofs.stack.Stack.move_above.Goals as goal

pub put_in-requires-clause-place : goal.put_in-requires-clause-place
put_in-requires-clause-place c =
    let fits : FitsSigned w32 c.args.layer = search rules in
    let its : layer_in (order_of c.take_out.new.self.chain) c.args.other ≡ Some c.args.layer =
    rw c.take_out.ensures.order (still_there (order_of c.args.self.now.chain) c.args.id c.args.other c.args.layer c.requires.other c.requires.differ)
    in
    let put : IsPut (order_of c.take_out.new.self.chain) c.args.other c.args.id c.args.layer (put_above (order_of c.take_out.new.self.chain) c.args.other c.args.id c.args.layer) =
    put_right_above (order_of c.take_out.new.self.chain) c.args.other c.args.id c.args.layer its c.take_out.ensures.loose.sound.apart c.take_out.ensures.loose.layered
    in
    put.at

pub put_in-requires-clause-layered : goal.put_in-requires-clause-layered
put_in-requires-clause-layered c =
    let fits : FitsSigned w32 c.args.layer = search rules in
    let its : layer_in (order_of c.take_out.new.self.chain) c.args.other ≡ Some c.args.layer =
    rw c.take_out.ensures.order (still_there (order_of c.args.self.now.chain) c.args.id c.args.other c.args.layer c.requires.other c.requires.differ)
    in
    let put : IsPut (order_of c.take_out.new.self.chain) c.args.other c.args.id c.args.layer (put_above (order_of c.take_out.new.self.chain) c.args.other c.args.id c.args.layer) =
    put_right_above (order_of c.take_out.new.self.chain) c.args.other c.args.id c.args.layer its c.take_out.ensures.loose.sound.apart c.take_out.ensures.loose.layered
    in
    simp to_z-of_z put.layered

pub returns-clause-order : goal.returns-clause-order
returns-clause-order c =
    let fits : FitsSigned w32 c.args.layer = search rules in
    let its : layer_in (order_of c.take_out.new.self.chain) c.args.other ≡ Some c.args.layer =
    rw c.take_out.ensures.order (still_there (order_of c.args.self.now.chain) c.args.id c.args.other c.args.layer c.requires.other c.requires.differ)
    in
    let put : IsPut (order_of c.take_out.new.self.chain) c.args.other c.args.id c.args.layer (put_above (order_of c.take_out.new.self.chain) c.args.other c.args.id c.args.layer) =
    put_right_above (order_of c.take_out.new.self.chain) c.args.other c.args.id c.args.layer its c.take_out.ensures.loose.sound.apart c.take_out.ensures.loose.layered
    in
    (simp to_z-of_z at c.put_in.ensures.order) ∙ put.order ∙ ap (λ xs. put_above xs c.args.other c.args.id c.args.layer) c.take_out.ensures.order
