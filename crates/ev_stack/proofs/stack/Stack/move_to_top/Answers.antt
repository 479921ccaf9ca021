use Rattle.std.proofs.Common.{◌∙◌, ap, rules}
use Rattle.std.specs.Int.{w32}
use Rattle.std.specs.Int.RustNames.{FitsSigned}
use Rattle.std.proofs.lemmas.Int.{to_z-of_z}
use Rattle.ev_stack.specs.LayerOrder.{put_top}
use Rattle.ev_stack.specs.Links.{order_of}
use Rattle.ev_stack.proofs.Places.{IsPut, put_at_top}
use Rattle.ev_stack.proofs.stack.Stack.move_to_top.Goals as goal

pub put_in-requires-clause-place : goal.put_in-requires-clause-place
put_in-requires-clause-place c =
    let fits : FitsSigned w32 c.args.layer = search rules in
    let put : IsPut (order_of c.take_out.new.self.chain) c.top_place-place.result c.args.id c.args.layer (put_top (order_of c.take_out.new.self.chain) c.args.id c.args.layer) =
    put_at_top (order_of c.take_out.new.self.chain) c.top_place-place.result c.args.id c.args.layer (simp to_z-of_z at c.top_place-place.ensures) c.take_out.ensures.loose.sound.apart c.take_out.ensures.loose.sound.distinct c.take_out.ensures.loose.layered
    in
    put.at

pub put_in-requires-clause-layered : goal.put_in-requires-clause-layered
put_in-requires-clause-layered c =
    let fits : FitsSigned w32 c.args.layer = search rules in
    let put : IsPut (order_of c.take_out.new.self.chain) c.top_place-place.result c.args.id c.args.layer (put_top (order_of c.take_out.new.self.chain) c.args.id c.args.layer) =
    put_at_top (order_of c.take_out.new.self.chain) c.top_place-place.result c.args.id c.args.layer (simp to_z-of_z at c.top_place-place.ensures) c.take_out.ensures.loose.sound.apart c.take_out.ensures.loose.sound.distinct c.take_out.ensures.loose.layered
    in
    simp to_z-of_z put.layered

pub returns-clause-order : goal.returns-clause-order
returns-clause-order c =
    let fits : FitsSigned w32 c.args.layer = search rules in
    let put : IsPut (order_of c.take_out.new.self.chain) c.top_place-place.result c.args.id c.args.layer (put_top (order_of c.take_out.new.self.chain) c.args.id c.args.layer) =
    put_at_top (order_of c.take_out.new.self.chain) c.top_place-place.result c.args.id c.args.layer (simp to_z-of_z at c.top_place-place.ensures) c.take_out.ensures.loose.sound.apart c.take_out.ensures.loose.sound.distinct c.take_out.ensures.loose.layered
    in
    (simp to_z-of_z at c.put_in.ensures.order) ∙ put.order ∙ ap (λ xs. put_top xs c.args.id c.args.layer) c.take_out.ensures.order
