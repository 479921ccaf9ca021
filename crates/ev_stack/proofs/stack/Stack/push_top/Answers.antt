use Rattle.std.proofs.Common.{◌∙◌, ap, rules}
use Rattle.std.specs.Int.{w32}
use Rattle.std.specs.Int.RustNames.{FitsSigned}
use Rattle.std.proofs.lemmas.Int.{to_z-of_z}
use Rattle.ev_stack.specs.LayerOrder.{put_top}
use Rattle.ev_stack.specs.Links.{order_of}
use Rattle.ev_stack.proofs.Places.{IsPut, put_at_top}
use Rattle.ev_stack.proofs.stack.Stack.push_top.Goals as goal

pub put_in-requires-clause-place : goal.put_in-requires-clause-place
put_in-requires-clause-place c =
    let fits : FitsSigned w32 c.args.layer = search rules in
    let put : IsPut (order_of c.admit.new.self.chain) c.top_place-place.result c.args.id c.args.layer (put_top (order_of c.admit.new.self.chain) c.args.id c.args.layer) =
    put_at_top (order_of c.admit.new.self.chain) c.top_place-place.result c.args.id c.args.layer (simp to_z-of_z at c.top_place-place.ensures) c.in_ok-admit.ensures.ok.sound.apart c.in_ok-admit.ensures.ok.sound.distinct c.in_ok-admit.ensures.ok.layered
    in
    put.at

pub put_in-requires-clause-layered : goal.put_in-requires-clause-layered
put_in-requires-clause-layered c =
    let fits : FitsSigned w32 c.args.layer = search rules in
    let put : IsPut (order_of c.admit.new.self.chain) c.top_place-place.result c.args.id c.args.layer (put_top (order_of c.admit.new.self.chain) c.args.id c.args.layer) =
    put_at_top (order_of c.admit.new.self.chain) c.top_place-place.result c.args.id c.args.layer (simp to_z-of_z at c.top_place-place.ensures) c.in_ok-admit.ensures.ok.sound.apart c.in_ok-admit.ensures.ok.sound.distinct c.in_ok-admit.ensures.ok.layered
    in
    simp to_z-of_z put.layered

pub returns-clause-ok : goal.returns-clause-ok
returns-clause-ok c =
    let fits : FitsSigned w32 c.args.layer = search rules in
    let put : IsPut (order_of c.admit.new.self.chain) c.top_place-place.result c.args.id c.args.layer (put_top (order_of c.admit.new.self.chain) c.args.id c.args.layer) =
    put_at_top (order_of c.admit.new.self.chain) c.top_place-place.result c.args.id c.args.layer (simp to_z-of_z at c.top_place-place.ensures) c.in_ok-admit.ensures.ok.sound.apart c.in_ok-admit.ensures.ok.sound.distinct c.in_ok-admit.ensures.ok.layered
    in
    (simp to_z-of_z at c.put_in.ensures.order) ∙ put.order ∙ ap (λ xs. put_top xs c.args.id c.args.layer) c.admit.ensures.order
