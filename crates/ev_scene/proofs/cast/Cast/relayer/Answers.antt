use Rattle.std.proofs.Common.{◌≡◌, true, FitsSigned, w32, w64, rules}
use Rattle.std.proofs.lemmas.Int.{to_z-of_z}
use Rattle.ev_scene.specs.Board.{values_of}
use Rattle.ev_scene.specs.Change.{is_layer}
use Rattle.ev_scene.proofs.Standing.{has_group, lifted}
use Rattle.ev_scene.proofs.cast.Cast.relayer.Goals as goal

pub relayer_in-requires-clause-known : goal.relayer_in-requires-clause-known
relayer_in-requires-clause-known c =
    has_group c.requires.whole c.in-Some.object.now.id c.in-Some.object.now (c.in-Some.ensures).there

pub returns-clause-whole : goal.returns-clause-whole
returns-clause-whole c =
    let fits : is_layer c.args.layer ≡ true = search rules in
    let long : FitsSigned w64 c.args.layer = search rules in
    let short : FitsSigned w32 c.args.layer = search rules in
    lifted c.requires.whole c.in-Some.object.now.id c.in-Some.object.now c.args.layer
    (values_of c.change.new.self.states) c.relayer_in.new.groups (c.in-Some.ensures).there fits c.relayer_in.ensures.order.distinct
    (simp to_z-of_z at (c.in_ok-change.ensures).ok) (simp to_z-of_z at c.relayer_in.ensures.moved)
