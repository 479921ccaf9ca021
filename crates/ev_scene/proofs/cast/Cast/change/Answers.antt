use Rattle.std.proofs.Common.{rules}
use Rattle.ev_scene.specs.Board.{values_of}
use Rattle.ev_scene.specs.Change.{IsLook}
use Rattle.ev_scene.proofs.Standing.{look_fits, looked}
use Rattle.ev_scene.proofs.cast.Cast.change.Goals as goal

pub change-requires-clause-fit : goal.change-requires-clause-fit
change-requires-clause-fit c = let look : IsLook c.in-Some-change.change = search rules in look_fits c.in-Some-change.change look

pub returns-clause-whole : goal.returns-clause-whole
returns-clause-whole c =
    let look : IsLook c.in-Some-change.change = search rules in
    looked c.requires.whole c.in-Some.object.now.id c.in-Some.object.now c.in-Some-change.change
    (values_of c.change.new.self.states) (c.in-Some.ensures).there look (c.in_ok-change.ensures).ok
