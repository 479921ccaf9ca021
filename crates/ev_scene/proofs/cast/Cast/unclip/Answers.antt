use Rattle.std.proofs.Common.{None}
use Rattle.ev_scene.specs.Board.{values_of}
use Rattle.ev_scene.proofs.Standing.{clipped}
use Rattle.ev_scene.proofs.cast.Cast.unclip.Goals as goal

pub returns-clause-whole : goal.returns-clause-whole
returns-clause-whole c =
    clipped c.requires.whole c.in-Some.object.now.id c.in-Some.object.now None
    (values_of c.change.new.self.states) c.unclip.new.self (c.in-Some.ensures).there (c.in_ok-change.ensures).ok (c.in-Ok.ensures).ok
