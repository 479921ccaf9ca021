use Rattle.ev_scene.proofs.Standing.{at_start}
use Rattle.ev_scene.proofs.cast.Cast.new.Goals as goal

pub returns-clause-whole : goal.returns-clause-whole
returns-clause-whole c = at_start c.new.result.states c.new-2.result c.new-3.result c.new.ensures.none c.new-2.ensures c.new-3.ensures
