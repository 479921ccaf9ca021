use Rattle.ev_scene.proofs.Standing.{has_group, placed_to}
use Rattle.ev_scene.proofs.cast.Cast.place.Goals as goal

pub place_in-requires-clause-known : goal.place_in-requires-clause-known
place_in-requires-clause-known c =
    has_group c.requires.whole c.in-Some.object.now.id c.in-Some.object.now (c.in-Some.ensures).there

pub returns-clause-whole : goal.returns-clause-whole
returns-clause-whole c =
    placed_to c.requires.whole c.in-Some.object.now.id c.in-Some.object.now c.in-Some-named.beside.now.id c.args.above c.place_in.new.groups
    (c.in-Some.ensures).there c.place_in.ensures.order.distinct (c.in_default-place_in.ensures).fault (c.in_default-place_in.ensures).ok
