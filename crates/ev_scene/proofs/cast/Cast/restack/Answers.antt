use Rattle.ev_scene.proofs.Standing.{has_group, raised_to}
use Rattle.ev_scene.proofs.cast.Cast.restack.Goals as goal

pub restack_in-requires-clause-known : goal.restack_in-requires-clause-known
restack_in-requires-clause-known c =
    has_group c.requires.whole c.in-Some.object.now.id c.in-Some.object.now (c.in-Some.ensures).there

pub returns-clause-whole : goal.returns-clause-whole
returns-clause-whole c =
    raised_to c.requires.whole c.in-Some.object.now.id c.in-Some.object.now c.args.up c.restack_in.new.groups
    (c.in-Some.ensures).there c.restack_in.ensures.order.distinct c.restack_in.ensures.moved
