use Rattle.ev_groups.specs.Groups.{siblings}
use Rattle.ev_scene.proofs.Deleting.{gone_known, memberless, one_whole, one_board}
use Rattle.ev_scene.proofs.Releasing.{released_states}
use Rattle.ev_scene.proofs.cast.Cast.delete_one.Goals as goal

pub released-requires : goal.released-requires
released-requires c = record { tied = c.requires.whole.tied }

pub drop_id-requires : goal.drop_id-requires
drop_id-requires c =
    memberless c.args.self.now.roll.states c.requires.whole c.tell_ties.ensures c.args.id c.args.parent c.requires.object.0 c.requires.object.1 c.requires.object.2 c.requires.object.3

pub remove_from-requires-clause-known : goal.remove_from-requires-clause-known
remove_from-requires-clause-known c =
    gone_known c.args.self.now.roll.states c.requires.whole c.tell_ties.ensures c.args.id c.args.parent c.requires.object.0 c.requires.object.1 c.requires.object.2

pub replace_all-requires : goal.replace_all-requires
replace_all-requires c =
    released_states c.args.self.now.roll.states c.requires.whole c.args.id (siblings c.args.self.now.groups c.args.parent)
    c.in_ok-released.released.items (c.in_ok-released.ensures).states c.released.new.roll.states c.released.ensures.same

pub returns-clause-whole : goal.returns-clause-whole
returns-clause-whole c =
    one_whole c.args.self.now.roll.states c.requires.whole c.tell_ties.ensures c.args.id c.args.parent c.requires.object.0 c.requires.object.1 c.requires.object.2 c.requires.object.3
    c.in_ok-released.released.items (c.in_ok-released.ensures).states c.released.new.roll.states c.released.ensures.same
    c.remove_from.new.groups c.clear.new.self c.remove_from.ensures.moved c.clear.ensures
    c.replace_all.new.self.states c.take.new.self.states c.replace_all.ensures.states c.take.ensures.states
    c.remove_from.ensures.order.distinct c.drop_id.new.self (c.in-Ok.ensures).ok

pub returns-clause-ok : goal.returns-clause-ok
returns-clause-ok c =
    one_board c.args.self.now.roll.states c.requires.whole c.tell_ties.ensures c.args.id c.args.parent c.requires.object.0 c.requires.object.1 c.requires.object.2 c.requires.object.3
    c.in_ok-released.released.items (c.in_ok-released.ensures).states c.released.new.roll.states c.released.ensures.same
    c.remove_from.new.groups c.clear.new.self c.remove_from.ensures.moved c.clear.ensures
    c.replace_all.new.self.states c.take.new.self.states c.replace_all.ensures.states c.take.ensures.states
