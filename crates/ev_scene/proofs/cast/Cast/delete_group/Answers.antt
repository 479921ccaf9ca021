use Rattle.std.proofs.Common.{◌∙◌}
use Rattle.ev_scene.proofs.Deleting.{gone_known, ids_members, ids_clipped, ids_serial, group_whole, group_board}
use Rattle.ev_scene.proofs.cast.Cast.delete_group.Goals as goal

pub drop_all-requires-clause-members : goal.drop_all-requires-clause-members
drop_all-requires-clause-members c = ids_members c.args.self.now.roll.states c.requires.whole c.tell_ties.ensures c.args.id c.args.parent c.requires.object.0 c.requires.object.1 c.requires.object.2 c.deref.result.now (c.deref.ensures.value ∙ c.in_ok-ids.ensures)

pub drop_all-requires-clause-clipped : goal.drop_all-requires-clause-clipped
drop_all-requires-clause-clipped c = ids_clipped c.args.self.now.roll.states c.requires.whole c.tell_ties.ensures c.args.id c.args.parent c.requires.object.0 c.requires.object.1 c.requires.object.2 c.deref.result.now (c.deref.ensures.value ∙ c.in_ok-ids.ensures) c.requires.object.3

pub remove_from-requires-clause-known : goal.remove_from-requires-clause-known
remove_from-requires-clause-known c = gone_known c.args.self.now.roll.states c.requires.whole c.tell_ties.ensures c.args.id c.args.parent c.requires.object.0 c.requires.object.1 c.requires.object.2

pub clear_all-requires : goal.clear_all-requires
clear_all-requires c = record {
  serial = ids_serial c.args.self.now.roll.states c.requires.whole c.tell_ties.ensures c.args.id c.args.parent c.requires.object.0 c.requires.object.1 c.requires.object.2 c.deref-2.result.now (c.deref-2.ensures.value ∙ c.in_ok-ids.ensures);
}

pub returns-clause-whole : goal.returns-clause-whole
returns-clause-whole c =
    group_whole c.args.self.now.roll.states c.requires.whole c.tell_ties.ensures c.args.id c.args.parent c.requires.object.0 c.requires.object.1 c.requires.object.2 c.requires.object.3
    c.remove_from.new.groups c.clear_all.new.groups c.remove_from.ensures.moved c.deref-2.result.now (c.deref-2.ensures.value ∙ c.in_ok-ids.ensures) c.clear_all.ensures
    c.take_all.new.roll.states c.deref-3.result.now (c.deref-3.ensures.value ∙ c.in_ok-ids.ensures) c.take_all.ensures.states c.take_all.ensures.size
    c.remove_from.ensures.order.distinct c.drop_all.new.self c.deref.result.now (c.deref.ensures.value ∙ c.in_ok-ids.ensures) c.drop_all.ensures

pub returns-clause-ok : goal.returns-clause-ok
returns-clause-ok c =
    group_board c.args.self.now.roll.states c.requires.whole c.tell_ties.ensures c.args.id c.args.parent c.requires.object.0 c.requires.object.1 c.requires.object.2 c.requires.object.3
    c.remove_from.new.groups c.clear_all.new.groups c.remove_from.ensures.moved c.deref-2.result.now (c.deref-2.ensures.value ∙ c.in_ok-ids.ensures) c.clear_all.ensures
    c.take_all.new.roll.states c.deref-3.result.now (c.deref-3.ensures.value ∙ c.in_ok-ids.ensures) c.take_all.ensures.states c.take_all.ensures.size
