use Rattle.std.proofs.Common.{◌≡◌, ◌≤◌, length, map, None, Some, is_some, rules, sym, ap, subst, ◌∙◌}
use Rattle.ev_slots.specs.Slots.{of_id, put}
use Rattle.ev_groups.specs.Groups.{members_of}
use Rattle.ev_groups.proofs.Keeping.{filled_none, filled_there}
use Rattle.ev_groups.proofs.groups.make.Goals as goal

pub returns-in_ok-reserve-clause-same : goal.returns-in_ok-reserve-clause-same
returns-in_ok-reserve-clause-same c =
    let none : of_id c.args.members.now.slots c.args.id ≡ None = search rules in
    ap (map members_of) c.fill.ensures.slots
    ∙ ap (λ slots. map members_of (put slots c.args.id (Some c.new.result))) (c.in_ok-reserve.ensures).slots
    ∙ ap (λ list. map members_of (put c.args.members.now.slots c.args.id (Some list))) c.new.ensures
    ∙ filled_none c.args.members.now.slots c.args.id c.requires.low none

pub returns-in_ok-reserve-clause-there : goal.returns-in_ok-reserve-clause-there
returns-in_ok-reserve-clause-there c =
    let high : c.args.id ≤ length c.reserve.new.self.slots = subst (λ slots. c.args.id ≤ length slots) (sym (c.in_ok-reserve.ensures).slots) c.requires.high in
    ap (λ slots. is_some (of_id slots c.args.id)) c.fill.ensures.slots ∙ filled_there c.reserve.new.self.slots c.args.id c.new.result c.requires.low high
