use Rattle.std.proofs.Common.{get_or, [], sym, ap, ◌∙◌}
use Rattle.ev_groups.specs.Groups.{members_of, groups_of, group}
use Rattle.ev_groups.proofs.Keeping.{group_kept}
use Rattle.ev_groups.proofs.groups.Groups.group.Goals as goal

pub returns-in-None : goal.returns-in-None
returns-in-None c =
    c.self.invariant.0
    ∙ ap members_of c.in-None.ensures
    ∙ sym (group_kept c.self.inside.top c.self.inside.members.slots c.place-place.result c.if-place-eq0.false)
    ∙ ap (λ at. get_or (groups_of c.self.inside.top c.self.inside.members.slots) at []) c.place-place.ensures
    ∙ ap (λ v. group v c.args.parent) c.self.view_is
