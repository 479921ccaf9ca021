use Rattle.std.proofs.Common.{Some, [], ap, ◌∙◌}
use Rattle.ev_groups.specs.Groups.{with_group}
use Rattle.ev_groups.proofs.Keeping.{cleared}
use Rattle.ev_groups.proofs.groups.Groups.clear.Goals as goal
use Rattle.ev_groups.proofs.groups.Groups.clear.Goals.{in-Some-2, in-None-2}

pub returns-then-is_some : goal.returns-then-is_some
returns-then-is_some c =
    let after = cleared c.self.inside.top c.self.inside.members.slots c.take.new.self.slots c.args.id c.take.result c.requires.serial c.take.ensures.value c.take.ensures.some c.take.ensures.none
    ∙ ap (λ v. with_group v (Some c.args.id) []) c.self.view_is in
    elim c.match-self.branch [ in-Some-2 w ↦ w.self-is ∙ after | in-None-2 w ↦ w.self-is ∙ after ]

pub returns-else-is_some : goal.returns-else-is_some
returns-else-is_some c =
    cleared c.self.inside.top c.self.inside.members.slots c.take.new.self.slots c.args.id c.take.result c.requires.serial c.take.ensures.value c.take.ensures.some c.take.ensures.none
    ∙ ap (λ v. with_group v (Some c.args.id) []) c.self.view_is
