use Rattle.ev_groups.proofs.Keeping.{written, lent_group, lent}
use Rattle.ev_groups.proofs.groups.Groups.group_mut.Goals as goal

pub returns-in-Some : goal.returns-in-Some
returns-in-Some c =
    rw (← c.self.view_is) (
      lent _ (λ i w. written c.self.inside.top c.self.inside.members.slots c.make.new.members.slots c.args.parent c.place-place.result c.make.ensures.same c.place-place.ensures c.if-place-eq0.false w i),
      record {
        writes_back = tt;
        value = lent_group c.self.inside.top c.self.inside.members.slots c.make.new.members.slots c.args.parent c.place-place.result c.make.ensures.same c.place-place.ensures c.if-place-eq0.false
            c.in-Some.members.now c.in-Some.ensures.value;
        empty = tt;
      },
    )
