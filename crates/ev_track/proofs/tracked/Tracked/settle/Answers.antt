use Rattle.std.proofs.Common.{◌<◌, None, get_or, sym, ap, subst, ◌∙◌}
use Rattle.ev_track.proofs.Settlings.{all_put}
use Rattle.ev_track.proofs.tracked.Tracked.settle.Goals as goal

pub invariant_of-self-2 : goal.invariant_of-self-2
invariant_of-self-2 g c = record {
  seated = λ place id sits. subst (λ n. place < n) (sym c.clear.ensures.len) (c.self.invariant.seated place id sits);
  same = λ place bare. all_put c.self.inside.slots.slots c.self.inside.slots.seats c.self.inside.was.items c.lengthen.new.was.items c.put_all.new.was.items c.self.inside.marks c.in_ok-changes.changes.items
      c.self.invariant c.in_ok-changes.ensures.all c.in_ok-changes.ensures.now (λ p. c.lengthen.ensures.same p ∙ ap (λ items. get_or items p None) c.reserve.ensures.items) c.put_all.ensures place;
}

pub returns-clause-ok : goal.returns-clause-ok
returns-clause-ok g c = λ place. sym (all_put c.self.inside.slots.slots c.self.inside.slots.seats c.self.inside.was.items c.lengthen.new.was.items c.put_all.new.was.items c.self.inside.marks c.in_ok-changes.changes.items
    c.self.invariant c.in_ok-changes.ensures.all c.in_ok-changes.ensures.now (λ p. c.lengthen.ensures.same p ∙ ap (λ items. get_or items p None) c.reserve.ensures.items) c.put_all.ensures place)
