use Rattle.std.proofs.Common.{◌∷◌, [], length, arith, sym, ap, subst, length-append}
use Rattle.std.specs.Arc.{arc_value}
use Rattle.ev_frames.specs.Running.{IsRunning, Keeps}
use Rattle.ev_frames.proofs.Contents.{step_keeps, step_runs, Drawn}
use Rattle.ev_frames.proofs.frame.Frame.step.Goals as goal

pub invariant_of-self : goal.invariant_of-self
invariant_of-self c =
    let drawn : Drawn c.in-Some.job c.draw.result = record { placed = c.draw.ensures.placed; most = c.draw.ensures.most; drawn = c.draw.ensures.drawn } in
    let now = step_runs _ c.pop.new.self.items c.in-Some.job c.draw.result c.in-Some.ensures.items c.self.invariant.0 drawn in
    let more = length-append c.self.inside.done.items (c.draw.result ∷ []) in
    let one = length-append c.pop.new.self.items (c.in-Some.job ∷ []) in (
      subst (λ planes. IsRunning (record { cut = arc_value c.self.inside.commands; loan = c.self.inside.loan; jobs = c.pop.new.self.items; done = planes; lent = c.self.inside.lent })) (sym c.push_reserved.ensures.items) now,
      omega (arith, ap length c.push_reserved.ensures.items, more, ap length c.in-Some.ensures.items, one, c.self.invariant.1, c.push_reserved.ensures.capacity),
    )

pub returns-in-Some-clause-kept : goal.returns-in-Some-clause-kept
returns-in-Some-clause-kept c = λ paint hidden keeps.
    let drawn : Drawn c.in-Some.job c.draw.result = record { placed = c.draw.ensures.placed; most = c.draw.ensures.most; drawn = c.draw.ensures.drawn } in
    let now = step_keeps paint hidden _ c.pop.new.self.items c.in-Some.job c.draw.result c.in-Some.ensures.items c.self.invariant.0 drawn (subst (Keeps paint hidden) (sym c.self.view_is) keeps) in
    subst (λ planes. Keeps paint hidden (record { cut = arc_value c.self.inside.commands; loan = c.self.inside.loan; jobs = c.pop.new.self.items; done = planes; lent = c.self.inside.lent })) (sym c.push_reserved.ensures.items) now
