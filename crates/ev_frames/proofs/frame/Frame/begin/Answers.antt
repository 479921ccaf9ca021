use Rattle.std.proofs.Common.{◌≡◌, ◌+◌, ◌-◌, ◌∷◌, [], length, All, arith, sym, ap, ◌∙◌, subst, length-append}
use Rattle.std.specs.Arc.{arc_value}
use Rattle.std.proofs.lemmas.Grind.{common_steps}
use Rattle.ev_frames.specs.Running.{Keeps}
use Rattle.ev_frames.proofs.Beginning.{IsTaking, before, begins, job_is, keeps_all, plane_home, takes}
use Rattle.ev_frames.proofs.Jobs.{as_many, last_of, front_of}
use Rattle.ev_frames.proofs.frame.Frame.begin.Goals as goal

pub unreachable-requires-in_default-take : goal.unreachable-requires-in_default-take
unreachable-requires-in_default-take c =
    let is = before _ _ _ _ _ _ c.loop-k.invariant.takes c.loop-k-test.true in
    plane_home _ _ _ _ _ _ is (sym c.take.ensures.plane ∙ c.in_default-take.is)

pub new-requires : goal.new-requires
new-requires c =
    let share = last_of (λ s. arc_value s ≡ arc_value c.args.room.commands) c.pop.new.self.items c.in-Some.share (subst (All (λ s. arc_value s ≡ arc_value c.args.room.commands)) c.in-Some.ensures.items c.loop-k.invariant.shares) in
    let is = before _ _ _ _ _ _ c.loop-k.invariant.takes c.loop-k-test.true in
    job_is _ _ _ _ _ c.take.new.self _ _ c.in-Some-take.plane is share c.in-Some-take.ensures.size c.in-Some-take.ensures.painted

pub loop-k-preserved : goal.loop-k-preserved
loop-k-preserved c =
    let all = subst (All (λ s. arc_value s ≡ arc_value c.args.room.commands)) c.in-Some.ensures.items c.loop-k.invariant.shares in
    let share = last_of (λ s. arc_value s ≡ arc_value c.args.room.commands) c.pop.new.self.items c.in-Some.share all in
    let is = before _ _ _ _ _ _ c.loop-k.invariant.takes c.loop-k-test.true in
    record {
      takes = takes (arc_value c.args.room.commands) c.args.lent (c.loop-k.k - 1) c.loop-k.loan c.take.new.self c.loop-k.jobs.items c.push_reserved.new.self.items c.loop-k.painted _ c.in-Some-take.plane c.new.result is
          c.in-Some-take.ensures.size c.in-Some-take.ensures.left c.in-Some-take.ensures.painted c.in-Some-take.ensures.kept
          (ap (λ m. c.loop-k.painted + m) c.painted-painted.ensures)
          (c.new.ensures ∙ ap (λ q. record { cut = q; k = c.loop-k.k - 1; plane = c.in-Some-take.plane }) share) c.push_reserved.ensures.items;
      count = omega (arith, c.loop-k.invariant.count, ap length c.in-Some.ensures.items, length-append c.pop.new.self.items (c.in-Some.share ∷ []), c.loop-k-test.true);
      shares = front_of (λ s. arc_value s ≡ arc_value c.args.room.commands) c.pop.new.self.items c.in-Some.share all;
      room = omega (arith, c.loop-k.invariant.room, ap (λ l. length l.tiles) c.in-Some-take.ensures.left, c.push_reserved.ensures.capacity);
    }

pub loop-k-init : goal.loop-k-init
loop-k-init c =
    let count : c.tiles-k.result ≡ length (arc_value c.args.room.commands).jobs = grind (arith, common_steps, c.tiles-k.ensures) in
    record {
      takes = subst (λ jobs. IsTaking (arc_value c.args.room.commands) c.args.lent c.tiles-k.result c.args.lent jobs 0) (sym c.requires.room.none_left)
          (begins _ c.args.lent c.tiles-k.result c.requires.work.0 c.requires.width c.requires.height c.requires.fits c.requires.work.1 c.requires.tiles c.requires.painted count);
      count = c.requires.room.count ∙ sym count;
      shares = c.requires.room.shares;
      room = omega (arith, c.requires.room.jobs, as_many (arc_value c.args.room.commands) c.args.lent.tiles c.requires.tiles);
    }

pub returns-clause-kept : goal.returns-clause-kept
returns-clause-kept c = λ paint hidden lends.
    subst (λ planes. Keeps paint hidden (record { cut = arc_value c.args.room.commands; loan = c.loop-k.loan; jobs = c.loop-k.jobs.items; done = planes; lent = c.loop-k.painted })) (sym c.requires.room.none_drawn)
    (keeps_all _ c.args.lent c.loop-k.loan c.loop-k.k c.loop-k.jobs.items c.loop-k.painted paint hidden c.loop-k.invariant.takes lends)
