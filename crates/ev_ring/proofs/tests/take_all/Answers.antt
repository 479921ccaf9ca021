use Rattle.std.proofs.Common.{◌≡◌, ◌+◌, ◌≤◌, refl, ap, ◌∙◌, arith, length}
use Rattle.ev_seats.specs.Jobs.{job_of, without, numbered}
use Rattle.ev_seats.proofs.Jobs.{first_in, first_out}
use Rattle.ev_ring.specs.Seen.{owner_view}
use Rattle.ev_ring.proofs.tests.take_all.Goals as goal

pub take-requires-clause-there : goal.take-requires-clause-there
take-requires-clause-there c = let left = c.loop-i.invariant.left in let one = first_in (c.args.first + c.loop-i.i) left.0 (omega (arith, left.2, c.loop-i-test.true)) in
    (one.0, ap (job_of (c.args.first + c.loop-i.i)) left.1 ∙ one.1)

pub loop-i-preserved : goal.loop-i-preserved
loop-i-preserved c =
    let left = c.loop-i.invariant.left in let n = c.args.first + c.loop-i.i in let view = c.take.ensures.view in
    let out = first_out n left.0 (omega (arith, left.2, c.loop-i-test.true)) in let next : n + 1 ≡ c.args.first + (c.loop-i.i + 1) = omega arith in
    record {
      quiet = ap (λ v. v.counts.owner.is_quiet) view;
      limit = ap (λ v. v.counts.owner.limit) view ∙ c.loop-i.invariant.limit;
      held = ap (λ v. v.counts.hand.held) view ∙ c.loop-i.invariant.held;
      left = (out.0, ap (λ v. v.jobs) view ∙ (ap (without n) left.1 ∙ (out.1 ∙ ap (λ k. numbered k out.0) next)), omega (arith, out.2, left.2));
      right = omega (arith, c.score-right.ensures, c.loop-i.invariant.right);
    }
