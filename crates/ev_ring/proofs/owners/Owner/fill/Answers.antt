use Rattle.std.proofs.Common.{refl, sym, ap, ◌∙◌, ◌+◌, ◌≡◌, ◌<◌, ◌∷◌, [], arith, length, vec_len, append-nil, length-append}
use Rattle.ev_ring.specs.Seen.{owner_view}
use Rattle.ev_ring.proofs.Filling.{none_put, one_put, near_put, last_put, popped}
use Rattle.ev_ring.proofs.owners.Owner.fill.Goals as goal

pub loop-job-init : goal.loop-job-init
loop-job-init g c = record { same = (refl, refl); limit = refl; put = ([], sym (append-nil _), none_put (c.args.self.now.limit + vec_len c.args.jobs.now) _ c.requires.back c.args.self.now.post.none_out) }

pub put-requires-clause-owner : goal.put-requires-clause-owner
put-requires-clause-owner g c = (c.loop-job.self.is_owner, ap (λ v. v.counts.owner.is_quiet) c.loop-job.invariant.put.2 ∙ c.requires.quiet)

pub put-requires-clause-near : goal.put-requires-clause-near
put-requires-clause-near g c =
    let put = c.loop-job.invariant.put in let all = popped _ _ _ put.0 _ put.1 c.in-Some.ensures.items in
    let next : c.loop-job.self.limit + vec_len c.loop-job.jobs ≡ c.loop-job.self.limit + c.len.result + 1 = omega (arith, c.in-Some.ensures.cases) in
    let few : length put.0 < 4096 = omega (arith, ap length all, length-append c.pop.new.self.items (c.in-Some.job ∷ put.0), c.requires.few) in
    near_put _ _ (owner_view c.args.self.now) _ put.0 put.2 next few

pub loop-job-preserved : goal.loop-job-preserved
loop-job-preserved g c =
    let put = c.loop-job.invariant.put in let same = c.loop-job.invariant.same in
    let next : c.loop-job.self.limit + vec_len c.loop-job.jobs ≡ c.loop-job.self.limit + vec_len c.pop.new.self + 1 = omega (arith, c.in-Some.ensures.cases) in
    record {
      same = (c.put.ensures.post.0 ∙ same.0, c.put.ensures.post.1 ∙ same.1);
      limit = c.loop-job.invariant.limit;
      put = (
        c.in-Some.job ∷ put.0,
        popped _ _ _ put.0 _ put.1 c.in-Some.ensures.items,
        one_put _ _ _ (owner_view c.args.self.now) (owner_view c.loop-job.self) _ put.0 _ c.requires.quiet put.2 next c.put.ensures.view (ap (λ n. c.loop-job.self.limit + n) c.len.ensures),
      );
    }

pub returns-clause-view : goal.returns-clause-view
returns-clause-view g c =
    let put = c.loop-job.invariant.put in let none = c.in_default.ensures.cases in let limit = c.loop-job.invariant.limit in let is = c.args.self.now.limit_is in
    last_put _ _ (owner_view c.args.self.now) _ _ c.loop-job.jobs.items put.0 put.2 put.1 (omega (arith, none)) (omega (arith, none))
