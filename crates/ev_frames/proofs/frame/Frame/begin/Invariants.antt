use Rattle.std.proofs.Common.{◌≡◌, ◌≤◌, length, vec_capacity, All}
use Rattle.std.specs.Arc.{arc_value}
use Rattle.ev_frames.proofs.Beginning.{IsTaking}
use Rattle.ev_frames.proofs.frame.Frame.begin.Given as goal

abbrev pub invariant-loop-k : goal.invariant-loop-k
invariant-loop-k l = record {
  takes : IsTaking (arc_value l.commands) l.fn.lent l.k l.loan l.jobs.items l.painted;
  count : length l.shares.items ≡ l.k;
  shares : All (λ share. arc_value share ≡ arc_value l.commands) l.shares.items;
  room : length l.loan.tiles ≤ vec_capacity l.jobs;
}

abbrev pub decreases-loop-k : goal.decreases-loop-k
decreases-loop-k l = l.k
