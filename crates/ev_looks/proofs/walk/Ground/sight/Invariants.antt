use Rattle.std.proofs.Common.{length}
use Rattle.ev_looks.specs.Grounds.{stage_on}
use Rattle.ev_looks.specs.WaysUp.{way, Ends, IsOnWay}
use Rattle.ev_looks.proofs.walk.Ground.sight.Given as goal

-- with what the rest of the way leaves of it, the sight so far is that of the whole way
abbrev pub invariant-loop-at : goal.invariant-loop-at
invariant-loop-at l = record {
  on : IsOnWay (stage_on l.self) l.fn.object l.at l.sight;
  ends : Ends (stage_on l.self).objects l.at;
}

abbrev pub decreases-loop-at : goal.decreases-loop-at
decreases-loop-at l = length (way (stage_on l.self).objects l.at)
