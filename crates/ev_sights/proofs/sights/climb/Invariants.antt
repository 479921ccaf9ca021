use Rattle.std.proofs.Common.{length}
use Rattle.ev_sights.specs.Sights.{way, Ends, Leads, stage_on}
use Rattle.ev_sights.proofs.sights.climb.Given as goal

-- the way leads through the ids so far, and goes on to its end
abbrev pub invariant-loop-at : goal.invariant-loop-at
invariant-loop-at l = record {
  leads : Leads (stage_on l.ground).objects l.fn.first l.ids.items l.at;
  ends : Ends (stage_on l.ground).objects l.at;
}

abbrev pub decreases-loop-at : goal.decreases-loop-at
decreases-loop-at l = length (way (stage_on l.ground).objects l.at)
