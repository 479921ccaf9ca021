use Rattle.std.proofs.Common.{◌≡◌, length}
use Rattle.ev_sights.specs.Sights.{way, Ends, tinted, stage_on}
use Rattle.ev_sights.proofs.sights.tinted.Given as goal

-- what the rest of the way makes of the colour so far is what the whole way makes of the first colour
abbrev pub invariant-loop-at : goal.invariant-loop-at
invariant-loop-at l = record {
  rest : tinted l.color (way (stage_on l.ground).objects l.at) ≡ tinted l.fn.color (way (stage_on l.ground).objects l.fn.first);
  ends : Ends (stage_on l.ground).objects l.at;
}

abbrev pub decreases-loop-at : goal.decreases-loop-at
decreases-loop-at l = length (way (stage_on l.ground).objects l.at)
