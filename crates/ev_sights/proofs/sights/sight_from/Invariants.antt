use Rattle.std.proofs.Common.{length}
use Rattle.ev_sights.specs.Sights.{AreSights, IsClimbed, stage_on}
use Rattle.ev_sights.proofs.sights.sight_from.Given as goal

-- the sight is that from where the ids that are left lead
abbrev pub invariant-loop-id : goal.invariant-loop-id
invariant-loop-id l = record {
  climbed : IsClimbed (stage_on l.ground) l.fn.at l.ids.items l.sight;
  known : AreSights (stage_on l.ground) l.known;
}

abbrev pub decreases-loop-id : goal.decreases-loop-id
decreases-loop-id l = length l.ids.items
