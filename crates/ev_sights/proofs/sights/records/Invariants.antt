use Rattle.std.proofs.Common.{◌≡◌, ◌++◌, map, filter_map, drop}
use Rattle.ev_model.specs.Look.{look_of, look}
use Rattle.ev_model.specs.Stage.{values}
use Rattle.ev_sights.specs.Sights.{AreSights, stage_on}
use Rattle.ev_sights.proofs.sights.records.Given as goal

-- the records so far, and what is seen of the other objects, are all that is seen
abbrev pub invariant-loop-state : goal.invariant-loop-state
invariant-loop-state l = record {
  so_far : map look_of l.records.items ++ filter_map (look (stage_on l.ground)) (values (drop l.state-index l.state-items)) ≡ filter_map (look (stage_on l.ground)) (values l.state-items);
  known : AreSights (stage_on l.ground) l.known;
}
