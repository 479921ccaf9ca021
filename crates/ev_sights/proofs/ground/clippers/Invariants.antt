use Rattle.std.proofs.Common.{◌≡◌, ℕ, ◌||◌, nat_eq, drop}
use Rattle.std.specs.List.{list_any}
use Rattle.std.specs.HashSet.{contains}
use Rattle.ev_model.specs.Stage.{values}
use Rattle.ev_model.specs.Up.{is_clipped_by}
use Rattle.ev_sights.proofs.ground.clippers.Given as goal

-- who clips another is known, or clips one of the rest
abbrev pub invariant-loop-state : goal.invariant-loop-state
invariant-loop-state l = (id : ℕ) → (contains nat_eq l.clippers id || list_any (is_clipped_by id) (values (drop l.state-index l.objects))) ≡ list_any (is_clipped_by id) (values l.objects)
