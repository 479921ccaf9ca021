use Rattle.std.proofs.Common.{◌≡◌, ℕ, ◌++◌, length, map, filter, filter_map, None}
use Rattle.ev_model.specs.Up.{is_clipped_by}
use Rattle.ev_stack.specs.LayerOrder.{ids_of, ids_from}
use Rattle.ev_scene.specs.Ids.{of_id, value_of}
use Rattle.ev_scene.specs.Board.{values_of, MakesAtMost}
use Rattle.ev_scene.specs.Change.{apply}
use Rattle.ev_scene.specs.declared.change.Change.TheVariants as change
use Rattle.ev_scene.proofs.delete.released_beside.Given as goal

-- with those that the siblings from here on give, all are there
abbrev pub invariant-up : goal.invariant-up
invariant-up l = record {
  all : map value_of l.states.items ++ map (apply (change.Clip None)) (filter (is_clipped_by l.id) (filter_map (of_id (values_of l.initial.roll.states)) (ids_from l.siblings l.at)))
      ≡ map (apply (change.Clip None)) (filter (is_clipped_by l.id) (filter_map (of_id (values_of l.initial.roll.states)) (ids_of l.siblings)));
  same : l.roll.states ≡ l.initial.roll.states;
  made : (end : ℕ) → MakesAtMost (length (filter (is_clipped_by l.id) (filter_map (of_id (values_of l.initial.roll.states)) (ids_from l.siblings l.at)))) l.roll.made end
      → MakesAtMost (length (filter (is_clipped_by l.id) (filter_map (of_id (values_of l.initial.roll.states)) (ids_of l.siblings)))) l.initial.roll.made end;
}

abbrev pub decreases-up : goal.decreases-up
decreases-up l = length (ids_from l.siblings l.at)
