use Rattle.std.proofs.Common.{◌≡◌, ◌++◌, true, map, filter_map, drop}
use Rattle.std.specs.List.{list_all}
use Rattle.ev_scene.specs.Ids.{of_id, value_of}
use Rattle.ev_scene.specs.Board.{values_of, MakesAtMost}
use Rattle.ev_scene.specs.Edits.{may_shift, shifted_by}
use Rattle.ev_scene.proofs.shift.shifted.Given as goal

-- the objects moved so far, and those of the other ids, which may move too, are all
abbrev pub invariant-loop-id : goal.invariant-loop-id
invariant-loop-id l = record {
  made_so_far : map value_of l.states.items ++ map (shifted_by l.fn.dx l.fn.dy) (filter_map (of_id (values_of l.fn.roll.states)) (drop l.id-index l.ids)) ≡ map (shifted_by l.fn.dx l.fn.dy) (filter_map (of_id (values_of l.fn.roll.states)) l.ids);
  places : list_all (may_shift l.fn.dx l.fn.dy) (filter_map (of_id (values_of l.fn.roll.states)) (drop l.id-index l.ids)) ≡ true;
  same : l.roll.states ≡ l.fn.roll.states;
  made : MakesAtMost l.id-index l.fn.roll.made l.roll.made;
}
