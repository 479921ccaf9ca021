use Rattle.std.proofs.Common.{◌≡◌, filter_map, drop}
use Rattle.std.specs.List.{list_all}
use Rattle.ev_scene.specs.Ids.{of_id}
use Rattle.ev_scene.specs.Board.{values_of}
use Rattle.ev_scene.specs.Edits.{may_shift}
use Rattle.ev_scene.proofs.shift.may_shift_all.Given as goal

-- all may move where the other ids' objects do
abbrev pub invariant-loop-id : goal.invariant-loop-id
invariant-loop-id l =
    list_all (may_shift l.dx l.dy) (filter_map (of_id (values_of l.roll.states)) (drop l.id-index l.ids)) ≡ list_all (may_shift l.dx l.dy) (filter_map (of_id (values_of l.roll.states)) l.ids)
