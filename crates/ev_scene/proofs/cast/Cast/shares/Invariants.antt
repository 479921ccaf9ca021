use Rattle.std.proofs.Common.{◌≡◌, ℕ, ◌<◌, ◌++◌, filter_map, drop, get_or, Some}
use Rattle.ev_model.specs.Stage.{values}
use Rattle.ev_stack.specs.LayerOrder.{IsOrder}
use Rattle.ev_groups.specs.Groups.{group}
use Rattle.ev_scene.specs.Ids.{of_id}
use Rattle.ev_scene.specs.Board.{values_of}
use Rattle.ev_scene.proofs.cast.Cast.shares.Given as goal

-- the objects so far, and those of the other ids, are all; and the members of each id so far are an order
abbrev pub invariant-loop-id : goal.invariant-loop-id
invariant-loop-id l =
    (values l.objects ++ filter_map (of_id (values_of l.self.roll.states)) (drop l.id-index l.id-items) ≡ filter_map (of_id (values_of l.self.roll.states)) l.id-items)
    × ((k : ℕ) → k < l.id-index → IsOrder (group l.self.groups (Some (get_or l.id-items k 0))))
