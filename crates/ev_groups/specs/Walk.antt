-- What a walk in the order of painting has before it.
use Rattle.std.specs.Prelude.{ℕ, ℤ, List, [], ◌∷◌, ◌++◌, Option, Some, flat_map}
use Rattle.ev_model.specs.Order.{in_order}
use Rattle.ev_stack.specs.LayerOrder.{ids_from}
use Rattle.ev_groups.specs.Groups.{group, siblings}
use Rattle.ev_groups.specs.declared.walk.Frame.{Frame}

-- an object followed by its members in their order; so many levels of them are visited
abbrev pub visited : ℕ → (Option ℕ → List ℕ) → ℕ → List ℕ
visited levels siblings id = id ∷ in_order levels siblings (Some id)

-- what a frame stands for: the siblings from its object on, each with its members
abbrev pub part : List (List (ℕ × ℤ)) → Frame → List ℕ
part groups frame = flat_map (visited frame.levels (siblings groups)) (ids_from (group groups frame.parent) (Some frame.id))

-- what frames stand for, the last of them first
abbrev pub ahead : List (List (ℕ × ℤ)) → List Frame → List ℕ
ahead groups [] = []
ahead groups (frame ∷ rest) = ahead groups rest ++ part groups frame
