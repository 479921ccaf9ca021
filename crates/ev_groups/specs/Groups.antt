-- The siblings of each parent. Groups are a list: its head are the objects that stand in no object,
-- and at the place of an id are the members of that object.
use Rattle.std.specs.Prelude.{ℕ, ℤ, List, [], ◌∷◌, map, Option, Some, None, get_or, slice_set}
use Rattle.std.specs.Option.{unwrap_or}
use Rattle.ev_stack.specs.LayerOrder.{ids_of}

-- where the group of a parent stands
abbrev pub place : Option ℕ → ℕ
place None = 0
place (Some id) = id

-- the members that are kept of an object, none where nothing is kept
abbrev pub members_of : Option (List (ℕ × ℤ)) → List (ℕ × ℤ)
members_of kept = unwrap_or kept []

-- the groups of those that stand in no object, and of what is kept of each id
abbrev pub groups_of : List (ℕ × ℤ) → List (Option (List (ℕ × ℤ))) → List (List (ℕ × ℤ))
groups_of top kept = top ∷ map members_of kept

-- the siblings in a parent, none where the parent is unknown
abbrev pub group : List (List (ℕ × ℤ)) → Option ℕ → List (ℕ × ℤ)
group groups parent = get_or groups (place parent) []

-- the groups with other siblings in a parent
abbrev pub with_group : List (List (ℕ × ℤ)) → Option ℕ → List (ℕ × ℤ) → List (List (ℕ × ℤ))
with_group groups parent list = slice_set groups (place parent) list

-- the ids of the siblings in a parent, from bottom to top
abbrev pub siblings : List (List (ℕ × ℤ)) → Option ℕ → List ℕ
siblings groups parent = ids_of (group groups parent)
