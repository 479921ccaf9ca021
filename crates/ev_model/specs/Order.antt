-- The order in which objects are painted.
use Rattle.std.specs.Prelude.{◌≡◌, ℕ, zero, suc, ◌≤ℤ◌, ◌==◌, filter, map, flat_map, List, [], ◌∷◌, length, Option, Some, None}
use Rattle.std.specs.Option.{option_eq}
use Rattle.std.specs.List.{AllPairs}
use Rattle.ev_model.specs.declared.object.Object.{Object}

-- ids in the order of painting: each sibling from the bottom to the top, followed by its members in their order.
-- siblings lists the members of an object, and None gives those that stand in no object; n bounds how deep they stand
abbrev pub in_order : ℕ → (Option ℕ → List ℕ) → Option ℕ → List ℕ
in_order zero siblings parent = []
in_order (suc n) siblings parent = flat_map (λ id. id ∷ in_order n siblings (Some id)) (siblings parent)

-- the objects with this parent, as they stand
abbrev pub members : List Object → Option ℕ → List Object
members objects parent = filter (λ o. option_eq ◌==◌ o.parent parent) objects

abbrev pub ids : List Object → List ℕ
ids objects = map (λ o. o.id) objects

-- objects that stand in the order of painting: it is that of their own lists of siblings, in which no layer falls
pub record IsInOrder (objects : List Object) : Type 0 where
  pub order : in_order (length objects) (λ parent. ids (members objects parent)) None ≡ ids objects
  pub layers : (parent : Option ℕ) → AllPairs (λ a b. a.layer ≤ℤ b.layer) (members objects parent)
