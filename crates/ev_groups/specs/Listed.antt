-- An order of painting that is kept.
use Rattle.std.specs.Prelude.{◌≡◌, ℕ, ℤ, List, Option, Some, None}
use Rattle.ev_model.specs.Order.{in_order}
use Rattle.ev_groups.specs.Groups.{siblings}
use Rattle.ev_groups.specs.declared.listed.Listed.{Listed}

-- what is kept, if anything, is the order in which all objects of these groups are painted
abbrev pub IsListed : List (List (ℕ × ℤ)) → Option Listed → Type 0
IsListed groups None = Unit {0}
IsListed groups (Some listed) = listed.ids.items ≡ in_order listed.levels (siblings groups) None
