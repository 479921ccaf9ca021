-- Groups that are lent to be written to.
use Rattle.std.specs.Prelude.{ℕ, ℤ, List, Option, Result}
use Rattle.std.specs.Borrow.{LendsIfOk, MutBor, Fml}
use Rattle.ev_stack.specs.contracts.siblings.Siblings as siblings
use Rattle.ev_groups.specs.Groups.{with_group}
use Rattle.ev_groups.specs.contracts.groups.Groups as groups

-- groups end with the last siblings written through the answer in this parent; after a refusal they are as before
abbrev pub LendsGroup : MutBor (List (List (ℕ × ℤ))) → Option ℕ → {E : Type 0} → Result (MutBor (List (ℕ × ℤ))) E → Fml
LendsGroup s parent result = LendsIfOk groups.the_row siblings.the_row s result (with_group s.now parent) s.now
