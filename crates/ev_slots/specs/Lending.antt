-- A thing that is lent to be written to.
use Rattle.std.specs.Prelude.{ℕ, Option, Some}
use Rattle.std.specs.Borrow.{LendsIf, MutBor, Fml, RattleType}
use Rattle.ev_slots.specs.Slots.{Slots, put}
use Rattle.ev_slots.specs.contracts.slots.Slots.{the_row}

-- the things with another one for an id
abbrev pub with_thing : {T : Type 0} → Slots T → ℕ → T → Slots T
with_thing s id thing = record s { slots = put s.slots id (Some thing) }

-- the things end with the last one written through the answer for this id; where there is none they are as before
abbrev pub LendsThing : (T : RattleType) → MutBor (Slots T.Denot) → ℕ → Option (MutBor T.Denot) → Fml
LendsThing T s id result = LendsIf (the_row T) T s result (with_thing s.now id) s.now
