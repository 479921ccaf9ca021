-- Faults of the outside: an object answers Failed only where its count of faults rose.
use Rattle.std.specs.Prelude.{ℕ, ◌+◌, ◌-◌, ◌≤◌, ◌^◌, min, Result, OnErr, IsErrOf}
use Rattle.std.proofs.Common.{arith}
use Rattle.ev_port.specs.declared.outside.StoreErr.{StoreErr}
use Rattle.ev_port.specs.declared.outside.StoreErr.TheVariants.{Failed}

-- a count of faults rose, or stands at its type's end
abbrev pub Rose : ℕ → ℕ → Type 0
Rose before now = min (before + 1) (2 ^ 64 - 1) ≤ now

-- it rose by at least k, or stands at its type's end
abbrev pub RoseBy : ℕ → ℕ → ℕ → Type 0
RoseBy k before now = min (before + k) (2 ^ 64 - 1) ≤ now

-- the count never falls, and an error comes only where it rose
pub record HasCause {T E : Type 0} (before now : ℕ) (result : Result T E) : Type 0 where
  pub later : before ≤ now
  pub failed : OnErr result (Rose before now)

-- the count of a store never falls, and of its errors Failed comes only where it rose
pub record HasStoreCause {T : Type 0} (before now : ℕ) (result : Result T StoreErr) : Type 0 where
  pub later : before ≤ now
  pub failed : IsErrOf result Failed → Rose before now

-- a count that doesn't fall rose by 0
pub rose_by_none : (before now : ℕ) → before ≤ now → RoseBy 0 before now
rose_by_none before now h = omega arith

-- one rise after another
pub rose_by_on : (j k before between now : ℕ) → RoseBy j before between → RoseBy k between now → RoseBy (j + k) before now
rose_by_on j k before between now first second = omega arith
