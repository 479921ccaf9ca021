-- The calls of an object in memory, of which some are to fail.
use Rattle.std.specs.Prelude.{ℕ, Bool, List, nat_eq}
use Rattle.std.specs.List.{list_any}
use Rattle.ev_port.specs.Told.{counted}

-- the numbers of the calls that are to fail, counted from 1, how many calls were made, and how many failed
pub record CallCounts : Type 0 where
  pub failing : List ℕ
  pub made : ℕ
  pub faults : ℕ

-- calls before the first
abbrev pub no_calls : List ℕ → CallCounts
no_calls failing = record { failing = failing; made = 0; faults = 0 }

-- whether the next call is one that is to fail
abbrev pub is_listed : CallCounts → Bool
is_listed calls = list_any (λ number. nat_eq number (counted calls.made 1)) calls.failing

-- one call more, which went well
abbrev pub passed : CallCounts → CallCounts
passed calls = record calls { made = counted calls.made 1 }

-- one call more, which failed
abbrev pub failed : CallCounts → CallCounts
failed calls = record calls { made = counted calls.made 1; faults = counted calls.faults 1 }
