-- How a run ends, and why.
use Rattle.std.specs.Prelude.{◌≡◌, ◌⊎◌, ℕ, Bool, true, false, nat_lt, List, map}
use denote.Bor.{Bor}
use Rattle.ev_port.specs.Told.{counted}
use Rattle.ev_script.specs.declared.alone.Status.{Status}
use Rattle.ev_script.specs.declared.alone.Status.TheVariants.{Ok, Usage, WriteFault, NoMemory, TooLong}

-- the texts behind references
abbrev pub texts : List (Bor (List ℕ)) → List (List ℕ)
texts words = map (λ word. word.now) words

-- whether a run ended before the first line
abbrev pub is_before_lines : Status → Bool
is_before_lines Ok = false
is_before_lines WriteFault = false
is_before_lines other = true

abbrev pub is_too_long : Status → Bool
is_too_long TooLong = true
is_too_long other = false

abbrev pub is_usage : Status → Bool
is_usage Usage = true
is_usage other = false

-- so many bytes were taken, as far as the count tells, and the script was too long exactly where they are more than it may have
pub record Takes (before now : ℕ) (too_long : Bool) : Type 0 where
  pub bytes : ℕ
  pub count : counted now 0 ≡ counted before bytes
  pub long : too_long ≡ nat_lt 16777216 bytes

-- the script was carried out, or memory was wanting
abbrev pub IsFine : Status → Type 0
IsFine status = (status ≡ Ok) ⊎ (status ≡ NoMemory)
