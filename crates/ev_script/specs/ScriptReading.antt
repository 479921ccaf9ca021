-- A script that is read.
use Rattle.std.specs.Prelude.{Bool, true, false, Result, Ok, Err}
use Rattle.ev_script.specs.declared.source.ReadError.{ReadError}
use Rattle.ev_script.specs.declared.source.ReadError.TheVariants.{Failed, TooLong, NoMemory}

-- whether it had more bytes than it may have
abbrev pub is_long : {T : Type 0} → Result T ReadError → Bool
is_long (Ok script) = false
is_long (Err Failed) = false
is_long (Err TooLong) = true
is_long (Err NoMemory) = false
