-- The files that a store tells, and what a fetch gives of them.
use Rattle.std.specs.Prelude.{◌≡◌, ℕ, List, [], ◌∷◌, length, nat_le, Option, Some, None, Result, Ok, Err, if◌then◌else◌}
use Rattle.std.specs.Str.{bytes_eq}
use Rattle.ev_port.specs.declared.file.TheConstants.{LARGEST_FILE}
use Rattle.ev_port.specs.declared.file.StoredFile.{StoredFile}
use Rattle.ev_port.specs.declared.outside.StoreErr.{StoreErr}
use Rattle.ev_port.specs.declared.outside.StoreErr.TheVariants.{Missing, TooLarge, Failed, NoMemory}

-- the bytes that a key names: those of the first file that has it
abbrev pub bytes_of : List StoredFile → List ℕ → Option (List ℕ)
bytes_of [] key = None
bytes_of (file ∷ files) key = if bytes_eq file.key key then Some file.bytes else bytes_of files key

-- what is due where a key names these bytes: the bytes, or why they aren't given
abbrev pub due : Option (List ℕ) → Result (List ℕ) StoreErr
due None = Err Missing
due (Some bytes) = if nat_le (length bytes) LARGEST_FILE then Ok bytes else Err TooLarge

-- this answer with these bytes is what was due, unless a fault or want of memory came first
abbrev pub Answers : Result (List ℕ) StoreErr → Result (Unit {0}) StoreErr → List ℕ → Type 0
Answers expected (Ok done) into = expected ≡ Ok into
Answers expected (Err Missing) into = expected ≡ Err Missing
Answers expected (Err TooLarge) into = expected ≡ Err TooLarge
Answers expected (Err Failed) into = Unit {0}
Answers expected (Err NoMemory) into = Unit {0}

-- a fetch of a key answers what is due, where the files are told
abbrev pub Fetches : Option (List StoredFile) → List ℕ → Result (Unit {0}) StoreErr → List ℕ → Type 0
Fetches None key result into = Unit {0}
Fetches (Some files) key result into = Answers (due (bytes_of files key)) result into
