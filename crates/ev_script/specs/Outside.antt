-- What a session changes outside: the log, the frames that the screen shows, and the faults of the screen and the store.
use Rattle.std.specs.Prelude.{ℕ, List, Option, Result, OnOk, OnErr}
use Rattle.ev_port.specs.Told.{GrowsBy, GrowsPart}
use Rattle.ev_port.specs.Frame.{Frame}
use Rattle.ev_port.specs.declared.file.StoredFile.{StoredFile}

-- one moment of the screen and the store, with the frames and the files where they are told
pub record Devices : Type 0 where
  pub frames : Option (List Frame)
  pub faults : ℕ
  pub files : Option (List StoredFile)
  pub store_faults : ℕ

abbrev pub devices : Option (List Frame) → ℕ → Option (List StoredFile) → ℕ → Devices
devices frames faults files store_faults = record { frames = frames; faults = faults; files = files; store_faults = store_faults }

-- the same with the log, where that is told
pub record Outside : Type 0 where
  pub log : Option (List ℕ)
  pub devices : Devices

abbrev pub outside : Option (List ℕ) → Devices → Outside
outside log devices = record { log = log; devices = devices }

-- the log grew by all of these bytes, or, where the sink failed, by a front of them
pub record Writes {T E : Type 0} (old new : Option (List ℕ)) (bytes : List ℕ) (result : Result T E) : Type 0 where
  pub whole : OnOk result (GrowsBy old new bytes)
  pub part : OnErr result (GrowsPart old new bytes)
