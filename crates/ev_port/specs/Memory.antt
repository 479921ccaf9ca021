-- Objects in memory: what they hold, and what a call answers and leaves.
use Rattle.std.specs.Prelude.{ℕ, ◌-◌, ◌*◌, min, Bool, ◌||◌, nat_lt, List, [], ◌∷◌, ◌++◌, length, drop, if◌then◌else◌}
use Rattle.ev_port.specs.Calls.{CallCounts, is_listed, passed, failed}
use Rattle.ev_port.specs.Frame.{Frame}
use Rattle.ev_port.specs.Told.{counted}
use Rattle.ev_port.specs.declared.file.StoredFile.{StoredFile}
use Rattle.ev_port.specs.declared.mem_screen.ScreenRoom.{ScreenRoom}

-- a source: the bytes that are left, and how many it gave
pub record MemorySource : Type 0 where
  pub left : List ℕ
  pub taken : ℕ
  pub calls : CallCounts

-- how many bytes a read into this much room moves
abbrev pub moved : MemorySource → ℕ → ℕ
moved source room = min room (length source.left)

-- a source after a read into this much room
abbrev pub after_read : MemorySource → ℕ → MemorySource
after_read source room = if is_listed source.calls
    then record source { calls = failed source.calls }
    else record { left = drop (moved source room) source.left; taken = counted source.taken (moved source room); calls = passed source.calls }

-- a sink: the bytes that were written, and the room that is left, in bytes
pub record MemorySink : Type 0 where
  pub written : List ℕ
  pub room : ℕ
  pub calls : CallCounts

-- whether a write of this piece fails
abbrev pub write_fails : MemorySink → List ℕ → Bool
write_fails sink piece = is_listed sink.calls || nat_lt sink.room (length piece)

-- a sink after a write of this piece
abbrev pub after_write : MemorySink → List ℕ → MemorySink
after_write sink piece = if write_fails sink piece
    then record sink { calls = failed sink.calls }
    else record { written = sink.written ++ piece; room = sink.room - length piece; calls = passed sink.calls }

-- a store: its files
pub record MemoryStore : Type 0 where
  pub files : List StoredFile
  pub calls : CallCounts

-- a store after a fetch
abbrev pub after_fetch : MemoryStore → MemoryStore
after_fetch store = record store { calls = if is_listed store.calls then failed store.calls else passed store.calls }

-- a screen: the frames that were shown, and the room that is left
pub record MemoryScreen : Type 0 where
  pub frames : List Frame
  pub room : ScreenRoom
  pub calls : CallCounts

-- whether this room is too small for one more frame with so many updates and pixels
abbrev pub is_too_small : ScreenRoom → ℕ → ℕ → Bool
is_too_small room updates pixels = nat_lt room.frames 1 || nat_lt room.updates updates || nat_lt room.pixels pixels

-- whether a frame isn't shown
abbrev pub present_fails : MemoryScreen → Frame → Bool
present_fails screen frame = is_listed screen.calls || is_too_small screen.room (length frame.updates) (frame.w * frame.h)

-- the room that is left after a frame
abbrev pub room_after : ScreenRoom → Frame → ScreenRoom
room_after room frame = record { frames = room.frames - 1; updates = room.updates - length frame.updates; pixels = room.pixels - frame.w * frame.h }

-- a screen after this frame was presented
abbrev pub after_present : MemoryScreen → Frame → MemoryScreen
after_present screen frame = if present_fails screen frame
    then record screen { calls = failed screen.calls }
    else record { frames = screen.frames ++ frame ∷ []; room = room_after screen.room frame; calls = passed screen.calls }
