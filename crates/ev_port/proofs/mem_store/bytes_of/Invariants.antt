use Rattle.std.proofs.Common.{◌≡◌, drop}
use Rattle.ev_port.specs.Files.{bytes_of}
use Rattle.ev_port.proofs.mem_store.bytes_of.Given as goal

-- the first file of the key is among those that are left
abbrev pub invariant-loop-file : goal.invariant-loop-file
invariant-loop-file l = bytes_of (drop l.file-index l.files) l.key ≡ bytes_of l.files l.key
