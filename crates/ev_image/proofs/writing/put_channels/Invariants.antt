use Rattle.std.proofs.Common.{◌≡◌, take, ◌++◌}
use Rattle.std.specs.List.{flat_map}
use Rattle.ev_image.specs.Format.{channels}
use Rattle.ev_image.proofs.writing.put_channels.Given as goal

abbrev pub invariant-loop-p : goal.invariant-loop-p
invariant-loop-p l = l.bytes.items ≡ l.fn.bytes.items ++ flat_map channels (take l.p-index l.pixels)
