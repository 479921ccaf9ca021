use Rattle.std.proofs.Common.{◌≡◌, ◌*◌, ◌++◌, take, drop}
use Rattle.std.specs.List.{flat_map}
use Rattle.ev_image.specs.Format.{channels}
use Rattle.ev_edge.proofs.frame_bytes.spell.Given as goal

-- the bytes of the first i pixels are there
abbrev pub invariant-loop-i : goal.invariant-loop-i
invariant-loop-i l = l.into ≡ flat_map channels (take l.i l.pixels) ++ drop (4 * l.i) l.fn.into
