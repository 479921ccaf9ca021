use Rattle.std.proofs.Common.{◌≡◌, ◌≤◌, ◌+◌, ◌*◌, ◌++◌, vec_len, vec_capacity}
use Rattle.std.specs.List.{flat_map, range_with_len}
use Rattle.ev_argb.specs.Grid.{row_of}
use Rattle.ev_image.specs.Format.{channels}
use Rattle.ev_edge.proofs.frame_bytes.append_rows.Given as goal

-- the bytes of the first y rows are there
abbrev pub invariant-loop-y : goal.invariant-loop-y
invariant-loop-y l = (l.bytes.items ≡ l.initial.bytes.items ++ flat_map channels (flat_map (row_of l.picture) (range_with_len 0 l.y)))
    × (vec_len l.bytes ≡ vec_len l.initial.bytes + 4 * (l.y * l.width))
    × (vec_capacity l.initial.bytes ≤ vec_capacity l.bytes)
