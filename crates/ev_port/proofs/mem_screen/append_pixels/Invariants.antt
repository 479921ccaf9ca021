use Rattle.std.proofs.Common.{◌≡◌, ◌≤◌, ◌+◌, ◌*◌, ◌++◌, vec_len, vec_capacity}
use Rattle.std.specs.List.{flat_map, range_with_len}
use Rattle.ev_argb.specs.Grid.{row_of}
use Rattle.ev_port.proofs.mem_screen.append_pixels.Given as goal

-- the first y rows are there
abbrev pub invariant-loop-y : goal.invariant-loop-y
invariant-loop-y l = (l.pixels.items ≡ l.initial.pixels.items ++ flat_map (row_of l.picture) (range_with_len 0 l.y))
    × (vec_len l.pixels ≡ vec_len l.initial.pixels + l.y * l.width)
    × (vec_capacity l.initial.pixels ≤ vec_capacity l.pixels)
