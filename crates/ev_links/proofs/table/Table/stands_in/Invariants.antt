use Rattle.std.proofs.Common.{◌≡◌, ◌-◌}
use Rattle.std.specs.HashMap.{hash_map_len}
use Rattle.ev_links.specs.Ties.{parent_at, walk, has}
use Rattle.ev_links.specs.Tables.{tie_in}
use Rattle.ev_links.proofs.table.Table.stands_in.Given as goal

abbrev pub invariant-up : goal.invariant-up
invariant-up l =
    (l.end ≡ hash_map_len l.self.nodes)
    × (has (walk (parent_at (tie_in l.self)) (l.end - l.counter) l.cursor) l.of ≡ has (walk (parent_at (tie_in l.self)) (hash_map_len l.self.nodes) (parent_at (tie_in l.self) l.id)) l.of)
