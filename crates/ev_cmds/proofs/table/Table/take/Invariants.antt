use Rattle.std.proofs.Common.{◌/◌}
use Rattle.ev_geom.specs.Tiles.{tiles_along}
use Rattle.ev_cmds.specs.TileJobs.{Moves, waits_from}
use Rattle.ev_cmds.proofs.table.Table.take.Given as goal

abbrev pub invariant-loop-row : goal.invariant-loop-row
invariant-loop-row l =
    Moves l.self.w l.self.h l.one l.seen (waits_from (tiles_along l.self.w) l.seen (l.seen.top / 64)) (waits_from (tiles_along l.self.w) l.seen l.row) l.initial.jobs l.jobs
