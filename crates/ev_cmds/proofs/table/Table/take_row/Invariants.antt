use Rattle.ev_geom.specs.Tiles.{tiles_along}
use Rattle.ev_cmds.specs.TileJobs.{Moves, waits_from, waits_in}
use Rattle.ev_cmds.proofs.table.Table.take_row.Given as goal

abbrev pub invariant-loop-column : goal.invariant-loop-column
invariant-loop-column l =
    Moves l.self.w l.self.h l.one l.seen (waits_from (tiles_along l.self.w) l.seen l.row) (waits_in (tiles_along l.self.w) l.seen l.row l.column) l.initial.jobs l.jobs
