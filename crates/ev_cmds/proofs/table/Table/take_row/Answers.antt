use Rattle.std.proofs.Common.{ℕ, ◌+◌, ◌*◌, arith, subst}
use Rattle.ev_geom.specs.Tiles.{tiles_along}
use Rattle.ev_cmds.specs.TileJobs.{MovesTile}
use Rattle.ev_cmds.proofs.Moving.{tile_more, row_ends}
use Rattle.ev_cmds.proofs.table.Table.take_row.Goals as goal

pub loop-column-preserved : goal.loop-column-preserved
loop-column-preserved c =
    let table = c.args.self.now in
    tile_more table.w table.h (tiles_along table.w) c.args.one.now c.args.seen.now c.args.row c.loop-column.column c.args.jobs.now c.loop-column.jobs c.take_tile.new.jobs
    (omega (arith, c.tiles_along-column-end.ensures)) (omega (arith, c.tiles_along-column-end.ensures, c.requires.right)) c.loop-column.invariant
    (subst (λ (n : ℕ). MovesTile table.w table.h c.args.one.now c.args.seen.now (c.args.row * n + c.loop-column.column) c.loop-column.jobs c.take_tile.new.jobs) c.requires.table.columns c.in_ok-take_tile.ensures)

pub returns : goal.returns
returns c =
    let table = c.args.self.now in
    row_ends table.w table.h (tiles_along table.w) c.args.one.now c.args.seen.now c.args.row c.loop-column.column c.args.jobs.now c.loop-column.jobs
    (omega (arith, c.tiles_along-column-end.ensures)) c.loop-column.invariant
