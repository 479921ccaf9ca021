use Rattle.std.proofs.Common.{◌/◌, arith}
use Rattle.ev_geom.specs.Tiles.{tiles_along}
use Rattle.ev_cmds.proofs.Moving.{row_more, all_taken}
use Rattle.ev_cmds.proofs.table.Table.take.Goals as goal

pub loop-row-preserved : goal.loop-row-preserved
loop-row-preserved c =
    let table = c.args.self.now in
    row_more table.w table.h (tiles_along table.w) c.args.one.now c.meet-seen.result (c.meet-seen.result.top / 64) c.loop-row.row c.args.jobs.now c.loop-row.jobs c.take_row.new.jobs
    c.loop-row.invariant c.in_ok-take_row.ensures

pub returns : goal.returns
returns c =
    let table = c.args.self.now in
    all_taken table c.args.one.now c.of.result c.meet-seen.result c.loop-row.row c.args.jobs.now c.loop-row.jobs
    c.requires.look c.is_paintable.ensures c.of.ensures c.meet-seen.ensures (omega (arith, c.tiles_along-row-end.ensures)) c.loop-row.invariant
