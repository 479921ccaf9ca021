use Rattle.std.proofs.Common.{ℕ, ◌+◌, ◌<◌, ap, arith}
use Rattle.ev_draw.specs.Making.{row_count}
use Rattle.ev_draw.proofs.Baring.{rows_fit, row_cleared}
use Rattle.ev_draw.proofs.bare.clear_places.Goals as goal

pub clear_columns-requires-clause-count : goal.clear_columns-requires-clause-count
clear_columns-requires-clause-count c =
    let rows = rows_fit c.args.bare.now c.loop-y.y (omega arith) in
    let count = c.loop-y.invariant.count in
    let room = c.requires.count in
    let row = ap (λ (word : ℕ). row_count word 64) c.row.ensures in
    let fits : c.loop-y.plane.painted + row_count c.row.result 64 < 18446744073709551616 = omega (arith, rows, count, room, row) in
    fits

pub loop-y-preserved : goal.loop-y-preserved
loop-y-preserved c =
    row_cleared c.args.bare.now c.loop-y.y c.row.result c.from.result c.args.plane.now c.loop-y.plane c.clear_columns.new.plane c.row.ensures c.from.ensures c.loop-y.invariant c.clear_columns.ensures
