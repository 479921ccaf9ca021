use Rattle.std.proofs.Common.{◌≡◌, ◌+◌, ◌*◌, drop, arith}
use Rattle.ev_port.proofs.Rows.{row_front, row_front_length, row_appended}
use Rattle.ev_port.proofs.mem_screen.append_pixels.Goals as goal

pub loop-y-preserved : goal.loop-y-preserved
loop-y-preserved c =
    let grid = c.args.picture.now in
    let y = c.loop-y.y in
    let width = c.width-width.result in
    let rest = drop width c.loop-y.row in
    let row = row_front grid y width c.row.new.into rest c.width-width.ensures.width c.row.ensures in
    let len = row_front_length grid y width c.row.new.into rest c.width-width.ensures.width c.row.ensures in
    let more : (y + 1) * width ≡ y * width + width = omega arith in (
      row_appended grid y _ _ _ _ c.loop-y.invariant.0 row c.append.ensures.items,
      omega (arith, c.append.ensures.len, c.loop-y.invariant.1, len, more),
      omega (arith, c.append.ensures.capacity, c.loop-y.invariant.2),
    )
