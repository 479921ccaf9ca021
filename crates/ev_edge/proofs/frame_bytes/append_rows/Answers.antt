use Rattle.std.proofs.Common.{◌≡◌, ◌+◌, ◌*◌, drop, arith}
use Rattle.ev_edge.proofs.Spelling.{bytes_front, bytes_front_length, bytes_appended}
use Rattle.ev_edge.proofs.frame_bytes.append_rows.Goals as goal

pub loop-y-preserved : goal.loop-y-preserved
loop-y-preserved c =
    let grid = c.args.picture.now in
    let y = c.loop-y.y in
    let width = c.width-width.result in
    let bytes = bytes_front grid y width c.row.new.into (drop width c.loop-y.row) c.spell.new.into (drop (4 * width) c.loop-y.spelled) c.width-width.ensures.width c.row.ensures c.spell.ensures in
    let len = bytes_front_length grid y width _ c.width-width.ensures.width bytes in
    let more : (y + 1) * width ≡ y * width + width = omega arith in (
      bytes_appended grid y _ _ _ _ c.loop-y.invariant.0 bytes c.append.ensures.items,
      omega (arith, c.append.ensures.len, c.loop-y.invariant.1, len, more),
      omega (arith, c.append.ensures.capacity, c.loop-y.invariant.2),
    )
