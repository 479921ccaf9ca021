use Rattle.ev_text.proofs.Spellings.{font_of}
use Rattle.ev_text.proofs.reading.font_at.Goals as goal

pub new-requires : goal.new-requires
new-requires c =
    rw c.in_ok-from_slice.ensures.items
    (font_of c.in_ok-height.height c.in_ok-widths.widths.now c.args.bytes.now c.in_ok-rows.rows.items c.in_ok-height.ensures.long.1 c.in_ok-height.ensures.long.2 c.in_ok-widths.ensures.count c.in_ok-widths.ensures.narrow c.in_ok-rows.ensures)
