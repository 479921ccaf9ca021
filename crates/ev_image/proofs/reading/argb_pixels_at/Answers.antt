use Rattle.ev_image.proofs.Four.{checked_again}
use Rattle.ev_image.proofs.reading.argb_pixels_at.Goals as goal

pub returns-in-Some : goal.returns-in-Some
returns-in-Some c = checked_again c.args.at c.args.bytes.now c.in-Some.pixels.items c.in-Some.ensures.good c.in-Some.ensures.value
