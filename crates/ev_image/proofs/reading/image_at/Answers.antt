use Rattle.ev_image.proofs.Spellings.{image_of}
use Rattle.ev_image.proofs.reading.image_at.Goals as goal

pub new-requires : goal.new-requires
new-requires c = image_of c.in_ok-format.format c.in_ok-w.w c.in_ok-w.h c.args.bytes.now c.in_ok-pixels.pixels.items c.in_ok-w.ensures.within c.in_ok-pixels.ensures
