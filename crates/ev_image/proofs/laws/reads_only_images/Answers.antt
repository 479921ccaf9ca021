use Rattle.ev_image.proofs.Spellings.{are_bytes, image_takes}
use Rattle.ev_image.proofs.laws.reads_only_images.Goals as goal

pub returns : goal.returns
returns c = λ bytes image small read. image_takes bytes image (are_bytes bytes small) read
