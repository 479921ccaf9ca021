use Rattle.std.proofs.Common.{refl}
use Rattle.ev_image.specs.Format.{spelling}
use Rattle.ev_image.proofs.Spellings.{image_again}
use Rattle.ev_image.proofs.laws.read_again.Goals as goal

pub returns : goal.returns
returns c = λ format image valid can. image_again (spelling format image) image (record { valid = valid; format = format; can = can; spelled = refl })
