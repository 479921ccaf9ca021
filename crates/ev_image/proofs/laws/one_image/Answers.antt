use Rattle.ev_image.proofs.Spellings.{same_image}
use Rattle.ev_image.proofs.laws.one_image.Goals as goal

pub returns : goal.returns
returns c = λ bytes a b p q. same_image bytes a b p q
