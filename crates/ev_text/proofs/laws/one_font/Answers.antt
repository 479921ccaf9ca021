use Rattle.ev_text.proofs.Spellings.{same_font}
use Rattle.ev_text.proofs.laws.one_font.Goals as goal

pub returns : goal.returns
returns c = λ bytes a b p q. same_font bytes a b p q
