use Rattle.std.proofs.Common.{refl}
use Rattle.ev_text.specs.FontFormat.{spelling}
use Rattle.ev_text.proofs.Spellings.{font_again}
use Rattle.ev_text.proofs.laws.read_again.Goals as goal

pub returns : goal.returns
returns c = λ font valid. font_again (spelling font) font (record { valid = valid; spelled = refl })
