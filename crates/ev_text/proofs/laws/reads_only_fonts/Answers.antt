use Rattle.ev_text.proofs.Spellings.{are_bytes, font_takes}
use Rattle.ev_text.proofs.laws.reads_only_fonts.Goals as goal

pub returns : goal.returns
returns c = λ bytes font small read. font_takes bytes font (are_bytes bytes small) read
