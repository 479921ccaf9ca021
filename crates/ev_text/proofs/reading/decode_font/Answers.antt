use Rattle.std.proofs.Common.{subst, arith, Result}
use Rattle.ev_model.specs.Glyphs.{Glyphs}
use Rattle.ev_text.specs.declared.fault.BadFont.{BadFont}
use Rattle.ev_text.specs.FontReading.{Gives}
use Rattle.ev_text.proofs.Spellings.{is_found, font_again}
use Rattle.ev_text.proofs.reading.decode_font.Goals as goal

pub returns-clause-found : goal.returns-clause-found
returns-clause-found c = is_found c.args.bytes.now c.font_at.result (λ i. omega (arith, c.type_inv.bytes i)) c.font_at.ensures

pub returns-clause-only : goal.returns-clause-only
returns-clause-only c = λ font stands. subst (λ (read : Result Glyphs BadFont). Gives (λ font. font) c.font_at.result read) (font_again c.args.bytes.now font stands) c.font_at.ensures
