use Rattle.std.proofs.Common.{◌≡◌, ◌≤◌, ◌*◌, take}
use Rattle.ev_model.specs.Glyphs.{text_width}
use Rattle.ev_text.proofs.text.text_size.Given as goal

abbrev pub invariant-loop-character : goal.invariant-loop-character
invariant-loop-character l = record { so_far : l.width ≡ text_width l.font (take l.character-index l.text); small : l.width ≤ 32 * l.character-index }
