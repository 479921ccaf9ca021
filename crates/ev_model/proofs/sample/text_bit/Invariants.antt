use Rattle.std.proofs.Common.{◌≡◌, drop}
use Rattle.ev_model.specs.Glyphs.{text_bit}
use Rattle.ev_model.proofs.sample.text_bit.Given as goal

-- the place in the rest of the text is the one in the whole text
abbrev pub invariant-loop-c : goal.invariant-loop-c
invariant-loop-c l = text_bit l.font (drop l.c-index l.text) l.x l.y ≡ text_bit l.font l.text l.fn.x l.y
