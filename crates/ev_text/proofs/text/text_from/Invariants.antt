use Rattle.std.proofs.Common.{◌≡◌, ℕ, ◌+◌, ◌≤◌, drop}
use Rattle.ev_model.specs.Glyphs.{text_bit}
use Rattle.ev_text.proofs.text.text_from.Given as goal

abbrev pub invariant-loop-i : goal.invariant-loop-i
invariant-loop-i l = record { same : (y j : ℕ) → text_bit l.font (drop l.i l.text) (l.left + j) y ≡ text_bit l.font l.text (l.x + j) y; before : l.left ≤ l.x }
