use Rattle.std.proofs.Common.{◌≡◌, ℕ, ◌+◌, ◌-◌, ◌≤◌, take, map, length}
use Rattle.std.specs.List.{range_with_len}
use Rattle.ev_model.specs.Glyphs.{text_bit, IsText}
use Rattle.ev_model.specs.Sample.{text_sample}
use Rattle.ev_text.proofs.text.fill_row.Given as goal

abbrev pub invariant-loop-done : goal.invariant-loop-done
invariant-loop-done g l = record {
  so_far : take l.done l.into ≡ map (λ column. g.T.Form.form (text_sample l.font l.text column l.y)) (range_with_len l.x l.done);
  ahead : (y j : ℕ) → text_bit l.font l.rest (l.column + j) y ≡ text_bit l.font l.text (l.x + l.done + j) y;
  within : l.done ≤ length l.into;
  text : IsText l.rest;
}

abbrev pub decreases-loop-done : goal.decreases-loop-done
decreases-loop-done g l = length l.initial.into - l.done
