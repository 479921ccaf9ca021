use Rattle.std.proofs.Common.{subst, sym, arith, ℕ, List, Result}
use Rattle.std.proofs.lemmas.List.{take_rest}
use Rattle.ev_text.specs.declared.fault.BadFont.{BadFont}
use Rattle.ev_text.specs.FontReading.{Gives}
use Rattle.ev_text.proofs.Spellings.{rows_whole}
use Rattle.ev_text.proofs.reading.rows_at.Goals as goal

pub returns : goal.returns
returns c = subst (λ (read : Result (List ℕ) BadFont). Gives (λ rows. rows.items) c.checked_rows.result read) (sym (rows_whole c.args.height c.args.widths.now c.args.bytes.now (omega arith) (omega arith))) (rw (take_rest c.args.bytes.now 100) at c.checked_rows.ensures)
