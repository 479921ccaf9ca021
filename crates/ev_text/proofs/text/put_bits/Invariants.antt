use Rattle.std.proofs.Common.{◌≡◌, ◌++◌, map, drop}
use Rattle.std.specs.Prelude.{◌==◌}
use Rattle.std.specs.List.{range_with_len}
use Rattle.std.specs.Int.{bit_at}
use Rattle.ev_text.specs.TextRows.{bit_sample}
use Rattle.ev_text.proofs.text.put_bits.Given as goal

abbrev pub invariant-loop-k : goal.invariant-loop-k
invariant-loop-k g l = l.into ≡ map (λ column. g.T.Form.form (bit_sample (bit_at l.row column == 1))) (range_with_len l.from l.k) ++ drop l.k l.fn.into
