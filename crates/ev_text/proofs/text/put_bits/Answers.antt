use Rattle.std.proofs.Common.{◌∙◌, ℕ, Bool, ap}
use Rattle.std.specs.Prelude.{◌==◌}
use Rattle.std.specs.Int.{bit_at}
use Rattle.ev_text.specs.TextRows.{bit_sample}
use Rattle.ev_model.proofs.Runs.{run_more}
use Rattle.ev_text.proofs.text.put_bits.Goals as goal

pub loop-k-preserved : goal.loop-k-preserved
loop-k-preserved g c =
    run_more (λ (column : ℕ). g.T.Form.form (bit_sample (bit_at c.args.row column == 1))) c.args.into.now c.loop-k.into c.args.from c.loop-k.k c.of.result c.loop-k-test.true c.loop-k.invariant (c.of.ensures ∙ ap (λ (bit : Bool). g.T.Form.form (bit_sample bit)) c.has_bit.ensures)
