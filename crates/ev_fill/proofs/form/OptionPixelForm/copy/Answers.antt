use Rattle.std.proofs.Common.{Some, arith}
use Rattle.ev_argb.specs.Argb.{Argb}
use Rattle.ev_model.proofs.Runs.{copy_more}
use Rattle.ev_fill.proofs.form.OptionPixelForm.copy.Goals as goal

pub loop-k-preserved : goal.loop-k-preserved
loop-k-preserved c = copy_more (λ (pixel : Argb). Some pixel) c.args.from.now c.args.into.now c.loop-k.into c.loop-k.k c.index-from-k.result (omega arith) c.loop-k-test.true c.loop-k.invariant c.index-from-k.is
