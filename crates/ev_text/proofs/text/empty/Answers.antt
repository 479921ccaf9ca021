use Rattle.std.proofs.Common.{None}
use Rattle.ev_model.proofs.Runs.{constant_more}
use Rattle.ev_text.proofs.text.empty.Goals as goal

pub loop-k-preserved : goal.loop-k-preserved
loop-k-preserved g c = constant_more (g.T.Form.form None) c.of.result c.args.into.now c.loop-k.into c.loop-k.k c.loop-k-test.true c.loop-k.invariant c.of.ensures
