use Rattle.std.proofs.Common.{◌≡◌, ◌++◌, None, drop, replicate}
use Rattle.ev_text.proofs.text.empty.Given as goal

abbrev pub invariant-loop-k : goal.invariant-loop-k
invariant-loop-k g l = l.into ≡ replicate l.k (g.T.Form.form None) ++ drop l.k l.fn.into
