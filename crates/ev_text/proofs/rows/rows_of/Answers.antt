use Rattle.std.proofs.Common.{ℕ, List, ◌++◌, ◌∙◌, sym, ap}
use Rattle.std.proofs.lemmas.List.{append-nil}
use Rattle.ev_text.proofs.Four.{pushed, rest_none}
use Rattle.ev_text.proofs.rows.rows_of.Goals as goal

pub loop-i-preserved : goal.loop-i-preserved
loop-i-preserved c =
    rw c.in_ok-push.ensures.items (pushed c.loop-i.rows.items c.loop-i.i c.row_at.result c.args.bytes.now c.loop-i-test.true c.row_at.ensures c.loop-i.invariant)

pub returns : goal.returns
returns c =
    sym (append-nil c.loop-i.rows.items) ∙ ap (λ (rows : List ℕ). c.loop-i.rows.items ++ rows) (sym (rest_none c.args.bytes.now c.loop-i.i c.loop-i-test.false)) ∙ c.loop-i.invariant
