use Rattle.std.proofs.Common.{length, arith}
use Rattle.std.proofs.lemmas.Result.{err_from_is_err_and}
use Rattle.ev_script.proofs.Reading.{takes_within, takes_beyond}
use Rattle.ev_script.proofs.source.read_script.Goals as goal

pub returns-then-count-len-clause-takes : goal.returns-then-count-len-clause-takes
returns-then-count-len-clause-takes g c =
    takes_beyond _ _ _ (length c.loop-script.script.items) c.in-Ok.count c.loop-script.invariant.count c.in-Ok.ensures.count c.loop-script.invariant.short (omega (arith, c.if-count-len.true, c.len.ensures))

pub returns-in_err-extend_from_slice-clause-takes : goal.returns-in_err-extend_from_slice-clause-takes
returns-in_err-extend_from_slice-clause-takes g c =
    let p = err_from_is_err_and c.from_residual.result c.from_residual.ensures.1 in
    rw (p.1, p.2) (takes_within _ _ _ (length c.loop-script.script.items) c.in-Ok.count c.loop-script.invariant.count c.in-Ok.ensures.count c.loop-script.invariant.short (omega (arith, c.if-count-len.false, c.len.ensures)))
