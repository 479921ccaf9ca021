use Rattle.std.proofs.lemmas.Result.{on_ok_weaker, on_err_weaker}
use Rattle.ev_lang.proofs.Pieces.{on_err_always}
use Rattle.ev_lang.proofs.Headings.{heading_cut, updates_cut, shown_whole}
use Rattle.ev_lang.proofs.shown.write_shown.Goals as goal

pub returns-in_err-send-clause-err : goal.returns-in_err-send-clause-err
returns-in_err-send-clause-err g c =
    on_err_always c.from_residual.result (heading_cut c.args.n c.args.w c.args.h c.args.updates.now c.heading.ensures c.in_err-send.ensures.err)

pub returns-clause-ok : goal.returns-clause-ok
returns-clause-ok g c =
    on_ok_weaker c.write_updates.result (λ rest. shown_whole c.args.n c.args.w c.args.h c.args.updates.now c.heading.ensures c.in_ok-send.ensures.ok rest) c.write_updates.ensures.ok

pub returns-clause-err : goal.returns-clause-err
returns-clause-err g c =
    on_err_weaker c.write_updates.result (λ part. updates_cut c.args.n c.args.w c.args.h c.args.updates.now c.heading.ensures c.in_ok-send.ensures.ok part) c.write_updates.ensures.err
