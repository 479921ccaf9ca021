use Rattle.std.proofs.Common.{arith}
use Rattle.ev_model.specs.Text.{update_text}
use Rattle.ev_lang.proofs.Pieces.{on_err_always, cut_at}
use Rattle.ev_lang.proofs.shown.write_updates.Goals as goal

pub returns-in_err-send-clause-err : goal.returns-in_err-send-clause-err
returns-in_err-send-clause-err g c =
    on_err_always c.from_residual.result (cut_at update_text c.args.updates.now c.loop-change.change-index c.change-item.result _ _ _ _ (omega arith) c.change-item.is c.update.ensures c.loop-change.invariant.written c.in_err-send.ensures.err)
