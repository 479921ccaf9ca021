use Rattle.std.proofs.Common.{ℕ, Option, List, subst, arith}
use Rattle.ev_argb.specs.Argb.{Argb}
use Rattle.ev_port.specs.Told.{GrowsBy, GrowsPart}
use Rattle.ev_model.specs.Answer.{Answer, DumpRow}
use Rattle.ev_model.specs.Text.{reply_text}
use Rattle.ev_script.specs.Dumps.{place_row}
use Rattle.ev_script.proofs.Pieces.{on_err_always, replies_more, replies_cut}
use Rattle.ev_script.proofs.picture.write_rows.Goals as goal

pub returns-in_err-write_row-clause-err : goal.returns-in_err-write_row-clause-err
returns-in_err-write_row-clause-err g c =
    let rows : ℕ → Answer = λ y. DumpRow (place_row c.args.hidden.now c.args.picture.now y) in
    let part = subst (λ (row : List (Option Argb)). GrowsPart (g.K.Sink.written c.loop-y.sink) (g.K.Sink.written c.write_row.new.sink) (reply_text (DumpRow row))) c.show_row.ensures c.in_err-write_row.ensures.err in
    on_err_always c.from_residual.result (replies_cut rows c.loop-y.y c.args.picture.now.h _ _ _ (omega (arith, c.height-y-end.ensures.height)) c.loop-y.invariant.written part)

pub loop-y-preserved : goal.loop-y-preserved
loop-y-preserved g c =
    let rows : ℕ → Answer = λ y. DumpRow (place_row c.args.hidden.now c.args.picture.now y) in
    let whole = subst (λ (row : List (Option Argb)). GrowsBy (g.K.Sink.written c.loop-y.sink) (g.K.Sink.written c.write_row.new.sink) (reply_text (DumpRow row))) c.show_row.ensures c.in_ok-write_row.ensures.ok in
    record {
      written = replies_more rows c.loop-y.y _ _ _ c.loop-y.invariant.written whole;
      faults = omega (arith, c.loop-y.invariant.faults, c.write_row.ensures.cause.later);
    }
