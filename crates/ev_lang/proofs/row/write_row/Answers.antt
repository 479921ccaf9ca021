use Rattle.std.proofs.Common.{[], ◌∷◌, arith, ◌∙◌}
use Rattle.std.proofs.lemmas.Result.{on_err_weaker}
use Rattle.ev_lang.proofs.Pieces.{on_err_always}
use Rattle.ev_lang.proofs.Rows.{row_cut, row_on, row_end}
use Rattle.ev_lang.proofs.row.write_row.Goals as goal

pub returns-in_err-make_room-clause-err : goal.returns-in_err-make_room-clause-err
returns-in_err-make_room-clause-err g c =
    on_err_always c.from_residual.result (row_cut c.args.pixels.now c.loop-x.x (10 ∷ []) c.loop-x.invariant.laid c.in_err-make_room.ensures.err)

pub loop-x-preserved : goal.loop-x-preserved
loop-x-preserved g c =
    record {
      laid = row_on c.args.pixels.now c.loop-x.x c.index-pixels-x.result _ (omega arith) c.index-pixels-x.is c.push_place.ensures.text c.loop-x.invariant.laid c.in_ok-make_room.ensures.ok;
      short = omega (arith, c.push_place.ensures.short, c.in_ok-make_room.ensures.room);
      faults = omega (arith, c.loop-x.invariant.faults, c.make_room.ensures.cause.later);
    }

pub returns-clause-err : goal.returns-clause-err
returns-clause-err g c =
    on_err_weaker c.write.result (λ part. row_end c.args.pixels.now c.loop-x.x (10 ∷ []) _ (omega arith) (c.as_slice.ensures ∙ c.push.ensures) c.loop-x.invariant.laid part) c.write.ensures.err
