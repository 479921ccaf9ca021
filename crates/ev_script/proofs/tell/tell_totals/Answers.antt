use Rattle.std.proofs.Common.{[], ◌∷◌, ap, ◌∙◌}
use Rattle.ev_canvas.specs.Turns.{sums}
use Rattle.ev_canvas.specs.Totals.{totals}
use Rattle.ev_script.specs.Dumps.{places}
use Rattle.ev_script.proofs.Pieces.{retold}
use Rattle.ev_script.proofs.Painting.{same_sums, printed_as, unprinted}
use Rattle.ev_script.proofs.tell.tell_totals.Goals as goal

pub returns-in-Ok-clause-told : goal.returns-in-Ok-clause-told
returns-in-Ok-clause-told g c =
    let picture = c.in-Ok.picture.now in
    let is = c.in-Ok.ensures in
    retold _ _ (ap (λ reply. reply ∷ []) (c.reply.ensures ∙ c.of.ensures) ∙ ap (λ h. totals (places h picture) ∷ []) (c.hidden.ensures.value ∙ ap (λ d. d.hidden) is.last)
    ∙ same_sums is.latest.entry picture is.drawn ∙ printed_as sums c.args.line c.args.canvas.now.frames picture is) c.tell_one.ensures.told

pub returns-in-Err-clause-told : goal.returns-in-Err-clause-told
returns-in-Err-clause-told g c = retold _ _ (unprinted sums c.args.line c.args.canvas.now.frames.newest c.in-Err.cause c.in-Err.ensures) (rw c.cause_of.ensures at c.tell_refused.ensures.told)
