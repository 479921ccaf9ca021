use Rattle.std.proofs.Common.{ap, ◌∙◌}
use Rattle.ev_canvas.specs.Turns.{rows}
use Rattle.ev_script.proofs.Pieces.{retold}
use Rattle.ev_script.proofs.Painting.{picture_rows, same_rows, printed_as, unprinted}
use Rattle.ev_script.proofs.tell.tell_rows.Goals as goal

pub returns-in-Ok-clause-told : goal.returns-in-Ok-clause-told
returns-in-Ok-clause-told g c =
    let picture = c.in-Ok.picture.now in
    let is = c.in-Ok.ensures in
    retold (picture_rows c.hidden.result.now picture) _ (ap (λ h. picture_rows h picture) (c.hidden.ensures.value ∙ ap (λ d. d.hidden) is.last) ∙ same_rows is.latest.entry picture is.drawn ∙ printed_as rows c.args.line c.args.canvas.now.frames picture is)
    (record { whole = c.write_rows.ensures.ok; part = c.write_rows.ensures.err })

pub returns-in-Err-clause-told : goal.returns-in-Err-clause-told
returns-in-Err-clause-told g c = retold _ _ (unprinted rows c.args.line c.args.canvas.now.frames.newest c.in-Err.cause c.in-Err.ensures) (rw c.cause_of.ensures at c.tell_refused.ensures.told)
