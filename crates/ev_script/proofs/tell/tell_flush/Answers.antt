use Rattle.std.proofs.Common.{[], ◌∷◌, ap, ap₂, sym, ◌∙◌}
use Rattle.ev_model.specs.Answer.{Shown}
use Rattle.ev_canvas.specs.Starts.{last_number}
use Rattle.ev_canvas.specs.Turns.{told_flush}
use Rattle.ev_canvas.specs.declared.flush.Flushed.TheVariants as flushed
use Rattle.ev_script.proofs.Pieces.{retold, untold}
use Rattle.ev_script.proofs.Painting.{no_flush}
use Rattle.ev_script.proofs.tell.tell_flush.Goals as goal

pub returns-in_default-clause-told : goal.returns-in_default-clause-told
returns-in_default-clause-told g c = untold _ (no_flush c.args.flushed c.args.canvas.now.frames.newest _ c.requires.ended c.in_default.ensures)

pub returns-in-Shown-clause-told : goal.returns-in-Shown-clause-told
returns-in-Shown-clause-told g c =
    let is = c.in-Ok.ensures in
    let u = c.updates-updates.result.now in
    retold _ _ (ap₂ (λ w h. Shown c.frames-n.result w h u ∷ []) (c.width-w.ensures.width ∙ is.drawn.width) (c.height-h.ensures.height ∙ is.drawn.height)
    ∙ ap₂ (λ n u. Shown n is.latest.entry.capture.w is.latest.entry.capture.h u ∷ []) (c.frames-n.ensures ∙ ap last_number is.newest) (c.updates-updates.ensures.value ∙ ap (λ d. d.updates) is.last)
    ∙ sym (ap (told_flush flushed.Shown) is.newest) ∙ ap (λ f. told_flush f c.args.canvas.now.frames.newest) (sym c.in-Shown.is)) c.tell_one.ensures.told
