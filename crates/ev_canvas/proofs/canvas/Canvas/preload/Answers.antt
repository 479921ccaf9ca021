use Rattle.std.proofs.Common.{subst, sym, ◌∙◌}
use Rattle.ev_preload.specs.Loads.{Loads}
use Rattle.ev_scene.specs.Board.{board}
use Rattle.ev_canvas.specs.Drawings.{latest_in}
use Rattle.ev_canvas.specs.Ledger.{HasLedger}
use Rattle.ev_canvas.specs.Loading.{HaveObjects}
use Rattle.ev_canvas.proofs.Ledgers.{ledger_begun}
use Rattle.ev_canvas.proofs.Loading.{asked_number, live_begun, with_loads}
use Rattle.ev_canvas.proofs.canvas.Canvas.preload.Goals as goal

pub invariant_of-self : goal.invariant_of-self
invariant_of-self c =
    let loads = c.self.inside.preloads in
    let scene = board c.self.inside.scene in
    let after = sym c.ask.ensures.after in
    with_loads _ _ _ _ _ _ c.self.invariant (subst (λ (l : Loads). HaveObjects scene l.running) after (live_begun scene loads c.ask.result c.ask.ensures.live c.self.invariant.objects))
    (subst (λ (l : Loads). HasLedger l scene (latest_in c.self.inside.drawing)) after
    (ledger_begun loads scene _ c.ask.result (λ job is. asked_number loads _ job (sym is ∙ c.ask.ensures.answer)) c.self.invariant.ledger))
