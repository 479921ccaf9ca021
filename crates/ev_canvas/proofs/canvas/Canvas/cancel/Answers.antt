use Rattle.std.proofs.Common.{subst, sym}
use Rattle.ev_preload.specs.Loads.{Loads}
use Rattle.ev_scene.specs.Board.{board}
use Rattle.ev_canvas.specs.Drawings.{latest_in}
use Rattle.ev_canvas.specs.Ledger.{HasLedger}
use Rattle.ev_canvas.specs.Loading.{HaveObjects}
use Rattle.ev_canvas.proofs.Ledgers.{ledger_stopped}
use Rattle.ev_canvas.proofs.Loading.{live_stop, with_loads}
use Rattle.ev_canvas.proofs.canvas.Canvas.cancel.Goals as goal

pub invariant_of-self : goal.invariant_of-self
invariant_of-self c =
    let scene = board c.self.inside.scene in
    let after = sym c.stop.ensures.after in
    with_loads _ _ _ _ _ _ c.self.invariant (subst (λ (l : Loads). HaveObjects scene l.running) after (live_stop scene c.self.inside.preloads c.stop.result c.self.invariant.objects))
    (subst (λ (l : Loads). HasLedger l scene (latest_in c.self.inside.drawing)) after (ledger_stopped c.self.inside.preloads scene _ c.stop.result c.self.invariant.ledger))
