use Rattle.std.proofs.Common.{subst, sym}
use Rattle.ev_preload.specs.Loads.{Loads}
use Rattle.ev_scene.specs.Board.{board}
use Rattle.ev_canvas.specs.Drawings.{latest_in}
use Rattle.ev_canvas.specs.Ledger.{HasLedger}
use Rattle.ev_canvas.specs.Loading.{HaveObjects}
use Rattle.ev_canvas.proofs.Ledgers.{ledger_none, ledger_taken}
use Rattle.ev_canvas.proofs.Loading.{live_without, live_taken, has_collected, with_loads}
use Rattle.ev_canvas.proofs.canvas.Canvas.collect.Goals as goal

pub invariant_of-self : goal.invariant_of-self
invariant_of-self c =
    let scene = board c.self.inside.scene in
    let after = sym c.collect.ensures.after in
    with_loads _ _ _ _ _ _ c.self.invariant (subst (λ (l : Loads). HaveObjects scene l.running) after (live_without scene c.self.inside.preloads.running c.args.number c.self.invariant.objects))
    (subst (λ (l : Loads). HasLedger l scene (latest_in c.self.inside.drawing)) after (ledger_none c.self.inside.preloads scene _ c.args.number (sym c.in_default.ensures.answer) c.self.invariant.ledger))

pub give-fault-requires-clause-kind : goal.give-fault-requires-clause-kind
give-fault-requires-clause-kind c = has_collected (board c.self.inside.scene) c.self.inside.preloads.running c.args.number _ _ c.self.invariant.objects (sym c.in-Some.ensures.answer)

pub invariant_of-self-2 : goal.invariant_of-self-2
invariant_of-self-2 c =
    let running = c.self.inside.preloads.running in
    let scene = board c.self.inside.scene in
    let new = board c.give-fault.new.scene in
    let after = sym c.collect.ensures.after in
    let here = has_collected scene running c.args.number _ _ c.self.invariant.objects (sym c.in-Some.ensures.answer) in
    with_loads _ _ _ _ _ _ c.self.invariant (subst (λ (l : Loads). HaveObjects new l.running) after
    (live_taken scene new _ _ c.give-fault.result running c.args.number c.give-fault.ensures.takes here c.self.invariant.objects))
    (subst (λ (l : Loads). HasLedger l new (latest_in c.self.inside.drawing)) after (ledger_taken c.self.inside.preloads scene new _ c.args.number _ _ c.give-fault.result (sym c.in-Some.ensures.answer) c.give-fault.ensures.takes c.self.invariant.ledger))
