use Rattle.std.proofs.Common.{◌≡◌, [], Bool, false, Err, subst, ap, sym, refl, ◌∙◌}
use Rattle.ev_model.specs.declared.refusal.Refusal.TheVariants.{Loading}
use Rattle.ev_model.specs.declared.command.Edit.TheVariants as edits
use Rattle.ev_scene.specs.Board.{board}
use Rattle.ev_canvas.specs.CanvasCalls.{MayEdit}
use Rattle.ev_canvas.specs.Canvas.{Canvas, now_of}
use Rattle.ev_preload.specs.Loads.{Loads}
use Rattle.ev_canvas.specs.Drawings.{frames_of, latest_in}
use Rattle.ev_canvas.specs.Ledger.{HasLedger}
use Rattle.ev_canvas.proofs.Ledgers.{ledger_changed, ledger_edited}
use Rattle.ev_canvas.proofs.Loading.{with_loads}
use Rattle.ev_canvas.specs.Now.{Now}
use Rattle.ev_canvas.specs.Loading.{EditsUnless}
use Rattle.ev_canvas.proofs.Keeping.{keeps}
use Rattle.ev_canvas.proofs.canvas.Canvas.edit.Goals as goal

pub invariant_of-self : goal.invariant_of-self
invariant_of-self c =
    let loads = c.self.inside.preloads in
    let new = board c.delete.new.scene in
    with_loads _ _ _ _ _ _ c.self.invariant c.delete.ensures.live (subst (λ (l : Loads). HasLedger l new (latest_in c.self.inside.drawing)) (sym c.delete.ensures.loads)
    (ledger_edited false loads (board c.self.inside.scene) new _ (edits.Delete c.in-Delete.name) c.delete.result c.delete.ensures.edits c.self.invariant.ledger))

pub invariant_of-self-in_default : goal.invariant_of-self-in_default
invariant_of-self-in_default c =
    with_loads _ _ _ _ _ _ c.self.invariant c.change.ensures.live
    (ledger_changed false c.self.inside.preloads (board c.self.inside.scene) (board c.change.new.scene) _ c.args.edit.now c.change.result c.change.ensures.edits c.self.invariant.ledger)

pub returns-then-is_waiting-clause-edits : goal.returns-then-is_waiting-clause-edits
returns-then-is_waiting-clause-edits c =
    let waiting = sym c.is_waiting.ensures ∙ c.if-is_waiting.true in
    let scene = board c.self.inside.scene in
    subst (λ (v : Canvas). v.events ≡ [] → MayEdit (now_of v) c.args.edit.now (Err Loading) (now_of v) v.events) c.self.view_is
    (λ taken. keeps _ _ _ _ _ (subst (λ (b : Bool). EditsUnless {T = Unit {0}} b scene c.args.edit.now (Err Loading) scene) (sym waiting) (refl, refl)) refl refl c.self.invariant.objects taken) c.requires.taken

pub returns-in_default-clause-edits : goal.returns-in_default-clause-edits
returns-in_default-clause-edits c =
    let new : Now = record { scene = board c.change.new.scene; frames = frames_of c.self.inside.given.items c.self.inside.areas.items c.self.inside.drawing; loads = c.self.inside.preloads } in
    let free = sym c.is_waiting.ensures ∙ c.if-is_waiting.false in
    let carried = subst (λ (b : Bool). EditsUnless b (board c.self.inside.scene) c.args.edit.now c.change.result new.scene) (sym free) c.change.ensures.edits in
    subst (λ (v : Canvas). MayEdit (now_of v) c.args.edit.now c.change.result new c.self.inside.events) c.self.view_is
    (keeps _ new _ _ _ carried refl refl c.change.ensures.live (ap (λ (v : Canvas). v.events) c.self.view_is ∙ c.requires.taken))
