use Rattle.std.proofs.Common.{◌≡◌, List, [], Ok, refl, ap, sym, subst, ◌∙◌, arith}
use Rattle.ev_geom.specs.Area.{Area}
use Rattle.ev_model.specs.Capture.{capture_of}
use Rattle.ev_model.specs.Stage.{stage}
use Rattle.ev_scene.specs.Board.{Kept}
use Rattle.ev_scene.specs.Shot.{Shot}
use Rattle.ev_canvas.specs.Starts.{Starts}
use Rattle.ev_canvas.specs.CanvasFrames.{Frames, runs}
use Rattle.ev_canvas.specs.CanvasCalls.{MayStart}
use Rattle.ev_canvas.specs.Canvas.{Canvas, IsCanvas, now_of}
use Rattle.ev_canvas.specs.Drawings.{capture_in, entry_by, frames_of, latest_in, painted_of}
use Rattle.ev_canvas.proofs.Standing.{few_opened}
use Rattle.ev_canvas.proofs.Starting.{can_start, canvas_started, stands, started}
use Rattle.ev_canvas.proofs.canvas.Canvas.start.Goals as goal

pub start-requires-clause-begun : goal.start-requires-clause-begun
start-requires-clause-begun c =
    let was = subst (λ (s : Kept). IsCanvas c.self.inside.setup s c.self.inside.drawing c.self.inside.preloads) (sym c.list_order.ensures) c.self.invariant in
    let here = ap (λ (s : Shot). capture_of (stage s.scene)) c.in-Ok-of.ensures.shot ∙ ap capture_of c.in-Ok.ensures in
    can_start c.self.inside.setup c.list_order.new.self c.self.inside.drawing c.self.inside.preloads _ _ c.in-Ok-of.begun was here c.tell_limits.ensures.width c.tell_limits.ensures.height c.tell_limits.ensures.apart c.in-Ok-of.ensures.starts

pub invariant_of-self-2 : goal.invariant_of-self-2
invariant_of-self-2 c =
    let was = subst (λ (s : Kept). IsCanvas c.self.inside.setup s c.self.inside.drawing c.self.inside.preloads) (sym c.list_order.ensures) c.self.invariant in
    let here = ap (λ (s : Shot). capture_of (stage s.scene)) c.in-Ok-of.ensures.shot ∙ ap capture_of c.in-Ok.ensures in
    canvas_started c.self.inside.setup c.list_order.new.self c.self.inside.drawing c.start.new.self c.self.inside.preloads c.in-Ok-of.begun c.in-Ok-start.tiles was here c.in-Ok-start.ensures.is c.in-Ok-start.ensures.stands

pub returns-clause-starts : goal.returns-clause-starts
returns-clause-starts c =
    let fields = c.self.inside in
    let b = c.in-Ok-of.begun in
    let tiles = c.in-Ok-start.tiles in
    let seen : Kept → Canvas = λ s. record { setup = fields.setup; scene = s; frames = frames_of fields.given.items fields.areas.items fields.drawing; painted = painted_of fields.drawing.newest; loads = fields.preloads; events = fields.events } in
    let new : Canvas = record { setup = fields.setup; scene = c.list_order.new.self; frames = frames_of c.clear.new.self.items fields.areas.items c.start.new.self; painted = painted_of c.start.new.self.newest; loads = fields.preloads; events = fields.events } in
    let same : seen c.list_order.new.self ≡ c.args.self.now = ap seen c.list_order.ensures ∙ c.self.view_is in
    let idle = ap (λ (v : Canvas). runs v.frames.newest) same ∙ sym c.is_running.ensures ∙ c.if-is_running.false in
    let here = ap (λ (s : Shot). capture_of (stage s.scene)) c.in-Ok-of.ensures.shot ∙ ap capture_of c.in-Ok.ensures in
    let starts = subst (λ (given : List Area). Starts fields.setup.cell (latest_in fields.drawing) (capture_in b) given fields.areas.items (entry_by b tiles)) c.deref.ensures.value
    (subst (λ (areas : List Area). Starts fields.setup.cell (latest_in fields.drawing) (capture_in b) c.deref.result.now areas (entry_by b tiles)) c.deref-2.ensures.value (c.in-Ok-of.ensures.starts tiles)) in
    let now = c.in-Ok-start.ensures.stands in
    let frames = ap (λ (given : List Area). frames_of given fields.areas.items c.start.new.self) c.clear.ensures.items ∙ stands fields.given.items fields.areas.items fields.setup.buffers fields.drawing c.start.new.self b tiles now in
    subst (λ (v : Canvas). MayStart v.setup (now_of v) (Ok (record { n = b.number; tiles = tiles })) (now_of new)) same
    (started (seen c.list_order.new.self) new b tiles (record { n = b.number; tiles = tiles }) idle here starts c.tell_limits.ensures.apart now.count refl
    (ap (λ (f : Frames). record (now_of (seen c.list_order.new.self)) { frames = f }) frames))

pub returns-clause-most : goal.returns-clause-most
returns-clause-most c =
    let now = c.in-Ok-start.ensures.stands in
    let more = now.painted in
    let few = few_opened c.self.inside.setup.buffers (latest_in c.self.inside.drawing) (capture_in c.in-Ok-of.begun) c.self.invariant.frames.few c.tell_limits.ensures.width c.tell_limits.ensures.height in
    let was : painted_of c.self.inside.drawing.newest ≡ c.args.self.now.painted = ap (λ (v : Canvas). v.painted) c.self.view_is in
    omega (arith, more, few, was)
