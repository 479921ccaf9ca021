-- A start that was accepted.
use Rattle.std.proofs.Common.{◌≡◌, ℕ, ◌-◌, ◌*◌, ◌^◌, ◌≤◌, arith, if◌then◌else◌, Bool, true, false, List, [], ◌∷◌, take, Option, Some, None, IfSome, Ok, refl, sym, ap, ap₂, subst, ◌∙◌}
use Rattle.std.specs.Option.{option_map}
use Rattle.std.proofs.Math.Nat.{mul-le-mul}
use Rattle.ev_geom.specs.Area.{Area}
use Rattle.ev_model.specs.Capture.{Capture, capture_of}
use Rattle.ev_scene.specs.Board.{Kept, board, stage_of}
use Rattle.ev_damage.specs.Places.{HaveOwnIds}
use Rattle.ev_damage.specs.Stay.{HaveOneLoad}
use Rattle.ev_preload.specs.Loads.{Loads}
use Rattle.ev_canvas.specs.Starts.{Latest, Starts, has_size_of, pixels_opened, repairs, tiles_in}
use Rattle.ev_canvas.specs.CanvasFrames.{Frames, runs, missed_for, started_of}
use Rattle.ev_canvas.specs.CanvasCalls.{MayStart}
use Rattle.ev_canvas.specs.Canvas.{Canvas, IsCanvas, now_of}
use Rattle.ev_canvas.specs.Drawings.{IsBegun, IsDrawing, StandsNow, captured, capture_in, entry_by, frames_of, latest_in, latest_of}
use Rattle.ev_canvas.specs.Ledger.{HasLedger}
use Rattle.ev_canvas.specs.declared.canvas.Setup.{Setup}
use Rattle.ev_canvas.specs.declared.begun.Begun.{Begun}
use Rattle.ev_canvas.specs.declared.drawing.Drawing.{Drawing}
use Rattle.ev_canvas.specs.declared.newest.Drawn.{Drawn}
use Rattle.ev_canvas.specs.declared.newest.End.TheVariants as end
use Rattle.ev_canvas.specs.declared.newest.Newest.{Newest}
use Rattle.ev_canvas.specs.declared.start.Started.{Started}
use Rattle.ev_canvas.proofs.Following.{begun}
use Rattle.ev_canvas.proofs.Ledgers.{comparable, ledger_started}

-- the frames after a start
abbrev pub frames_then : Frames → ℕ → Begun → ℕ → Frames
frames_then old buffers b tiles = record old {
  given = [];
  newest = Some (record { entry = entry_by b tiles; end = end.Running });
  own = 0;
  missed = take (buffers - 1) (b.updates ∷ missed_for old.newest (capture_in b) old.missed);
}

pub stands : (given areas : List Area) (buffers : ℕ) (old new : Drawing) (b : Begun) (tiles : ℕ) → StandsNow buffers old b tiles new → frames_of [] areas new ≡ frames_then (frames_of given areas old) buffers b tiles
stands given areas buffers old new b tiles now =
    ap₂ (λ (l : Option Latest) (own : ℕ). record (frames_of [] areas new) { newest = l; own = own }) now.newest now.own
    ∙ ap₂ (λ (m : List (List Area)) (d : Drawn). record (frames_then (frames_of given areas old) buffers b tiles) { missed = m; drawn = d }) now.missed now.drawn

-- a start of what is captured of the scene, which became the newest
pub started : (v w : Canvas) (b : Begun) (tiles : ℕ) (result : Started) → runs v.frames.newest ≡ false → capture_in b ≡ capture_of (stage_of (board v.scene))
    → Starts v.setup.cell v.frames.newest (capture_in b) v.frames.given v.frames.areas (entry_by b tiles) → HaveOwnIds (capture_in b).looks
    → tiles ≡ tiles_in (capture_in b) (repairs (b.updates ∷ missed_for v.frames.newest (capture_in b) v.frames.missed) b.hidden)
    → result ≡ record { n = b.number; tiles = tiles }
    → now_of w ≡ record (now_of v) { frames = frames_then v.frames v.setup.buffers b tiles } → MayStart v.setup (now_of v) (Ok result) (now_of w)
started v w b tiles result idle here starts apart count answer is =
    let now = capture_of (stage_of (board v.scene)) in
    let frames : w.frames ≡ frames_then v.frames v.setup.buffers b tiles = ap (λ m. m.frames) is in
    let newest : w.frames.newest ≡ Some (record { entry = entry_by b tiles; end = end.Running }) = ap (λ (f : Frames). f.newest) frames in
    record {
      starts = (
        idle,
        record {
          entry = entry_by b tiles;
          starts = subst (λ (c : Capture). Starts v.setup.cell v.frames.newest c v.frames.given v.frames.areas (entry_by b tiles)) here starts;
          apart = apart;
          tiles = count ∙ ap (λ (c : Capture). tiles_in c (repairs (b.updates ∷ missed_for v.frames.newest c v.frames.missed) b.hidden)) here;
          stands = frames ∙ ap (λ (c : Capture). record (frames_then v.frames v.setup.buffers b tiles) { missed = take (v.setup.buffers - 1) (b.updates ∷ missed_for v.frames.newest c v.frames.missed) }) here;
        },
        answer ∙ sym (ap started_of newest),
      );
      alone = is ∙ ap (λ (f : Frames). record (now_of v) { frames = f }) (sym frames);
    }

if_newest : (newest : Option Newest) (P : Latest → Type 0) → IfSome (option_map latest_of newest) P → IfSome newest (λ n. P (latest_of n))
if_newest None P all = tt
if_newest (Some n) P all = all

-- a start of the canvas's scene can be drawn
pub can_start : (setup : Setup) (scene : Kept) (drawing : Drawing) (loads : Loads) (given areas : List Area) (b : Begun) → IsCanvas setup scene drawing loads → capture_in b ≡ capture_of (stage_of (board scene)) → b.shot.scene.w ≤ 4096 → b.shot.scene.h ≤ 4096 → HaveOwnIds (capture_in b).looks
    → ((tiles : ℕ) → Starts setup.cell (latest_in drawing) (capture_in b) given areas (entry_by b tiles)) → IsBegun drawing.newest b
can_start setup scene drawing loads given areas b is here wide high apart starts =
    let compared : IfSome drawing.newest (λ n. HaveOneLoad (captured n).looks (capture_in b).looks) =
    subst (λ (c : Capture). IfSome drawing.newest (λ n. HaveOneLoad (captured n).looks c.looks)) (sym here)
    (if_newest drawing.newest (λ latest. HaveOneLoad latest.entry.capture.looks (capture_of (stage_of (board scene))).looks) (comparable loads (board scene) (latest_in drawing) is.ledger)) in
    begun setup.buffers setup.cell drawing.newest given areas b 0 is.frames.newest wide high apart compared (starts 0)

-- and what holds of the canvas holds after it
pub canvas_started : (setup : Setup) (scene : Kept) (drawing drawing' : Drawing) (loads : Loads) (b : Begun) (tiles : ℕ) → IsCanvas setup scene drawing loads → capture_in b ≡ capture_of (stage_of (board scene)) → IsDrawing setup.buffers drawing'
    → StandsNow setup.buffers drawing b tiles drawing' → IsCanvas setup scene drawing' loads
canvas_started setup scene drawing drawing' loads b tiles was here is now = record {
  cell_low = was.cell_low;
  cell_high = was.cell_high;
  frames = is;
  objects = was.objects;
  ledger = subst (λ (l : Option Latest). HasLedger loads (board scene) l) (sym now.newest) (ledger_started loads (board scene) (latest_in drawing) (entry_by b tiles) end.Running here was.ledger);
}
