-- Buffers, and the frame that is drawn on one of them.
use Rattle.std.specs.Prelude.{◌≡◌, ℕ, ◌+◌, ◌<◌, ◌≤◌, ◌^◌, true, false, Bool, ℤ, List, length, Option, Some, None, IfSome}
use Rattle.ev_argb.specs.Argb.{Argb}
use Rattle.ev_argb.specs.Grid.{painted_of}
use Rattle.ev_geom.specs.Area.{Area}
use Rattle.ev_geom.specs.Bands.{has_pixel}
use Rattle.ev_model.specs.Capture.{Capture}
use Rattle.ev_model.specs.Paint.{paint}
use Rattle.ev_cmds.specs.Cuts.{Cut, IsCutOf}
use Rattle.ev_buffers.specs.BufferChain.{Chain, Draft, IsPlanOf, is_lent, painted_on_all}
use Rattle.ev_buffers.specs.Kept.{IsKept, Follows}
use Rattle.ev_frames.specs.Running.{Running, Keeps, frame_cost}

-- the buffers, the frame that is running, and how many pixels were painted on buffers that were given up before
pub record Stand : Type 0 where
  pub chain : Chain
  pub frame : Option Running
  pub given_up : ℕ

-- how many pixels count as painted on the picture that is lent; a plane that is out counts as when it went out
abbrev pub painted_out : Option Running → ℕ
painted_out None = 0
painted_out (Some frame) = painted_of frame.loan.picture + frame.lent

-- how many pixels were painted on all buffers, those that were given up included
abbrev pub painted_by : Stand → ℕ
painted_by stand = stand.given_up + painted_on_all stand.chain + painted_out stand.frame

-- The buffer of a running frame is lent, and none is lent where no frame is running.
abbrev pub FitsFrame : ℕ → Chain → Option Running → Type 0
FitsFrame painted chain None = is_lent chain ≡ false
FitsFrame painted chain (Some frame) = (is_lent chain ≡ true) × (frame.cut.w ≡ chain.w) × (frame.cut.h ≡ chain.h) × (painted < 2 ^ 63 + 2 ^ 26)

-- what is kept beside a stand: how many pixels were painted in all, which is below 2^63 when a frame starts, new pictures not counted
pub record FitsStand (painted : ℕ) (stand : Stand) : Type 0 where
  pub width : stand.chain.w ≤ 4096
  pub height : stand.chain.h ≤ 4096
  pub count : painted ≡ painted_by stand
  pub frame : FitsFrame painted stand.chain stand.frame

-- Outside what is stale and what is hidden each buffer shows what is painted, and so do the planes of the running frame.
pub record KeepsTo (paint : ℕ → ℕ → Argb) (hidden : ℤ → ℤ → Bool) (stand : Stand) : Type 0 where
  pub buffers : IsKept paint hidden stand.chain
  pub frame : IfSome stand.frame (Keeps paint hidden)

-- how many jobs of the running frame are drawn
abbrev pub drawn_of : Option Running → ℕ
drawn_of None = 0
drawn_of (Some frame) = length frame.done

-- how many are left
abbrev pub left_of : Option Running → ℕ
left_of None = 0
left_of (Some frame) = length frame.jobs

-- what the jobs of the running frame share
abbrev pub cut_of : Option Running → Option Cut
cut_of None = None
cut_of (Some frame) = Some frame.cut

-- At its end a frame adds no more painted pixels than it may cost, by any capture that its commands were cut from.
abbrev pub Costs : Stand → Stand → Type 0
Costs old new = IfSome old.frame (λ frame. (work : ℤ → ℤ → Bool) (capture : Capture) → IsCutOf work capture frame.cut → painted_by new ≤ painted_by old + frame_cost work capture)

-- A start of a frame of a capture, by a plan of these updates, turns what is kept to into what a full redraw of the capture
-- paints, if that follows on what was kept to.
abbrev pub KeepsByStart : Stand → Draft → Cut → Stand → Type 0
KeepsByStart old plan cut new = (updates : List Area) (hidden hidden' : ℤ → ℤ → Bool) (before : ℕ → ℕ → Argb) (capture : Capture)
    → IsPlanOf old.chain updates hidden' plan → IsCutOf (has_pixel plan.work) capture cut → KeepsTo before hidden old
    → Follows old.chain.w old.chain.h before hidden updates (paint capture) hidden' → KeepsTo (paint capture) hidden' new

-- What is kept to stays so.
abbrev pub KeepsOn : Stand → Stand → Type 0
KeepsOn old new = (paint : ℕ → ℕ → Argb) (hidden : ℤ → ℤ → Bool) → KeepsTo paint hidden old → KeepsTo paint hidden new
