-- The newest start of a canvas, and the buffers on which its frame is drawn. No public clause cites what stands here.
use Rattle.std.specs.Prelude.{◌≡◌, ℕ, ◌+◌, ◌-◌, ◌*◌, ◌<◌, ◌≤◌, ◌^◌, Bool, true, false, not, ◌&&◌, ℤ, List, [], ◌∷◌, ◌++◌, length, take, drop, Option, Some, None, IfSome, IsSome, is_some, option_map, option_to_list, if◌then◌else◌}
use Rattle.ev_argb.specs.Argb.{Argb}
use Rattle.ev_geom.specs.Area.{Area}
use Rattle.ev_geom.specs.Bands.{has_pixel, IsBandsOf}
use Rattle.ev_region.specs.Count.{LiesWithin}
use Rattle.ev_model.specs.Capture.{Capture, capture_of}
use Rattle.ev_model.specs.Paint.{paint}
use Rattle.ev_model.specs.Stage.{stage}
use Rattle.ev_buffers.specs.BufferChain.{last_updates}
use Rattle.ev_buffers.specs.Kept.{Follows}
use Rattle.ev_buffers.specs.Marks.{is_unused, IsNextOf}
use Rattle.ev_buffers.specs.declared.mark.Mark.{Mark}
use Rattle.ev_damage.specs.Places.{HaveOwnIds}
use Rattle.ev_cmds.specs.Cuts.{most_painted}
use Rattle.ev_frames.specs.Stand.{Stand, KeepsTo, KeepsOn, drawn_of, left_of, painted_by}
use Rattle.ev_canvas.specs.Starts.{Entry, Latest, OwesAll, is_running, has_size_of, repairs, tiles_in, pixels_opened}
use Rattle.ev_canvas.specs.CanvasFrames.{Frames, drawn_by, missed_for, runs}
use Rattle.ev_canvas.specs.declared.begun.Begun.{Begun}
use Rattle.ev_canvas.specs.declared.drawing.Drawing.{Drawing}
use Rattle.ev_canvas.specs.declared.newest.Drawn.{Drawn}
use Rattle.ev_canvas.specs.declared.newest.End.{End}
use Rattle.ev_canvas.specs.declared.newest.End.TheVariants as end
use Rattle.ev_canvas.specs.declared.newest.Newest.{Newest}

-- ---- how the fields of the code are seen

-- what was captured
abbrev pub captured : Newest → Capture
captured n = capture_of (stage n.shot.scene)

abbrev pub entry_of : Newest → Entry
entry_of n = record { number = n.number; capture = captured n; owed = n.owed; hidden = n.hidden; updates = n.updates; tiles = n.tiles }

abbrev pub latest_of : Newest → Latest
latest_of n = record { entry = entry_of n; end = n.end }

abbrev pub latest_in : Drawing → Option Latest
latest_in d = option_map latest_of d.newest

-- what was updated by the plans that were lent on some buffers, the newest first
abbrev pub updates_in : List Mark → List (List Area)
updates_in [] = []
updates_in (mark ∷ marks) = updates_in marks ++ option_to_list mark.updates

-- how many jobs of the running frame are drawn
abbrev pub own_of : Option Newest → ℕ
own_of None = 0
own_of (Some n) = drawn_of n.easel.frame

-- and how many are left
abbrev pub jobs_left : Option Newest → ℕ
jobs_left None = 0
jobs_left (Some n) = left_of n.easel.frame

-- what the next buffer has missed
abbrev pub missed_of : Option Newest → List (List Area)
missed_of None = []
missed_of (Some n) = updates_in (drop 1 n.easel.chain.marks)

-- how many pixels were painted on all buffers
abbrev pub painted_of : Option Newest → ℕ
painted_of None = 0
painted_of (Some n) = painted_by n.easel

-- what was drawn last: by the newest start, unless there is none or its frame is running
abbrev pub last_drawn : Option Newest → Drawn → Drawn
last_drawn None before = before
last_drawn (Some n) before = if is_running n.end then before else drawn_by (Some (latest_of n))

abbrev pub frames_of : List Area → List Area → Drawing → Frames
frames_of given areas d = record {
  given = given;
  areas = areas;
  newest = latest_in d;
  own = own_of d.newest;
  missed = missed_of d.newest;
  drawn = last_drawn d.newest d.before;
}

-- ---- what always holds of them

-- on each of these buffers something was drawn
abbrev pub AreUsed : List Mark → Type 0
AreUsed [] = Unit {0}
AreUsed (mark ∷ later) = (is_unused mark.updates ≡ false) × AreUsed later

-- buffers on which nothing was drawn yet are lent before all others
abbrev pub AreUsedLast : List Mark → Type 0
AreUsedLast [] = Unit {0}
AreUsedLast (mark ∷ later) = (is_unused mark.updates ≡ false → AreUsed later) × AreUsedLast later

-- The newest start and its buffers, of which there are so many. They have the size of its scene, and were updated by it last. A frame is
-- running on one of them exactly where that of the start is, with a job for each tile. Outside what is stale and what is hidden each
-- shows a full redraw of the scene, whose ids differ. What is owed and hidden lies on its canvas.
pub record IsNewest (buffers : ℕ) (n : Newest) : Type 0 where
  pub width : n.easel.chain.w ≡ n.shot.scene.w
  pub height : n.easel.chain.h ≡ n.shot.scene.h
  pub count : length n.easel.chain.marks ≡ buffers
  pub running : is_running n.end ≡ is_some n.easel.frame
  pub jobs : is_running n.end ≡ true → drawn_of n.easel.frame + left_of n.easel.frame ≡ n.tiles
  pub used : is_some (last_updates n.easel.chain.marks) ≡ true
  pub used_last : AreUsedLast n.easel.chain.marks
  pub apart : HaveOwnIds (captured n).looks
  pub owed : LiesWithin n.shot.scene.w n.shot.scene.h (has_pixel n.owed)
  pub hidden : LiesWithin n.shot.scene.w n.shot.scene.h (has_pixel n.hidden)
  pub kept : KeepsTo (paint (captured n)) (has_pixel n.hidden) n.easel

-- there are one to three buffers, and before the first start nothing was drawn
pub record IsDrawing (buffers : ℕ) (d : Drawing) : Type 0 where
  pub some : 1 ≤ buffers
  pub few : buffers ≤ 3
  pub newest : IfSome d.newest (IsNewest buffers)
  pub first : d.newest ≡ None → d.before ≡ drawn_by None

-- ---- starts

-- what a start captured
abbrev pub capture_in : Begun → Capture
capture_in b = capture_of (stage b.shot.scene)

-- its entry, once it is known how many tiles its frame draws
abbrev pub entry_by : Begun → ℕ → Entry
entry_by b tiles = record { number = b.number; capture = capture_in b; owed = b.owed; hidden = b.hidden; updates = b.updates; tiles = tiles }

-- the start, once its frame was set up on one of these buffers
abbrev pub newest_by : Begun → ℕ → Stand → Newest
newest_by b tiles easel = record {
  number = b.number;
  shot = b.shot;
  owed = b.owed;
  hidden = b.hidden;
  updates = b.updates;
  tiles = tiles;
  end = end.Running;
  easel = easel;
}

-- outside what a start updates and hides the one before hid nothing, and the same is painted; where the size is another, all is owed
abbrev pub FollowsIf : Bool → Newest → Begun → Type 0
FollowsIf true n b = Follows b.shot.scene.w b.shot.scene.h (paint (captured n)) (has_pixel n.hidden) b.updates (paint (capture_in b)) (has_pixel b.hidden)
FollowsIf false n b = OwesAll (capture_in b) b.owed

abbrev pub FollowsOn : Option Newest → Begun → Type 0
FollowsOn None b = OwesAll (capture_in b) b.owed
FollowsOn (Some n) b = FollowsIf (has_size_of (captured n) (capture_in b)) n b

-- whether the newest start has the size of this one
abbrev pub keeps_size : Option Newest → Begun → Bool
keeps_size None b = false
keeps_size (Some n) b = has_size_of (captured n) (capture_in b)

-- A start whose frame can be drawn: its canvas keeps its limits, its ids differ, it updates what it owes and isn't hidden, on its canvas, and follows on the newest one.
pub record IsBegun (newest : Option Newest) (b : Begun) : Type 0 where
  pub wide : b.shot.scene.w ≤ 4096
  pub high : b.shot.scene.h ≤ 4096
  pub apart : HaveOwnIds (capture_in b).looks
  pub owed : LiesWithin b.shot.scene.w b.shot.scene.h (has_pixel b.owed)
  pub hidden : LiesWithin b.shot.scene.w b.shot.scene.h (has_pixel b.hidden)
  pub updates : IsBandsOf (λ x y. has_pixel b.owed x y && not (has_pixel b.hidden x y)) b.updates
  pub follows : FollowsOn newest b

-- its frame was set up on the next of some buffers, and draws so many tiles
pub record IsSetUp (b : Begun) (old : Stand) (tiles : ℕ) (new : Stand) : Type 0 where
  pub width : new.chain.w ≡ old.chain.w
  pub height : new.chain.h ≡ old.chain.h
  pub marks : IsNextOf b.updates (drop 1 old.chain.marks) new.chain.marks
  pub running : IsSome new.frame
  pub none_drawn : drawn_of new.frame ≡ 0
  pub left : left_of new.frame ≡ tiles
  pub painted : painted_by new ≡ painted_by old
  pub keeps : (hidden : ℤ → ℤ → Bool) (before : ℕ → ℕ → Argb) → KeepsTo before hidden old
      → Follows old.chain.w old.chain.h before hidden b.updates (paint (capture_in b)) (has_pixel b.hidden)
      → KeepsTo (paint (capture_in b)) (has_pixel b.hidden) new × (tiles ≡ tiles_in (capture_in b) (repairs (b.updates ∷ updates_in (drop 1 old.chain.marks)) b.hidden))

-- a start stands as the newest from now on, with its frame running and no job drawn; before it stands what was drawn last
pub record StandsNow (buffers : ℕ) (old : Drawing) (b : Begun) (tiles : ℕ) (new : Drawing) : Type 0 where
  pub newest : latest_in new ≡ Some (record { entry = entry_by b tiles; end = end.Running })
  pub count : tiles ≡ tiles_in (capture_in b) (repairs (b.updates ∷ missed_for (latest_in old) (capture_in b) (missed_of old.newest)) b.hidden)
  pub own : own_of new.newest ≡ 0
  pub missed : missed_of new.newest ≡ take (buffers - 1) (b.updates ∷ missed_for (latest_in old) (capture_in b) (missed_of old.newest))
  pub drawn : last_drawn new.newest new.before ≡ last_drawn old.newest old.before
  pub painted : painted_of new.newest ≡ painted_of old.newest + pixels_opened buffers (latest_in old) (capture_in b)

-- ---- steps and flushes

-- so many more jobs of the running frame are drawn
pub record StepsOn (old : Drawing) (drawn : ℕ) (new : Drawing) : Type 0 where
  pub newest : latest_in new ≡ latest_in old
  pub own : own_of new.newest ≡ own_of old.newest + drawn
  pub missed : missed_of new.newest ≡ missed_of old.newest
  pub drawn_last : last_drawn new.newest new.before ≡ last_drawn old.newest old.before
  pub painted : painted_of new.newest ≡ painted_of old.newest

-- the frame of the newest start is running, and all its jobs are drawn
pub record IsDrawnWhole (n : Newest) : Type 0 where
  pub running : IsSome n.easel.frame
  pub none_left : left_of n.easel.frame ≡ 0
  pub width : n.easel.chain.w ≡ n.shot.scene.w
  pub height : n.easel.chain.h ≡ n.shot.scene.h
  pub used : is_some (last_updates n.easel.chain.marks) ≡ true
  pub kept : KeepsTo (paint (captured n)) (has_pixel n.hidden) n.easel

-- it has ended
pub record IsDone (n : Newest) : Type 0 where
  pub idle : n.easel.frame ≡ None
  pub width : n.easel.chain.w ≡ n.shot.scene.w
  pub height : n.easel.chain.h ≡ n.shot.scene.h
  pub used : is_some (last_updates n.easel.chain.marks) ≡ true
  pub kept : KeepsTo (paint (captured n)) (has_pixel n.hidden) n.easel

-- it ends so, and its buffer is given back
pub record FlushesTo (old : Newest) (e : End) (new : Newest) : Type 0 where
  pub alone : new ≡ record old { end = e; easel = new.easel }
  pub idle : new.easel.frame ≡ None
  pub width : new.easel.chain.w ≡ old.easel.chain.w
  pub height : new.easel.chain.h ≡ old.easel.chain.h
  pub marks : new.easel.chain.marks ≡ old.easel.chain.marks
  pub painted : painted_by new.easel ≤ painted_by old.easel + 4096 * most_painted
  pub kept : KeepsOn old.easel new.easel
