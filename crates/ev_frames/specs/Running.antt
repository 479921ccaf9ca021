-- A frame that is drawn job by job.
use Rattle.std.specs.Prelude.{◌≡◌, ℕ, ◌+◌, ◌*◌, ◌/◌, ◌%◌, ◌<◌, ◌≤◌, suc, Bool, true, false, ◌||◌, List, [], ◌∷◌, length, slice_index, sum_by, take, ℤ, All, None}
use Rattle.std.specs.List.{AllByRecursion}
use Rattle.ev_argb.specs.Argb.{Argb}
use Rattle.ev_argb.specs.Tile.{Tile}
use Rattle.ev_argb.specs.Grid.{Grid, HasSizeOf, across, plane_of}
use Rattle.ev_geom.specs.Tiles.{jobs_of, tiles_along}
use Rattle.ev_model.specs.Capture.{Capture}
use Rattle.ev_model.specs.Paint as model
use Rattle.ev_cmds.specs.Cuts.{Cut, IsCutOf, most_painted}
use Rattle.ev_cmds.specs.TileJobs.{tiles_of}
use Rattle.ev_cmds.specs.Sheets.{cost}
use Rattle.ev_draw.specs.DrawnTiles.{Job}
use Rattle.ev_buffers.specs.BufferChain.{Lent}
use Rattle.ev_buffers.specs.Kept.{ShowsDone, TileShows}

-- The commands of its tiles, the buffer that it is drawn on, the jobs that nobody drew yet, the last one first, and the planes that
-- were drawn, in the order of their jobs. `lent` pixels counted as painted on its planes when they went out.
pub record Running : Type 0 where
  pub cut : Cut
  pub loan : Lent
  pub jobs : List Job
  pub done : List Tile
  pub lent : ℕ

-- each number is below those behind it
abbrev pub AreRising : List ℕ → Type 0
AreRising [] = Unit {0}
AreRising (t ∷ ts) = All (λ u. t < u) ts × AreRising ts

-- the k-th job of these commands, with a plane of its tile
pub record IsJobOf (cut : Cut) (tiles : List ℕ) (k : ℕ) (job : Job) : Type 0 where
  pub commands : job.cut ≡ cut
  pub number : job.k ≡ k
  pub size : HasSizeOf cut.w cut.h (slice_index tiles k) job.plane

-- these jobs are left, the last one first, where the first so many are gone
abbrev pub AreLeft : Cut → List ℕ → ℕ → List Job → Type 0
AreLeft cut tiles gone [] = Unit {0}
AreLeft cut tiles gone (job ∷ jobs) = IsJobOf cut tiles (gone + length jobs) job × AreLeft cut tiles gone jobs

-- this holds of each of the planes, which are counted from a number on
abbrev pub EachFrom : (ℕ → Tile → Type 0) → ℕ → List Tile → Type 0
EachFrom holds first [] = Unit {0}
EachFrom holds first (plane ∷ planes) = holds first plane × EachFrom holds (suc first) planes

-- a plane of the k-th job has the size of its tile
abbrev pub IsSizedAt : ℕ → ℕ → List ℕ → ℕ → Tile → Type 0
IsSizedAt w h tiles k plane = HasSizeOf w h (slice_index tiles k) plane

-- one of the tiles of these places
pub record IsAmong (from to : ℕ) (tiles : List ℕ) (t : ℕ) : Type 0 where
  pub place : ℕ
  pub low : from ≤ place
  pub high : place < to
  pub is : slice_index tiles place ≡ t

-- of a picture the planes of the tiles from one place to another are out, and no others
pub record AreOut (from to : ℕ) (tiles : List ℕ) (picture : Grid) : Type 0 where
  pub out : (k : ℕ) → from ≤ k → k < to → plane_of picture (slice_index tiles k) ≡ None
  pub others : (t : ℕ) → t < length picture.tiles → plane_of picture t ≡ None → IsAmong from to tiles t

-- how many pixels count as painted on planes, and on those of jobs
abbrev pub painted_on : List Tile → ℕ
painted_on planes = sum_by (λ plane. plane.painted) planes

abbrev pub painted_left : List Job → ℕ
painted_left jobs = sum_by (λ job. job.plane.painted) jobs

-- how many pixels may be painted on tile t of a capture in a work region
abbrev pub tile_cost : (ℤ → ℤ → Bool) → Capture → ℕ → ℕ
tile_cost work capture t = cost work capture.looks (t % tiles_along capture.w * 64) (t / tiles_along capture.w * 64)

-- how many on these tiles
abbrev pub tiles_cost : (ℤ → ℤ → Bool) → Capture → List ℕ → ℕ
tiles_cost work capture tiles = sum_by (tile_cost work capture) tiles

-- how many in a frame of the capture, which draws each tile that the work region meets
abbrev pub frame_cost : (ℤ → ℤ → Bool) → Capture → ℕ
frame_cost work capture = tiles_cost work capture (jobs_of work capture.w capture.h)

-- Each plane that is out is in one job or was drawn, and stands there by its number. The picture has the size of the canvas.
pub record IsRunning (frame : Running) : Type 0 where
  pub width : frame.loan.picture.w ≡ frame.cut.w
  pub height : frame.loan.picture.h ≡ frame.cut.h
  pub planes : length frame.loan.picture.tiles ≡ across frame.cut.h * across frame.cut.w
  pub tiles : tiles_of frame.cut.jobs ≡ frame.loan.tiles
  pub rising : AreRising frame.loan.tiles
  pub within : All (λ t. t < length frame.loan.picture.tiles) frame.loan.tiles
  pub few : length frame.loan.tiles ≤ 4096
  pub all : length frame.done + length frame.jobs ≡ length frame.loan.tiles
  pub left : AreLeft frame.cut frame.loan.tiles (length frame.done) frame.jobs
  pub drawn : EachFrom (IsSizedAt frame.cut.w frame.cut.h frame.loan.tiles) 0 frame.done
  pub out : AreOut 0 (length frame.loan.tiles) frame.loan.tiles frame.loan.picture
  pub count : painted_on frame.done + painted_left frame.jobs ≤ frame.lent + length frame.done * most_painted
  pub costs : (work : ℤ → ℤ → Bool) (capture : Capture) → IsCutOf work capture frame.cut
      → painted_on frame.done + painted_left frame.jobs ≤ frame.lent + tiles_cost work capture (take (length frame.done) frame.loan.tiles)

-- The commands draw in a work region what is painted: a capture, as the model paints it.
pub record AreFor (paint : ℕ → ℕ → Argb) (work : ℤ → ℤ → Bool) (cut : Cut) : Type 0 where
  pub capture : Capture
  pub is : IsCutOf work capture cut
  pub painted : (x y : ℕ) → model.paint capture x y ≡ paint x y

-- a job's plane shows what is painted where this doesn't hold
abbrev pub JobShows : ℕ → ℕ → (ℕ → ℕ → Argb) → (ℤ → ℤ → Bool) → List ℕ → Job → Type 0
JobShows w h paint differs tiles job = TileShows w h paint differs (slice_index tiles job.k) job.plane

-- the plane of the k-th job, once it was drawn, shows what is painted where nothing is hidden
abbrev pub IsShownAt : ℕ → ℕ → (ℕ → ℕ → Argb) → (ℤ → ℤ → Bool) → List ℕ → ℕ → Tile → Type 0
IsShownAt w h paint hidden tiles k plane = TileShows w h paint hidden (slice_index tiles k) plane

-- What is drawn is what is painted. The planes that are at home and those of the jobs show it outside the work region and the
-- hidden pixels, and those that were drawn wherever nothing is hidden.
pub record Keeps (paint : ℕ → ℕ → Argb) (hidden : ℤ → ℤ → Bool) (frame : Running) : Type 0 where
  pub work : ℤ → ℤ → Bool
  pub draws : AreFor paint work frame.cut
  pub home : ShowsDone frame.cut.w frame.cut.h paint work hidden (λ t. false) frame.loan.picture
  pub jobs : AllByRecursion (JobShows frame.cut.w frame.cut.h paint (λ x y. work x y || hidden x y) frame.loan.tiles) frame.jobs
  pub done : EachFrom (IsShownAt frame.cut.w frame.cut.h paint hidden frame.loan.tiles) 0 frame.done

-- A picture that was lent for the frame, with all planes at home, shows what is painted outside the work region and the hidden pixels.
pub record Lends (paint : ℕ → ℕ → Argb) (hidden : ℤ → ℤ → Bool) (cut : Cut) (loan : Lent) : Type 0 where
  pub work : ℤ → ℤ → Bool
  pub draws : AreFor paint work cut
  pub home : ShowsDone cut.w cut.h paint work hidden (λ t. false) loan.picture

-- The picture once all jobs were drawn and their planes put back: all that isn't hidden was drawn.
pub record Returns (paint : ℕ → ℕ → Argb) (hidden : ℤ → ℤ → Bool) (cut : Cut) (loan : Lent) : Type 0 where
  pub work : ℤ → ℤ → Bool
  pub draws : AreFor paint work cut
  pub drawn : ℕ → Bool
  pub all : (k : ℕ) → k < length loan.tiles → drawn (slice_index loan.tiles k) ≡ true
  pub shows : ShowsDone cut.w cut.h paint work hidden drawn loan.picture

-- Commands for some capture of a canvas of w by h, in a work region.
pub record AreOn (w h : ℕ) (work : ℤ → ℤ → Bool) (cut : Cut) : Type 0 where
  pub capture : Capture
  pub is : IsCutOf work capture cut
  pub width : capture.w ≡ w
  pub height : capture.h ≡ h
