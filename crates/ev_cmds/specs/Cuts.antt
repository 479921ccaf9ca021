-- What is painted on all tiles of a frame.
use Rattle.std.specs.Prelude.{◌≡◌, ℕ, ◌+◌, ◌*◌, ◌/◌, ◌%◌, ◌<◌, ◌≤◌, ℤ, pos, Bool, true, false, List, length, get_or, All}
use Rattle.ev_argb.specs.Argb.{clear}
use Rattle.ev_argb.specs.Grid.{side_of}
use Rattle.ev_geom.specs.Area.{holds}
use Rattle.ev_geom.specs.Tiles.{tiles_along, jobs_of}
use Rattle.ev_model.specs.Capture.{Capture}
use Rattle.ev_model.specs.Look.{Look}
use Rattle.ev_model.specs.Paint.{paint}
use Rattle.ev_cmds.specs.TileJobs.{IsPlaced, tiles_of}
use Rattle.ev_cmds.specs.Masks.{count_of}
use Rattle.ev_cmds.specs.Patches.{total}
use Rattle.ev_cmds.specs.Sheets.{Shows, IsSheetOn, put_all, patches_of}
use Rattle.ev_cmds.specs.declared.tile.TileCommands.{TileCommands}

-- a canvas of w by h, and what is painted on those of its tiles that are drawn
pub record Cut : Type 0 where
  pub w : ℕ
  pub h : ℕ
  pub jobs : List TileCommands

-- how many pixels may be painted on a tile: each place is cleared, and then painted once by each of 65,536 records
abbrev pub most_painted : ℕ
most_painted = 64 * 64 * (1 + 65536)

-- a sheet for a tile of a canvas of w by h, in its place, that doesn't paint too many pixels
pub record IsJobOn (w h : ℕ) (job : TileCommands) : Type 0 where
  pub placed : IsPlaced w h job
  pub sheet : IsSheetOn job.left job.top (side_of w (job.tile % tiles_along w)) (side_of h (job.tile / tiles_along w)) job.sheet
  pub few : count_of job.sheet.bare + total (patches_of job.sheet.commands.items) ≤ most_painted

pub record IsCut (cut : Cut) : Type 0 where
  pub width : cut.w ≤ 4096
  pub height : cut.h ≤ 4096
  pub jobs : All (IsJobOn cut.w cut.h) cut.jobs

-- Each tile that the work region meets is drawn, in the order of their numbers, and its commands paint there what these looks paint.
pub record IsCutOf (work : ℤ → ℤ → Bool) (capture : Capture) (cut : Cut) : Type 0 where
  pub width : cut.w ≡ capture.w
  pub height : cut.h ≡ capture.h
  pub tiles : tiles_of cut.jobs ≡ jobs_of work capture.w capture.h
  pub shows : All (λ job. Shows work capture.looks job.left job.top job.sheet.bare job.sheet.commands.items) cut.jobs

-- At each pixel of the work region, the commands of its tile paint what all records paint.
abbrev pub PaintsAll : (ℤ → ℤ → Bool) → Capture → Cut → Type 0
PaintsAll work capture cut = (k : ℕ) (d : TileCommands) (x y : ℕ) → k < length cut.jobs → x < 64 → y < 64 →
    work (pos ((get_or cut.jobs k d).left + x)) (pos ((get_or cut.jobs k d).top + y)) ≡ true →
    put_all (get_or cut.jobs k d).sheet.commands.items (get_or cut.jobs k d).left (get_or cut.jobs k d).top x y clear
    ≡ paint capture ((get_or cut.jobs k d).left + x) ((get_or cut.jobs k d).top + y)

-- Looks that don't come near a work region have no pixel in it.
abbrev pub Misses : (ℤ → ℤ → Bool) → (Look → Bool) → Type 0
Misses work comes_near = (l : Look) (x y : ℕ) → comes_near l ≡ false → work (pos x) (pos y) ≡ true → holds l.area (pos x) (pos y) ≡ false
