-- Frames whose tiles are opened one after the other.
use Rattle.std.specs.Prelude.{◌≡◌, ℕ, ◌+◌, ◌*◌, ◌<◌, ◌≤◌, ℤ, pos, Bool, List, [], length, All, replicate, slice_set, ◌++◌, ◌∷◌}
use Rattle.std.specs.List.{filter, range_with_len, AllByRecursion}
use Rattle.ev_geom.specs.Tiles.{tiles_along, holds_tile, jobs_of}
use Rattle.ev_model.specs.Look.{Look}
use Rattle.ev_model.specs.declared.scene.Record.{Record}
use Rattle.ev_cmds.specs.SeenEdges.{any_has}
use Rattle.ev_cmds.specs.TileJobs.{IsTileOf, AreTilesOf, IsTable, IsTableOf, Bounds, TakesAll, tiles_of}
use Rattle.ev_cmds.specs.Sheets.{IsPaintable}
use Rattle.ev_areas.specs.declared.edges.Edges.{Edges}
use Rattle.ev_cmds.specs.declared.frame.Frame.{Frame}
use Rattle.ev_cmds.specs.declared.table.Table.{Table}
use Rattle.ev_cmds.specs.declared.tile.TileCommands.{TileCommands}

-- a table of a canvas that keeps its limits
pub record IsSized (table : Table) : Type 0 where
  pub width : table.w ≤ 4096
  pub height : table.h ≤ 4096
  pub columns : table.columns ≡ tiles_along table.w
  pub count : length table.places.items ≡ tiles_along table.h * tiles_along table.w

-- a table of no tile
pub record IsClosed (bounds : Edges) (w h : ℕ) (frame : Frame) : Type 0 where
  pub sized : IsSized frame.table
  pub width : frame.table.w ≡ w
  pub height : frame.table.h ≡ h
  pub bounds_kept : frame.table.bounds ≡ bounds
  pub places : frame.table.places.items ≡ replicate (tiles_along h * tiles_along w) 0
  pub jobs : frame.jobs.items ≡ []

-- the tiles below n that hold a pixel of the work region are jobs, in the order of their numbers, on which nothing is painted
pub record AreOpen (work : ℤ → ℤ → Bool) (n : ℕ) (frame : Frame) : Type 0 where
  pub tiles : tiles_of frame.jobs.items ≡ filter (holds_tile work (tiles_along frame.table.w)) (range_with_len 0 n)
  pub below : All (λ t. t < n) (tiles_of frame.jobs.items)
  pub few : length (tiles_of frame.jobs.items) ≤ n
  pub table : IsTable frame.table.places.items (tiles_along frame.table.h * tiles_along frame.table.w) (tiles_of frame.jobs.items)
  pub each : All (IsTileOf work [] frame.table.w frame.table.h) frame.jobs.items

-- a table for the same canvas
pub record IsLike (old new : Table) : Type 0 where
  pub width : new.w ≡ old.w
  pub height : new.h ≡ old.h
  pub columns : new.columns ≡ old.columns
  pub bounds : new.bounds ≡ old.bounds
  pub count : length new.places.items ≡ length old.places.items

-- a job is added for a tile on which these places are bare
pub record PushesJob (tile left top : ℕ) (bare : List ℕ) (old new : Frame) : Type 0 where
  pub like : IsLike old.table new.table
  pub job : TileCommands
  pub tile_is : job.tile ≡ tile
  pub left_is : job.left ≡ left
  pub top_is : job.top ≡ top
  pub bare_is : job.sheet.bare ≡ bare
  pub commands : job.sheet.commands.items ≡ []
  pub jobs : new.jobs.items ≡ old.jobs.items ++ job ∷ []
  pub places : new.table.places.items ≡ slice_set old.table.places.items tile (length (old.jobs.items ++ job ∷ []))

-- the tile in this column and row is opened
pub record OpensTile (near : List Edges) (row column : ℕ) (old new : Frame) : Type 0 where
  pub like : IsLike old.table new.table
  pub more : (work : ℤ → ℤ → Bool) → ((x y : ℕ) → x < 64 → y < 64 → any_has near (column * 64 + x) (row * 64 + y) ≡ work (pos (column * 64 + x)) (pos (row * 64 + y)))
      → AreOpen work (row * tiles_along old.table.w + column) old → AreOpen work (row * tiles_along old.table.w + column + 1) new

-- a row of tiles is opened
pub record OpensRow (near : List Edges) (row : ℕ) (old new : Frame) : Type 0 where
  pub like : IsLike old.table new.table
  pub more : (work : ℤ → ℤ → Bool) → ((x y : ℕ) → row * 64 ≤ y → y < row * 64 + 64 → any_has near x y ≡ work (pos x) (pos y))
      → AreOpen work (row * tiles_along old.table.w) old → AreOpen work ((row + 1) * tiles_along old.table.w) new

-- all tiles that hold a pixel of the work region are jobs
pub record IsOpened (work : ℤ → ℤ → Bool) (w h : ℕ) (frame : Frame) : Type 0 where
  pub sized : IsSized frame.table
  pub width : frame.table.w ≡ w
  pub height : frame.table.h ≡ h
  pub bounds : Bounds work frame.table
  pub tiles : tiles_of frame.jobs.items ≡ jobs_of work w h
  pub few : length (tiles_of frame.jobs.items) ≤ 4096
  pub table : IsTable frame.table.places.items (tiles_along h * tiles_along w) (tiles_of frame.jobs.items)
  pub each : All (IsTileOf work [] w h) frame.jobs.items

-- all tiles of a frame took in a record
pub record Takes (r : Record) (old new : Frame) : Type 0 where
  pub table : new.table ≡ old.table
  pub all : TakesAll old.table r old.jobs.items new.jobs.items

-- a frame that took in these looks, the lowest first, and all that lie above the first of them
pub record HasTaken (work : ℤ → ℤ → Bool) (looks : List Look) (w h : ℕ) (frame : Frame) : Type 0 where
  pub width : frame.table.w ≡ w
  pub height : frame.table.h ≡ h
  pub table : IsTableOf frame.table (tiles_of frame.jobs.items)
  pub bounds : Bounds work frame.table
  pub tiles : tiles_of frame.jobs.items ≡ jobs_of work w h
  pub paintable : AllByRecursion IsPaintable looks
  pub each : AreTilesOf work (λ t. looks) w h frame.jobs.items
