-- The tiles that a frame draws, and what is painted on them.
use Rattle.std.specs.Prelude.{◌≡◌, ℕ, ◌+◌, ◌*◌, ◌/◌, ◌%◌, ◌<◌, ◌≤◌, ℤ, pos, Bool, true, false, List, ◌∷◌, map, length, All, if◌then◌else◌, Option, Some, None, slice_index, ◌&&◌, ◌||◌, ◌==◌}
use Rattle.std.specs.List.{AllByRecursion}
use Rattle.ev_argb.specs.Grid.{side_of}
use Rattle.ev_geom.specs.Area.{Area, holds}
use Rattle.ev_geom.specs.Tiles.{tiles_along}
use Rattle.ev_region.specs.Count.{LiesWithin}
use Rattle.ev_model.specs.Capture.{IsLookOn}
use Rattle.ev_model.specs.Look.{Look, look_of}
use Rattle.ev_model.specs.declared.scene.Record.{Record}
use Rattle.ev_areas.specs.Edges.{has_pixel_at}
use Rattle.ev_cmds.specs.SeenEdges.{any_has}
use Rattle.ev_cmds.specs.Masks.{has_bit}
use Rattle.ev_cmds.specs.Patches.{lies}
use Rattle.ev_cmds.specs.Sheets.{Shows, Fits, IsPaintable}
use Rattle.ev_areas.specs.declared.edges.Edges.{Edges}
use Rattle.ev_cmds.specs.declared.table.Table.{Table}
use Rattle.ev_cmds.specs.declared.tile.TileCommands.{TileCommands}

-- a tile stands in its place on a canvas of w by h
pub record IsPlaced (w h : ℕ) (job : TileCommands) : Type 0 where
  pub left : job.left ≡ job.tile % tiles_along w * 64
  pub top : job.top ≡ job.tile / tiles_along w * 64
  pub within : job.tile < tiles_along h * tiles_along w

-- its commands paint, in the work region, what these looks paint, and fit its plane and their objects
pub record IsTileOf (work : ℤ → ℤ → Bool) (looks : List Look) (w h : ℕ) (job : TileCommands) : Type 0 where
  pub placed : IsPlaced w h job
  pub shows : Shows work looks job.left job.top job.sheet.bare job.sheet.commands.items
  pub fits : All (Fits job.left job.top (side_of w (job.tile % tiles_along w)) (side_of h (job.tile / tiles_along w))) job.sheet.commands.items

-- the numbers of their tiles
abbrev pub tiles_of : List TileCommands → List ℕ
tiles_of jobs = map (λ job. job.tile) jobs

-- the same for each tile, where the looks hang on the tile's number
abbrev pub AreTilesOf : (ℤ → ℤ → Bool) → (ℕ → List Look) → ℕ → ℕ → List TileCommands → Type 0
AreTilesOf work looks w h jobs = All (λ job. IsTileOf work (looks job.tile) w h job) jobs

-- A table of all n tiles of a canvas has 0 for a tile that isn't drawn, and for the others one more than the number of their job.
pub record IsTable (places : List ℕ) (n : ℕ) (tiles : List ℕ) : Type 0 where
  pub count : length places ≡ n
  pub at_job : (k : ℕ) → k < length tiles → (slice_index tiles k < n) × (slice_index places (slice_index tiles k) ≡ k + 1)
  pub at_tile : (t k : ℕ) → t < n → slice_index places t ≡ k + 1 → (k < length tiles) × (slice_index tiles k ≡ t)

-- no pixel of a set lies on the tile at this place
abbrev pub HasNone : (ℕ → ℕ → Bool) → ℕ → ℕ → Type 0
HasNone set left top = (x y : ℕ) → x < 64 → y < 64 → set (left + x) (top + y) ≡ false

-- one does
pub record HasOne (set : ℕ → ℕ → Bool) (left top : ℕ) : Type 0 where
  pub column : ℕ
  pub row : ℕ
  pub wide : column < 64
  pub tall : row < 64
  pub held : set (left + column) (top + row) ≡ true

abbrev pub IsMet : (ℕ → ℕ → Bool) → ℕ → ℕ → Bool → Type 0
IsMet set left top true = HasOne set left top
IsMet set left top false = HasNone set left top

-- the places of a tile that lie in a set, if there are any
abbrev pub IsBare : (ℕ → ℕ → Bool) → ℕ → ℕ → Option (List ℕ) → Type 0
IsBare set left top None = HasNone set left top
IsBare set left top (Some rows) = HasOne set left top × ((x y : ℕ) → x < 64 → y < 64 → has_bit rows x y ≡ set (left + x) (top + y))

-- all edges that have a pixel in these rows are near
abbrev pub AreNear : List Edges → ℕ → List Edges → Type 0
AreNear all top near = (x y : ℕ) → top ≤ y → y < top + 64 → any_has near x y ≡ any_has all x y

-- edges have only pixels of an area, and all of them that lie in the work region
pub record Clips (work : ℤ → ℤ → Bool) (w h : ℕ) (area : Area) (seen : Edges) : Type 0 where
  pub right : seen.right ≤ w
  pub bottom : seen.bottom ≤ h
  pub held : (x y : ℕ) → has_pixel_at seen x y ≡ true → holds area (pos x) (pos y) ≡ true
  pub whole : (x y : ℕ) → work (pos x) (pos y) ≡ true → holds area (pos x) (pos y) ≡ true → has_pixel_at seen x y ≡ true

-- what is known of a record that is taken in below these looks, of which only what lies between edges is looked at
pub record IsTaken (work : ℤ → ℤ → Bool) (looks : List Look) (w h : ℕ) (r : Record) (seen : Edges) : Type 0 where
  pub look : IsLookOn w h (look_of r)
  pub paintable : IsPaintable (look_of r)
  pub above : AllByRecursion IsPaintable looks
  pub clips : Clips work w h r.area seen

-- a tile took in a record
pub record TakesIn (r : Record) (seen : Edges) (old new : TileCommands) : Type 0 where
  pub tile : new.tile ≡ old.tile
  pub more : (work : ℤ → ℤ → Bool) (looks : List Look) (w h : ℕ) → w ≤ 4096 → h ≤ 4096 → IsTaken work looks w h r seen → IsTileOf work looks w h old → IsTileOf work (look_of r ∷ looks) w h new

-- the looks on a tile, which waits for a record to be taken in or has it already
abbrev pub taken_where : (ℕ → Bool) → Look → List Look → ℕ → List Look
taken_where waits l looks t = if waits t then looks else l ∷ looks

-- some tiles took in a record: those that waited for it and do no longer
pub record Moves (w h : ℕ) (r : Record) (seen : Edges) (waits waits' : ℕ → Bool) (old new : List TileCommands) : Type 0 where
  pub tiles : tiles_of new ≡ tiles_of old
  pub more : (work : ℤ → ℤ → Bool) (looks : List Look) → IsTaken work looks w h r seen
      → AreTilesOf work (taken_where waits (look_of r) looks) w h old → AreTilesOf work (taken_where waits' (look_of r) looks) w h new

-- a table of the tiles of a canvas, of which these are drawn
pub record IsTableOf (table : Table) (tiles : List ℕ) : Type 0 where
  pub width : table.w ≤ 4096
  pub height : table.h ≤ 4096
  pub columns : table.columns ≡ tiles_along table.w
  pub places : IsTable table.places.items (tiles_along table.h * tiles_along table.w) tiles
  pub few : length tiles ≤ 4096

-- the work region lies on the canvas and within the bounds
pub record Bounds (work : ℤ → ℤ → Bool) (table : Table) : Type 0 where
  pub canvas : LiesWithin table.w table.h work
  pub edges : (x y : ℕ) → work (pos x) (pos y) ≡ true → has_pixel_at table.bounds x y ≡ true

-- whether tile t has columns of these edges, and rows of them in the rows of tiles from `row` on
abbrev pub waits_from : ℕ → Edges → ℕ → ℕ → Bool
waits_from across e row t = lies (e.left / 64) (tiles_along e.right) (t % across) && lies row (tiles_along e.bottom) (t / across)

-- the same, where the tiles of this row before `column` don't count
abbrev pub waits_in : ℕ → Edges → ℕ → ℕ → ℕ → Bool
waits_in across e row column t = waits_from across e (row + 1) t || ((t / across == row) && lies column (tiles_along e.right) (t % across))

-- the tile of this number took in a record
pub record MovesTile (w h : ℕ) (r : Record) (seen : Edges) (tile : ℕ) (old new : List TileCommands) : Type 0 where
  pub tiles : tiles_of new ≡ tiles_of old
  pub more : (waits waits' : ℕ → Bool) → waits tile ≡ true → waits' tile ≡ false → ((t : ℕ) → (t ≡ tile → ⊥) → waits' t ≡ waits t) → (work : ℤ → ℤ → Bool) (looks : List Look) → IsTaken work looks w h r seen
      → AreTilesOf work (taken_where waits (look_of r) looks) w h old → AreTilesOf work (taken_where waits' (look_of r) looks) w h new

-- all tiles took in a record, which can be painted
pub record TakesAll (table : Table) (r : Record) (old new : List TileCommands) : Type 0 where
  pub tiles : tiles_of new ≡ tiles_of old
  pub paintable : IsPaintable (look_of r)
  pub more : (work : ℤ → ℤ → Bool) (looks : List Look) → Bounds work table → AllByRecursion IsPaintable looks
      → AreTilesOf work (λ t. looks) table.w table.h old → AreTilesOf work (λ t. look_of r ∷ looks) table.w table.h new
