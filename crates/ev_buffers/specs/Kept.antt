-- Buffers against what is to be seen: a function `paint` from places to pixels. Outside its stale
-- region and the hidden pixels each buffer shows it.
use Rattle.std.specs.Prelude.{◌≡◌, ℕ, ◌*◌, ◌<◌, ◌%◌, replicate, Bool, true, false, ◌||◌, ◌&&◌, not, List, [], ◌∷◌, drop, ℤ, pos, Option, Some, None, length, All, eqb, slice_index}
use Rattle.ev_argb.specs.Argb.{Argb}
use Rattle.ev_argb.specs.Tile.{Tile, tile_at}
use Rattle.ev_argb.specs.Grid.{Grid, tile_of, plane_of, pixel_at, blank_grid}
use Rattle.ev_geom.specs.Area.{Area}
use Rattle.ev_geom.specs.Bands.{has_pixel}
use Rattle.ev_geom.specs.Tiles.{jobs_of}
use Rattle.ev_buffers.specs.declared.mark.Mark.{Mark}
use Rattle.ev_buffers.specs.Marks.{updated, is_unused, in_picture}
use Rattle.ev_buffers.specs.BufferChain.{Chain, Draft, Lent, is_lent, painted_on_all, IsPlanOf, AreUnused}

-- whether a plane is at home
abbrev pub is_there : Option Tile → Bool
is_there None = false
is_there (Some tile) = true

-- whether the plane that has the pixel at x, y is at home
abbrev pub is_home : Grid → ℕ → ℕ → Bool
is_home picture x y = is_there (plane_of picture (tile_of picture.w x y))

-- each pixel at home is as painted, unless it may differ
pub record Shows (w h : ℕ) (paint : ℕ → ℕ → Argb) (differs : ℤ → ℤ → Bool) (picture : Grid) : Type 0 where
  pub pixels : (x y : ℕ) → x < w → y < h → is_home picture x y ≡ true → differs (pos x) (pos y) ≡ false → pixel_at picture x y ≡ paint x y

-- the picture shows what is painted, or is lent
abbrev pub ShowsAtHome : ℕ → ℕ → (ℕ → ℕ → Argb) → (ℤ → ℤ → Bool) → Option Grid → Type 0
ShowsAtHome w h paint differs None = Unit {0}
ShowsAtHome w h paint differs (Some picture) = Shows w h paint differs picture

-- each picture shows what is painted where it isn't stale and nothing is hidden
abbrev pub AllShow : ℕ → ℕ → (ℕ → ℕ → Argb) → (ℤ → ℤ → Bool) → List (Option Grid) → List Mark → Type 0
AllShow w h paint hidden [] [] = Unit {0}
AllShow w h paint hidden [] (mark ∷ marks) = ⊥
AllShow w h paint hidden (picture ∷ pictures) [] = ⊥
AllShow w h paint hidden (picture ∷ pictures) (mark ∷ marks) =
    ShowsAtHome w h paint (λ x y. has_pixel mark.stale x y || hidden x y) picture × AllShow w h paint hidden pictures marks

-- For a buffer on which nothing was drawn, the updates since then cover all that isn't hidden.
abbrev pub IsCovered : ℕ → ℕ → (ℤ → ℤ → Bool) → List Mark → Type 0
IsCovered w h hidden [] = Unit {0}
IsCovered w h hidden (mark ∷ later) =
    (is_unused mark.updates ≡ true → (x y : ℕ) → x < w → y < h → hidden (pos x) (pos y) ≡ false → updated later (pos x) (pos y) ≡ true)
    × IsCovered w h hidden later

-- the buffers keep to what is painted
pub record IsKept (paint : ℕ → ℕ → Argb) (hidden : ℤ → ℤ → Bool) (chain : Chain) : Type 0 where
  pub pixels : AllShow chain.w chain.h paint hidden chain.pictures chain.marks
  pub covered : IsCovered chain.w chain.h hidden chain.marks

-- The picture shows all that the buffers keep to.
abbrev pub ShowsLast : Chain → Grid → Type 0
ShowsLast chain picture = (paint : ℕ → ℕ → Argb) (hidden : ℤ → ℤ → Bool) → IsKept paint hidden chain → Shows chain.w chain.h paint hidden picture

-- Outside the updates and what is hidden now, nothing was hidden before and the same is painted.
pub record Follows (w h : ℕ) (paint : ℕ → ℕ → Argb) (hidden : ℤ → ℤ → Bool) (updates : List Area) (paint' : ℕ → ℕ → Argb) (hidden' : ℤ → ℤ → Bool) : Type 0 where
  pub pixels : (x y : ℕ) → x < w → y < h → has_pixel updates (pos x) (pos y) ≡ false → hidden' (pos x) (pos y) ≡ false → (hidden (pos x) (pos y) ≡ false) × (paint x y ≡ paint' x y)

-- The work region is what this plan and those since the next buffer's last use updated, without what is hidden.
abbrev pub Repairs : Chain → List Area → (ℤ → ℤ → Bool) → Draft → Type 0
Repairs chain updates hidden' plan = (hidden : ℤ → ℤ → Bool) (paint paint' : ℕ → ℕ → Argb) → IsKept paint hidden chain → Follows chain.w chain.h paint hidden updates paint' hidden'
    → (x y : ℤ) → has_pixel plan.work x y ≡ ((updated (drop 1 chain.marks) x y || has_pixel updates x y) && not (hidden' x y))

-- a plane in the place of tile t shows what is painted where nothing is hidden
pub record TileShows (w h : ℕ) (paint : ℕ → ℕ → Argb) (hidden : ℤ → ℤ → Bool) (t : ℕ) (plane : Tile) : Type 0 where
  pub pixels : (x y : ℕ) → x < w → y < h → tile_of w x y ≡ t → hidden (pos x) (pos y) ≡ false → tile_at plane (x % 64) (y % 64) ≡ paint x y

-- The planes at home show what is painted: those of done tiles wherever nothing is hidden, the others outside the work region.
pub record ShowsDone (w h : ℕ) (paint : ℕ → ℕ → Argb) (work hidden : ℤ → ℤ → Bool) (done : ℕ → Bool) (picture : Grid) : Type 0 where
  pub pixels : (x y : ℕ) → x < w → y < h → is_home picture x y ≡ true → hidden (pos x) (pos y) ≡ false
      → (work (pos x) (pos y) && not (done (tile_of w x y))) ≡ false → pixel_at picture x y ≡ paint x y

-- a plane that shows what is painted outside the work region and the hidden pixels
abbrev pub PlaneShows : ℕ → ℕ → (ℕ → ℕ → Argb) → (ℤ → ℤ → Bool) → ℕ → Option Tile → Type 0
PlaneShows w h paint differs t None = Unit {0}
PlaneShows w h paint differs t (Some plane) = TileShows w h paint differs t plane

-- Lending keeps the buffers to what is painted now, and the lent picture shows it, with no job done.
abbrev pub KeepsByLending : Chain → Draft → Chain → Lent → Type 0
KeepsByLending old plan new loan = (updates : List Area) (hidden hidden' : ℤ → ℤ → Bool) (paint paint' : ℕ → ℕ → Argb) → IsPlanOf old updates hidden' plan → IsKept paint hidden old
    → Follows old.w old.h paint hidden updates paint' hidden' → IsKept paint' hidden' new × ShowsDone old.w old.h paint' (has_pixel plan.work) hidden' (λ t. false) loan.picture

-- Giving back a picture that shows what is painted outside the hidden pixels keeps the buffers to it.
abbrev pub KeepsByReturn : Chain → Grid → Chain → Type 0
KeepsByReturn old picture new = (hidden : ℤ → ℤ → Bool) (paint : ℕ → ℕ → Argb) → IsKept paint hidden old → Shows old.w old.h paint hidden picture → IsKept paint hidden new

-- Taking a plane of a job that isn't done leaves the others as they are, and tells what it shows.
abbrev pub KeepsByTaking : Lent → ℕ → Option Tile → Lent → Type 0
KeepsByTaking old k plane new = (paint : ℕ → ℕ → Argb) (work hidden : ℤ → ℤ → Bool) (done : ℕ → Bool) → ShowsDone old.picture.w old.picture.h paint work hidden done old.picture
    → ShowsDone old.picture.w old.picture.h paint work hidden done new.picture × PlaneShows old.picture.w old.picture.h paint (λ x y. work x y || hidden x y) (slice_index old.tiles k) plane

-- Putting back a plane that shows what is painted wherever nothing is hidden makes its tile done.
abbrev pub KeepsByPutting : Lent → ℕ → Tile → Lent → Type 0
KeepsByPutting old k plane new = (paint : ℕ → ℕ → Argb) (work hidden : ℤ → ℤ → Bool) (done : ℕ → Bool) → ShowsDone old.picture.w old.picture.h paint work hidden done old.picture
    → TileShows old.picture.w old.picture.h paint hidden (slice_index old.tiles k) plane
    → ShowsDone old.picture.w old.picture.h paint work hidden (λ t. done t || eqb t (slice_index old.tiles k)) new.picture

-- Giving back a picture of which all jobs are done keeps the buffers to what is painted.
abbrev pub KeepsWhenDone : Chain → Lent → Chain → Type 0
KeepsWhenDone old loan new = (hidden work : ℤ → ℤ → Bool) (paint : ℕ → ℕ → Argb) (done : ℕ → Bool) → IsKept paint hidden old → loan.tiles ≡ jobs_of work old.w old.h
    → ShowsDone old.w old.h paint work hidden done loan.picture → All (λ t. done t ≡ true) loan.tiles → IsKept paint hidden new

-- all pixels
abbrev pub everywhere : ℤ → ℤ → Bool
everywhere x y = true

-- new buffers, of which all is stale; they keep to anything while all is hidden
pub record IsNew (n w h : ℕ) (chain : Chain) : Type 0 where
  pub width : chain.w ≡ w
  pub height : chain.h ≡ h
  pub pictures : chain.pictures ≡ replicate n (Some (blank_grid w h))
  pub count : length chain.marks ≡ n
  pub marks : AreUnused (in_picture w h) chain.marks
  pub home : is_lent chain ≡ false
  pub painted : painted_on_all chain ≡ n * (w * h)
  pub kept : (paint : ℕ → ℕ → Argb) → IsKept paint everywhere chain
