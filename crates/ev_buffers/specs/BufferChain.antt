-- Buffers that are drawn in turn. The one that is lent next stands first, and the one that was lent
-- last stands at the end.
use Rattle.std.specs.Prelude.{◌≡◌, ℕ, ◌-◌, ◌*◌, ◌<◌, ◌≤◌, Bool, true, false, ◌||◌, ◌&&◌, not, List, [], ◌∷◌, ◌++◌, length, drop, slice_set, All, sum_by, ℤ, Option, Some, None}
use Rattle.ev_argb.specs.Grid.{Grid, IsWhole, across, painted_of}
use Rattle.ev_geom.specs.Area.{Area}
use Rattle.ev_geom.specs.Bands.{has_pixel, IsBandsOf}
use Rattle.ev_geom.specs.Tiles.{jobs_of}
use Rattle.ev_region.specs.Count.{LiesWithin}
use Rattle.ev_buffers.specs.declared.mark.Mark.{Mark}
use Rattle.ev_buffers.specs.Marks.{AreWithin, IsStaleSince, IsNextOf}

-- the buffers' size, their pictures, of which the last may be lent, and what is kept beside each
pub record Chain : Type 0 where
  pub w : ℕ
  pub h : ℕ
  pub pictures : List (Option Grid)
  pub marks : List Mark

-- the pixels that the next frame has to draw, the marks once it is lent, and the tiles that it meets
pub record Draft : Type 0 where
  pub work : List Area
  pub marks : List Mark
  pub tiles : List ℕ

-- a lent picture, and the tiles of its jobs
pub record Lent : Type 0 where
  pub picture : Grid
  pub tiles : List ℕ

-- the last of the pictures, if it is at home
abbrev pub last_picture : List (Option Grid) → Option Grid
last_picture [] = None
last_picture (picture ∷ []) = picture
last_picture (picture ∷ (next ∷ pictures)) = last_picture (next ∷ pictures)

-- what the plan updated that was lent last, if any was
abbrev pub last_updates : List Mark → Option (List Area)
last_updates [] = None
last_updates (mark ∷ []) = mark.updates
last_updates (mark ∷ (next ∷ marks)) = last_updates (next ∷ marks)

-- the picture, if something was drawn
abbrev pub once_drawn : Option (List Area) → Option Grid → Option Grid
once_drawn None picture = None
once_drawn (Some updates) picture = picture

-- the picture that was drawn last, if one was and none is lent
abbrev pub drawn : Chain → Option Grid
drawn chain = once_drawn (last_updates chain.marks) (last_picture chain.pictures)

-- whether a picture is lent
abbrev pub is_out : Option Grid → Bool
is_out None = true
is_out (Some picture) = false

-- whether the buffer that stands last is lent
abbrev pub is_lent : Chain → Bool
is_lent chain = is_out (last_picture chain.pictures)

-- what is stale in the buffer that is lent next
abbrev pub next_stale : List Mark → List Area
next_stale [] = []
next_stale (mark ∷ marks) = mark.stale

-- the picture that is lent next
abbrev pub next_picture : List (Option Grid) → Option Grid
next_picture [] = None
next_picture (picture ∷ pictures) = picture

-- the picture is whole and has this size
pub record FitsChain (w h : ℕ) (picture : Grid) : Type 0 where
  pub width : picture.w ≡ w
  pub height : picture.h ≡ h
  pub count : length picture.tiles ≡ across h * across w
  pub whole : IsWhole picture

-- a buffer's picture that is at home
abbrev pub IsAtHome : ℕ → ℕ → Option Grid → Type 0
IsAtHome w h None = ⊥
IsAtHome w h (Some picture) = FitsChain w h picture

-- all pictures are at home, but the last may be lent
abbrev pub IsLine : ℕ → ℕ → List (Option Grid) → Type 0
IsLine w h [] = Unit {0}
IsLine w h (None ∷ pictures) = pictures ≡ []
IsLine w h (Some picture ∷ pictures) = FitsChain w h picture × IsLine w h pictures

-- there are one to three buffers, what was updated lies in their pictures, and what is stale in each is what was updated since its
-- last use
pub record IsChain (chain : Chain) : Type 0 where
  pub width_low : 1 ≤ chain.w
  pub width_high : chain.w ≤ 4096
  pub height_low : 1 ≤ chain.h
  pub height_high : chain.h ≤ 4096
  pub some : 1 ≤ length chain.marks
  pub few : length chain.marks ≤ 3
  pub paired : length chain.pictures ≡ length chain.marks
  pub line : IsLine chain.w chain.h chain.pictures
  pub within : AreWithin chain.w chain.h chain.marks
  pub stale : IsStaleSince chain.w chain.h chain.marks

-- the pixels that are stale in the next buffer or updated now, without the hidden ones
abbrev pub to_draw : List Mark → List Area → (ℤ → ℤ → Bool) → ℤ → ℤ → Bool
to_draw marks updates hidden x y = (has_pixel (next_stale marks) x y || has_pixel updates x y) && not (hidden x y)

-- These buffers make this plan for these updates, which lie in their pictures, and hidden pixels.
pub record IsPlanOf (chain : Chain) (updates : List Area) (hidden : ℤ → ℤ → Bool) (plan : Draft) : Type 0 where
  pub within : LiesWithin chain.w chain.h (has_pixel updates)
  pub work : IsBandsOf (to_draw chain.marks updates hidden) plan.work
  pub marks : IsNextOf updates (drop 1 chain.marks) plan.marks
  pub tiles : plan.tiles ≡ jobs_of (has_pixel plan.work) chain.w chain.h

-- These buffers made the plan, and none was lent since.
pub record IsPlanned (chain : Chain) (plan : Draft) : Type 0 where
  pub updates : List Area
  pub hidden : ℤ → ℤ → Bool
  pub made : IsPlanOf chain updates hidden plan

-- the buffers once the next one is lent by a plan
abbrev pub lent_by : Chain → Draft → Chain
lent_by chain plan = record chain { pictures = drop 1 chain.pictures ++ None ∷ []; marks = plan.marks }

-- the buffers with this picture in the last one
abbrev pub given_back : Chain → Grid → Chain
given_back chain picture = record chain { pictures = slice_set chain.pictures (length chain.pictures - 1) (Some picture) }

-- each job has a tile of the picture
pub record IsLoan (loan : Lent) : Type 0 where
  pub count : length loan.picture.tiles ≡ across loan.picture.h * across loan.picture.w
  pub tiles : All (λ t. t < length loan.picture.tiles) loan.tiles

-- marks of buffers on which nothing was drawn
abbrev pub AreUnused : (ℤ → ℤ → Bool) → List Mark → Type 0
AreUnused whole [] = Unit {0}
AreUnused whole (mark ∷ marks) = IsBandsOf whole mark.stale × (mark.updates ≡ None) × AreUnused whole marks

-- how many pixels were painted on a picture, or 0 where it is lent
abbrev pub painted_at_home : Option Grid → ℕ
painted_at_home None = 0
painted_at_home (Some picture) = painted_of picture

-- how many pixels were painted on the pictures that are at home
abbrev pub painted_on_all : Chain → ℕ
painted_on_all chain = sum_by painted_at_home chain.pictures
