-- What a start captures and owes, and what its frame leaves to the next start.
use Rattle.std.specs.Prelude.{◌≡◌, ℕ, zero, suc, ◌+◌, ◌*◌, ◌==◌, ℤ, Bool, true, false, not, ◌&&◌, ◌||◌, List, [], ◌∷◌, length, Option, Some, None, if◌then◌else◌}
use Rattle.std.specs.List.{list_any}
use Rattle.ev_geom.specs.Area.{Area, holds}
use Rattle.ev_geom.specs.Bands.{has_pixel, IsBandsOf}
use Rattle.ev_geom.specs.Snap.{IsSnapOf}
use Rattle.ev_geom.specs.Tiles.{jobs_of}
use Rattle.ev_model.specs.Capture.{Capture}
use Rattle.ev_model.specs.Stage.{canvas_on}
use Rattle.ev_damage.specs.Damage.{is_damaged}
use Rattle.ev_canvas.specs.declared.newest.End.{End}
use Rattle.ev_canvas.specs.declared.newest.End.TheVariants as end

-- A start: its number, what it captured of its scene, three banded lists of rectangles, which are what its
-- frame owes, what is hidden from it and what it updates, and how many tiles its frame draws.
pub record Entry : Type 0 where
  pub number : ℕ
  pub capture : Capture
  pub owed : List Area
  pub hidden : List Area
  pub updates : List Area
  pub tiles : ℕ

-- a start, and how its frame ended
pub record Latest : Type 0 where
  pub entry : Entry
  pub end : End

abbrev pub is_running : End → Bool
is_running end.Running = true
is_running other = false

abbrev pub is_shown : End → Bool
is_shown end.Shown = true
is_shown other = false

abbrev pub is_lost : End → Bool
is_lost end.Lost = true
is_lost other = false

-- the number of the newest start, or 0 before there is one
abbrev pub last_number : Option Latest → ℕ
last_number None = 0
last_number (Some latest) = latest.entry.number

-- the number of the next start; they are counted from 1
abbrev pub next_number : Option Latest → ℕ
next_number newest = last_number newest + 1

-- whether a frame leaves the pixel to the next one: it does where the pixel was hidden, and, if the frame was lost, where it owed it
abbrev pub left : Latest → ℤ → ℤ → Bool
left latest x y = (is_lost latest.end && has_pixel latest.entry.owed x y) || has_pixel latest.entry.hidden x y

-- whether two captured scenes have one size
abbrev pub has_size_of : Capture → Capture → Bool
has_size_of a b = a.w == b.w && a.h == b.h

-- whether the pixel is on the canvas, and it may look different in the second one or lies in a given rectangle
abbrev pub touched : Capture → Capture → List Area → ℤ → ℤ → Bool
touched before now given x y = (is_damaged before.looks now.looks x y || has_pixel given x y) && holds (canvas_on now.w now.h) x y

-- owed is what was touched, in whole cells, and what the frame before left
pub record OwesOn (cell : ℕ) (before : Latest) (now : Capture) (given owed : List Area) : Type 0 where
  pub cells : List Area
  pub snapped : IsSnapOf cell now.w now.h (touched before.entry.capture now given) cells
  pub pixels : IsBandsOf (λ x y. has_pixel cells x y || left before x y) owed

-- the whole canvas is owed
abbrev pub OwesAll : Capture → List Area → Type 0
OwesAll now owed = IsBandsOf (holds (canvas_on now.w now.h)) owed

-- the same, where the scene before had the same size; else all is owed
abbrev pub OwesIf : Bool → ℕ → Latest → Capture → List Area → List Area → Type 0
OwesIf true cell before now given owed = OwesOn cell before now given owed
OwesIf false cell before now given owed = OwesAll now owed

-- what a start owes; the first one owes all
abbrev pub Owes : ℕ → Option Latest → Capture → List Area → List Area → Type 0
Owes cell None now given owed = OwesAll now owed
Owes cell (Some before) now given owed = OwesIf (has_size_of before.entry.capture now) cell before now given owed

-- A start after the one before, with cells of this size: the rectangles given since then count as touched, and those in
-- `areas` hide what lies under them.
pub record Starts (cell : ℕ) (before : Option Latest) (now : Capture) (given areas : List Area) (entry : Entry) : Type 0 where
  pub number : entry.number ≡ next_number before
  pub capture : entry.capture ≡ now
  pub hidden : IsBandsOf (λ x y. has_pixel areas x y && holds (canvas_on now.w now.h) x y) entry.hidden
  pub owed : Owes cell before now given entry.owed
  pub updates : IsBandsOf (λ x y. has_pixel entry.owed x y && not (has_pixel entry.hidden x y)) entry.updates

-- ---- what frames draw

-- whether a frame draws the pixel: it doesn't where it is hidden; else where the frame updates it, or one of those that its buffer
-- has missed
abbrev pub repairs : List (List Area) → List Area → ℤ → ℤ → Bool
repairs updates hidden x y = list_any (λ one. has_pixel one x y) updates && not (has_pixel hidden x y)

-- how many tiles of a canvas hold a pixel of a set
abbrev pub tiles_in : Capture → (ℤ → ℤ → Bool) → ℕ
tiles_in now set = length (jobs_of set now.w now.h)

-- what the newest starts updated, so many of them at most and only those with a canvas of this size, the newest first
abbrev pub updates_since : ℕ → Capture → List Latest → List (List Area)
updates_since zero now starts = []
updates_since (suc n) now [] = []
updates_since (suc n) now (latest ∷ older) = if has_size_of latest.entry.capture now then latest.entry.updates ∷ updates_since n now older else []

-- the same of the newest start's size
abbrev pub newest_updates : ℕ → List Latest → List (List Area)
newest_updates n [] = []
newest_updates n (latest ∷ older) = updates_since n latest.entry.capture (latest ∷ older)

-- how many pixels count as painted by a start itself: those of all buffers, where their size is new
abbrev pub pixels_opened : ℕ → Option Latest → Capture → ℕ
pixels_opened buffers None now = buffers * (now.w * now.h)
pixels_opened buffers (Some before) now = if has_size_of before.entry.capture now then 0 else buffers * (now.w * now.h)
