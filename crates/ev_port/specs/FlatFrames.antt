-- Frames that lie flat: a mark for each, and the updates and the pixels of all of them one after the other.
use Rattle.std.specs.Prelude.{◌≡◌, ℕ, ◌+◌, ◌*◌, List, [], ◌∷◌, length, take, drop}
use Rattle.std.specs.List.{flat_map}
use Rattle.ev_argb.specs.Argb.{Argb}
use Rattle.ev_geom.specs.Area.{Area}
use Rattle.ev_port.specs.Frame.{Frame}
use Rattle.ev_port.specs.declared.mem_screen.ShownFrame.{ShownFrame}

-- the updates of all frames
abbrev pub all_updates : List Frame → List Area
all_updates frames = flat_map (λ frame. frame.updates) frames

-- the pixels of all frames
abbrev pub all_pixels : List Frame → List Argb
all_pixels frames = flat_map (λ frame. frame.pixels) frames

-- the mark of a frame whose updates and pixels begin at these places
abbrev pub mark_of : ℕ → ℕ → Frame → ShownFrame
mark_of updates_at pixels_at frame = record { n = frame.number; w = frame.w; h = frame.h; updates_at = updates_at; updates = length frame.updates; pixels_at = pixels_at }

-- the marks of frames whose updates and pixels begin at these places
abbrev pub marks_from : ℕ → ℕ → List Frame → List ShownFrame
marks_from updates_at pixels_at [] = []
marks_from updates_at pixels_at (frame ∷ frames) = mark_of updates_at pixels_at frame ∷ marks_from (updates_at + length frame.updates) (pixels_at + frame.w * frame.h) frames

-- the frames of these marks: each has the first of the updates and pixels that are left
abbrev pub frames_of : List ShownFrame → List Area → List Argb → List Frame
frames_of [] updates pixels = []
frames_of (mark ∷ marks) updates pixels =
    record { number = mark.n; w = mark.w; h = mark.h; updates = take mark.updates updates; pixels = take (mark.w * mark.h) pixels }
    ∷ frames_of marks (drop mark.updates updates) (drop (mark.w * mark.h) pixels)

-- each frame has a pixel for each place
abbrev pub AreFilled : List Frame → Type 0
AreFilled [] = Unit {0}
AreFilled (frame ∷ frames) = (length frame.pixels ≡ frame.w * frame.h) × AreFilled frames

-- these frames lie in these lists, with nothing beside them
pub record LieFlat (frames : List Frame) (marks : List ShownFrame) (updates : List Area) (pixels : List Argb) : Type 0 where
  pub marks_are : marks ≡ marks_from 0 0 frames
  pub updates_are : updates ≡ all_updates frames
  pub pixels_are : pixels ≡ all_pixels frames
  pub filled : AreFilled frames
