-- Frames as a screen shows them one after another.
use Rattle.std.specs.Prelude.{ℕ, ◌<◌, ◌≤◌, List, [], ◌∷◌, Option}
use Rattle.ev_port.specs.Told.{GrowsBy}
use Rattle.ev_port.specs.Frame.{Frame}

-- each number is above the one before, the first above low, and none is above high
abbrev pub RisesWithin : ℕ → ℕ → List Frame → Type 0
RisesWithin low high [] = low ≤ high
RisesWithin low high (frame ∷ frames) = (low < frame.number) × RisesWithin frame.number high frames

-- the screen has grown by frames with rising numbers
pub record ShowsInOrder (old new : Option (List Frame)) : Type 0 where
  pub frames : List Frame
  pub grows : GrowsBy old new frames
  pub highest : ℕ
  pub rise : RisesWithin 0 highest frames
