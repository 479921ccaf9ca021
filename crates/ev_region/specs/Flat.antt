-- Bands whose edges stand one after the other in one list.
use Rattle.std.specs.Prelude.{◌≡◌, ℕ, zero, suc, ◌+◌, ◌-◌, ◌^◌, ◌≤◌, ◌<◌, List, [], ◌∷◌, length, take}
use Rattle.std.specs.List.{slice_range}
use Rattle.ev_geom.specs.Bands.{Band, IsBands}
use Rattle.ev_region.specs.declared.bands.Step.{Step}
use Rattle.ev_region.specs.BandMerge.{IsLeft}

-- the bands of some steps, where the edges of the first begin at `start`
abbrev pub bands_of : ℕ → List Step → List ℕ → List Band
bands_of start [] edges = []
bands_of start (step ∷ steps) edges =
    record { top = step.top; edges = slice_range edges start step.end } ∷ bands_of step.end steps edges

-- where the edges of band k begin, counted from 0, and those of the band above it end
abbrev pub start_at : ℕ → List Step → ℕ → ℕ
start_at start steps zero = start
start_at start [] (suc k) = start
start_at start (step ∷ steps) (suc k) = start_at step.end steps k

-- the ends rise from `start` on, and `size` edges are there
abbrev pub IsFlat : ℕ → ℕ → List Step → Type 0
IsFlat size start [] = start ≤ size
IsFlat size start (step ∷ steps) = (start ≤ step.end) × (step.end ≤ size) × IsFlat size step.end steps

-- a step whose edges stood from `from` on and stand from `to` on
abbrev pub moved : ℕ → ℕ → Step → Step
moved from to step = record { top = step.top; end = step.end - from + to }

-- its edges stood there, and the place to which they move is a number of the machine
pub record CanMove (from to : ℕ) (step : Step) : Type 0 where
  pub after : from ≤ step.end
  pub fits : step.end - from + to < 2 ^ 64

-- bands that can be read from row `from` down, where the rows above have the edges `row`
pub record IsReading (from : ℕ) (row : List ℕ) (start : ℕ) (steps : List Step) (edges : List ℕ) : Type 0 where
  pub flat : IsFlat (length edges) start steps
  pub left : IsLeft from row (bands_of start steps edges)

-- bands that can be read from their first row down
pub record IsOpen (row : List ℕ) (start : ℕ) (steps : List Step) (edges : List ℕ) : Type 0 where
  pub flat : IsFlat (length edges) start steps
  pub above : row ≡ []
  pub bands : IsBands 1000000 0 [] (bands_of start steps edges)

-- two steps over two edges, of which all or none count
pub record IsFlatBlock (steps : List Step) (count : ℕ) : Type 0 where
  pub few : count ≤ 2
  pub flat : IsFlat 2 0 (take count steps)
