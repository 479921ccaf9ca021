-- Which of several areas meet another one.
use Rattle.std.specs.Prelude.{◌≡◌, ℕ, ◌+◌, Bool, true, false, List, [], ◌∷◌, ◌++◌, drop}
use Rattle.ev_areas.specs.Packed.{meets}
use Rattle.ev_areas.specs.declared.edges.Edges.{Edges}

-- a place, if it is one of those
abbrev pub place_if : Bool → ℕ → List ℕ
place_if true k = k ∷ []
place_if false k = []

-- the places of the areas that meet another one, where the first area has place k
abbrev pub meeting : Edges → ℕ → List Edges → List ℕ
meeting bound k [] = []
meeting bound k (area ∷ areas) = place_if (meets area bound) k ++ meeting bound (k + 1) areas

-- the places of those from place `from` to before `to` were added
pub record AddsMeeting (areas : List Edges) (bound : Edges) (from to : ℕ) (old new : List ℕ) : Type 0 where
  pub places : new ++ meeting bound to (drop to areas) ≡ old ++ meeting bound from (drop from areas)
