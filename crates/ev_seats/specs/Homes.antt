-- Slots of a table: each is at home, empty or with an entry, or it is out with a seat.
use Rattle.std.specs.Prelude.{◌≡◌, ℕ, List, Option, Some, None}
use mathlib.Core.Option as maybe
use lib.ListN.{get_elem?}

-- each slot's content, where it is at home
abbrev pub Homes : Type 0 → Type 0
Homes X = List (maybe.Option (Option X))

module _ {X : Type 0} where
  abbrev pub IsOut : Homes X → ℕ → Type 0
  IsOut homes i = get_elem? homes i ≡ maybe.some maybe.none

  abbrev pub IsBlank : Homes X → ℕ → Type 0
  IsBlank homes i = get_elem? homes i ≡ maybe.some (maybe.some None)

  abbrev pub IsHome : Homes X → ℕ → X → Type 0
  IsHome homes i entry = get_elem? homes i ≡ maybe.some (maybe.some (Some entry))
