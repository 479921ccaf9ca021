-- The order in which places are painted, by numbers that rise along it.
use Rattle.std.specs.Prelude.{◌≡◌, ℕ, ◌<◌, false, List, get_or, AllPairs}
use Rattle.ev_damage.specs.Marked.{is_marked}

-- the numbers of places at the start before, and now
pub record Standings : Type 0 where
  pub stood : List ℕ
  pub stands : List ℕ

abbrev pub rank : List ℕ → ℕ → ℕ
rank ranks place = get_or ranks place 0

-- the numbers rise along this order
pub record Rises (ranks order : List ℕ) : Type 0 where
  pub rising : AllPairs (λ i j. rank ranks i < rank ranks j) order

-- the numbers of places that are not among these are as they were
pub record Stays (st : Standings) (moved : List ℕ) : Type 0 where
  pub kept : (place : ℕ) → is_marked moved place ≡ false → rank st.stood place ≡ rank st.stands place
