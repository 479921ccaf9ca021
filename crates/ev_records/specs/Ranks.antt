-- How the numbers of places are kept.
use Rattle.std.specs.Prelude.{◌≡◌, ℕ, ◌<◌, nat_lt, Bool, true, false, ◌&&◌, ◌||◌, List, map, length, get_or, slice_set}
use Rattle.ev_damage.specs.Marked.{is_marked}
use Rattle.ev_records.specs.Standing.{Standings, Rises}
use Rattle.ev_records.specs.declared.ranks.Rank.{Rank}

abbrev pub stood_in : List Rank → List ℕ
stood_in ranks = map (λ r. r.stood) ranks

abbrev pub stands_in : List Rank → List ℕ
stands_in ranks = map (λ r. r.stands) ranks

-- whether the numbers of two changed their order
abbrev pub have_turned : Rank → Rank → Bool
have_turned r s = (nat_lt r.stood s.stood && nat_lt s.stands r.stands) || (nat_lt s.stood r.stood && nat_lt r.stands s.stands)

-- what they stand for
abbrev pub standings : List Rank → Standings
standings ranks = record { stood = stood_in ranks; stands = stands_in ranks }

-- the moved places are marked, and only their numbers differ
pub record AreRanks (ranks : List Rank) (moved : List ℕ) : Type 0 where
  pub kept : (place : ℕ) (d : Rank) → place < length ranks → (get_or ranks place d).is_moved ≡ false → (get_or ranks place d).stood ≡ (get_or ranks place d).stands
  pub listed : (place : ℕ) (d : Rank) → place < length ranks → (get_or ranks place d).is_moved ≡ true → is_marked moved place ≡ true
  pub within : (place : ℕ) → is_marked moved place ≡ true → place < length ranks

abbrev pub settled_rank : Rank → Rank
settled_rank r = record { stood = r.stands; stands = r.stands; is_moved = false }

-- all numbers now are those of the start before too, and no place is moved
pub record AreSettledRanks (old new : List Rank) : Type 0 where
  pub stands : stands_in new ≡ stands_in old
  pub stood : stood_in new ≡ stands_in old
  pub marks : (place : ℕ) (d : Rank) → place < length new → (get_or new place d).is_moved ≡ false

-- a place has another number, both now and at the start before
pub record IsNumbered (old : List Rank) (place number : ℕ) (new : List Rank) : Type 0 where
  pub stood : stood_in new ≡ slice_set (stood_in old) place number
  pub stands : stands_in new ≡ slice_set (stands_in old) place number
  pub marks : map (λ r. r.is_moved) new ≡ map (λ r. r.is_moved) old

-- the numbers rise along this order, now and at the start before
pub record AreNumbered (old : List Rank) (order : List ℕ) (new : List Rank) : Type 0 where
  pub rises : Rises (stands_in new) order
  pub settled : stood_in new ≡ stands_in new
  pub long : length new ≡ length old
  pub marks : map (λ r. r.is_moved) new ≡ map (λ r. r.is_moved) old
