-- Sets of places of a tile, as words whose bits tell of a row's places.
use Rattle.std.specs.Prelude.{◌≡◌, ℕ, ◌+◌, ◌<◌, ◌≤◌, Bool, true, false, not, ◌&&◌, ◌||◌, ◌==◌, nat_le, nat_lt, List, All, Option, Some, None, length, slice_index}
use Rattle.std.specs.Int.{bit_at}
use Rattle.ev_region.specs.Count.{sum_below}
use Rattle.ev_cmds.specs.Patches.{has_place, one, times, IsPatch}
use Rattle.ev_cmds.specs.declared.patch.Patch.{Patch}
use Rattle.ev_cmds.specs.declared.mask.Run.{Run}

-- whether a word has the bit of column x
abbrev pub is_set : ℕ → ℕ → Bool
is_set word x = bit_at word x == 1

-- whether the set has the place in column x of row y
abbrev pub has_bit : List ℕ → ℕ → ℕ → Bool
has_bit rows x y = is_set (slice_index rows y) x

-- how many places the set has
abbrev pub count_of : List ℕ → ℕ
count_of rows = sum_below 64 (λ y. sum_below 64 (λ x. one (has_bit rows x y)))

-- no place is in the set
pub record IsEmpty (rows : List ℕ) : Type 0 where
  pub none : (x y : ℕ) → y < 64 → has_bit rows x y ≡ false

-- 64 rows, and if the set is known to be spent it has no place
pub record IsMask (rows : List ℕ) (is_spent : Bool) : Type 0 where
  pub count : length rows ≡ 64
  pub spent : is_spent ≡ true → IsEmpty rows

-- the new set has the places of a patch as well
pub record Adds (patch : Patch) (old new : List ℕ) : Type 0 where
  pub places : (x y : ℕ) → x < 64 → y < 64 → has_bit new x y ≡ (has_bit old x y || has_place patch x y)

-- the new set has the places of the old one but for those of a patch
pub record Cuts (patch : Patch) (old new : List ℕ) : Type 0 where
  pub places : (x y : ℕ) → x < 64 → y < 64 → has_bit new x y ≡ (has_bit old x y && not (has_place patch x y))

-- a run of bits that are set, which is the first from a column on
pub record IsRun (word from : ℕ) (run : Run) : Type 0 where
  pub after : from ≤ run.left
  pub some : run.left < run.right
  pub within : run.right ≤ 64
  pub before : (x : ℕ) → from ≤ x → x < run.left → is_set word x ≡ false
  pub inside : (x : ℕ) → run.left ≤ x → x < run.right → is_set word x ≡ true
  pub ends : run.right < 64 → is_set word run.right ≡ false

-- the first run from a column on, if a bit is set there
abbrev pub IsNextRun : ℕ → ℕ → Option Run → Type 0
IsNextRun word from None = (x : ℕ) → from ≤ x → x < 64 → is_set word x ≡ false
IsNextRun word from (Some run) = IsRun word from run

-- whether a place lies in a row from `top` to before `bottom`, in a column before `end` whose bit is set
abbrev pub in_runs : ℕ → ℕ → ℕ → ℕ → ℕ → ℕ → Bool
in_runs word top bottom end x y = is_set word x && nat_lt x end && (nat_le top y && nat_lt y bottom)

-- patches were added that hold the set bits before a column, in these rows, each of them once
pub record AddsRuns (word top bottom end : ℕ) (old new : List Patch) : Type 0 where
  pub patches : All IsPatch old → All IsPatch new
  pub places : (x y : ℕ) → x < 64 → y < 64 → times new x y ≡ times old x y + one (in_runs word top bottom end x y)

-- patches were added that hold the places of the set in an area, each of them once
pub record AddsParts (rows : List ℕ) (area : Patch) (old new : List Patch) : Type 0 where
  pub patches : All IsPatch old → All IsPatch new
  pub places : (x y : ℕ) → x < 64 → y < 64 → times new x y ≡ times old x y + one (has_bit rows x y && has_place area x y)
