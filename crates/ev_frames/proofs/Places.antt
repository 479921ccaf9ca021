-- The tiles of a frame's jobs: they rise, so no two are the same.
use Rattle.std.proofs.Common.{ℕ, zero, suc, ◌≢◌, ◌+◌, ◌*◌, ◌<◌, ◌≤◌, Bool, true, false, ℤ, cond, List, [], ◌∷◌, length, filter, slice_index, All, arith}
use Rattle.std.specs.List.{range_with_len}
use Rattle.std.proofs.lemmas.List.FromFn.{length-range_with_len, get_or-range_with_len}
use Rattle.std.proofs.lemmas.List.Elements.{All-filter}
use Rattle.std.proofs.lemmas.Nat.{mul-le}
use Rattle.ev_argb.specs.Grid.{across}
use Rattle.ev_geom.specs.Tiles.{holds_tile, tiles_along, jobs_of}
use Rattle.ev_frames.specs.Running.{AreRising}

above : (a n : ℕ) → All (λ u. a < u) (range_with_len (a + 1) n)
above a n = λ k d h.
    let e : k < n = omega (arith, length-range_with_len (a + 1) n) in
    omega (arith, get_or-range_with_len (a + 1) n k d e)

rise_if : (b : Bool) (a : ℕ) (rest : List ℕ) → All (λ u. a < u) rest → AreRising rest → AreRising (cond b (a ∷ rest) rest)
rise_if true a rest high r = (high, r)
rise_if false a rest high r = r

rise : (p : ℕ → Bool) (a n : ℕ) → AreRising (filter p (range_with_len a n))
rise p a zero = tt
rise p a (suc n) =
    rise_if (p a) a (filter p (range_with_len (a + 1) n)) (All-filter p (λ u. a < u) (range_with_len (a + 1) n) (above a n)) (rise p (a + 1) n)

pub jobs_rise : (set : ℤ → ℤ → Bool) (w h : ℕ) → AreRising (jobs_of set w h)
jobs_rise set w h = rise (holds_tile set (tiles_along w)) 0 (tiles_along h * tiles_along w)

rises : (ts : List ℕ) (i j : ℕ) → AreRising ts → i < j → j < length ts → slice_index ts i < slice_index ts j
rises [] i j r h l = absurd (omega arith)
rises (t ∷ ts) i zero r h l = absurd (omega arith)
rises (t ∷ ts) zero (suc j) r h l = r.0 j 0 (omega arith)
rises (t ∷ ts) (suc i) (suc j) r h l = rises ts i j r.1 (omega arith) (omega arith)

-- the tiles of two jobs differ
pub differ : (tiles : List ℕ) (i j : ℕ) → AreRising tiles → i < j → j < length tiles → slice_index tiles i ≢ slice_index tiles j
differ tiles i j up h l = λ same.
    let less : slice_index tiles i < slice_index tiles j = rises tiles i j up h l in
    omega (arith, less, same)

range_below : (n : ℕ) → All (λ t. t < n) (range_with_len 0 n)
range_below n = λ k d h.
    let e : k < n = omega (arith, length-range_with_len 0 n) in
    omega (arith, get_or-range_with_len 0 n k d e)

-- the tile of a job is one of its canvas
pub jobs_within : (set : ℤ → ℤ → Bool) (w h : ℕ) → All (λ t. t < across h * across w) (jobs_of set w h)
jobs_within set w h = All-filter (holds_tile set (tiles_along w)) (λ t. t < across h * across w) (range_with_len 0 (across h * across w)) (range_below (across h * across w))

filtered : (p : ℕ → Bool) (xs : List ℕ) → length (filter p xs) ≤ length xs
filtered p [] = omega arith
filtered p (x ∷ xs) = one (p x) (filtered p xs)
  where
    one : (b : Bool) → length (filter p xs) ≤ length xs → length (cond b (x ∷ filter p xs) (filter p xs)) ≤ suc (length xs)
    one true h = omega arith
    one false h = omega arith

product : (a b : ℕ) → a ≤ 64 → b ≤ 64 → a * b ≤ 4096
product a b h l = mul-le a b 64 64 h l

-- there are at most 4096 of them
pub few_jobs : (set : ℤ → ℤ → Bool) (w h : ℕ) → w ≤ 4096 → h ≤ 4096 → length (jobs_of set w h) ≤ 4096
few_jobs set w h wide tall =
    let most = filtered (holds_tile set (tiles_along w)) (range_with_len 0 (across h * across w)) in
    let all = length-range_with_len 0 (across h * across w) in
    let small = product (across h) (across w) (omega (arith, tall)) (omega (arith, wide)) in
    omega (arith, most, all, small)
