-- A region's rectangles have at most 10^12 pixels.
use Rattle.std.proofs.Common.{◌≡◌, ℕ, ◌+◌, ◌*◌, ◌-◌, ◌^◌, ◌≤◌, ◌<◌, false, List, [], ◌∷◌, sum_by, arith}
use Rattle.std.proofs.lemmas.List.Sums.{sum_by-append}
use Rattle.std.proofs.Math.Nat.{mul-le-mul_left, mul_comm}
use Rattle.std.specs.Prelude.{pos}
use Rattle.ev_geom.specs.Area.{Area, size_of}
use Rattle.ev_geom.specs.Bands.{IsRow, Band, IsBands, run_rects, rects_of, IsBanded}

mul_le : (a b c : ℕ) → a ≤ b → a * c ≤ b * c
mul_le a b c low = omega (arith, mul_comm a c, mul_comm b c, mul-le-mul_left c low)

-- two parts are no larger than the whole
parts_fit : (a b c whole s t : ℕ) → s ≤ a * c → t ≤ b * c → a + b ≤ whole → s + t ≤ whole * c
parts_fit a b c whole s t first second low =
    let wider : (a + b) * c ≤ whole * c = mul_le (a + b) whole c low in
    let split : (a + b) * c ≡ a * c + b * c = omega arith in
    omega arith

-- the runs of a row are no wider together than the row
runs_fit : (limit from top bottom : ℕ) (edges : List ℕ) → IsRow limit from false edges → sum_by size_of (run_rects top bottom edges) ≤ (limit - from) * (bottom - top)
runs_fit limit from top bottom [] row = omega arith
runs_fit limit from top bottom (left ∷ []) row = omega arith
runs_fit limit from top bottom (left ∷ (right ∷ edges)) row =
    let rest = runs_fit limit (right + 1) top bottom edges row.2.2 in
    let fits = parts_fit (right - left) (limit - (right + 1)) (bottom - top) (limit - from)
    ((right - left) * (bottom - top)) (sum_by size_of (run_rects top bottom edges)) (omega arith) rest
    (omega (arith, row.0, row.1, row.2.0, row.2.1)) in
    let first : Area = record { x = pos left; y = pos top; w = pos (right - left); h = pos (bottom - top) } in
    omega (arith, sum_by-append size_of (first ∷ []) (run_rects top bottom edges), fits)

pub rects_fit : (limit from : ℕ) (above : List ℕ) (bands : List Band) → IsBands limit from above bands → sum_by size_of (rects_of bands) ≤ (limit - from) * limit
rects_fit limit from above [] good = omega arith
rects_fit limit from above (band ∷ []) good = omega arith
rects_fit limit from above (band ∷ (next ∷ bands)) good =
    let rest = rects_fit limit next.top band.edges (next ∷ bands) (omega arith, good.4.1, good.4.2, good.4.3, good.4.4) in
    let all : limit - 0 ≡ limit = omega arith in
    let wide = rw all at (runs_fit limit 0 band.top next.top band.edges good.3) in
    let runs : sum_by size_of (run_rects band.top next.top band.edges) ≤ (next.top - band.top) * limit =
    omega (arith, wide, mul_comm (next.top - band.top) limit) in
    let fits = parts_fit (next.top - band.top) (limit - next.top) limit (limit - from)
    (sum_by size_of (run_rects band.top next.top band.edges)) (sum_by size_of (rects_of (next ∷ bands))) runs rest
    (omega (arith, good.0, good.1, good.4.0, good.4.1)) in
    rw (sum_by-append size_of (run_rects band.top next.top band.edges) (rects_of (next ∷ bands))) fits

pub area_fits : (rects : List Area) → IsBanded rects → sum_by size_of rects < 2 ^ 64
area_fits rects banded =
    let fits = rects_fit 1000000 0 [] banded.bands banded.canonical in
    rw banded.listed (omega (arith, fits))
