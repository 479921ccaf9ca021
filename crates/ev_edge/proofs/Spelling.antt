-- The bytes of a picture's pixels, row by row.
use Rattle.std.proofs.Common.{ℕ, ◌≡◌, ◌+◌, ◌*◌, List, [], ◌∷◌, ◌++◌, length, take, refl, sym, arith, ap, ◌∙◌, append_assoc}
use Rattle.std.proofs.lemmas.List.FromFn.{length-map-range_with_len}
use Rattle.std.proofs.lemmas.Grind.{flat_map-append}
use Rattle.std.specs.List.{flat_map, range_with_len}
use Rattle.ev_argb.specs.Argb.{Argb}
use Rattle.ev_argb.specs.Grid.{Grid, pixel_at, row_of}
use Rattle.ev_image.specs.Format.{channels}
use Rattle.ev_port.proofs.Rows.{front, row_front, rows_more}

-- four bytes for each pixel
length_bytes : (ps : List Argb) → length (flat_map channels ps) ≡ 4 * length ps
length_bytes [] = refl
length_bytes (p ∷ ps) = omega (arith, length_bytes ps)

row_length : (grid : Grid) (y : ℕ) → length (row_of grid y) ≡ grid.w
row_length grid y = length-map-range_with_len (λ x. pixel_at grid x y) 0 grid.w

-- the bytes of a row that stand at the front of a longer list
pub bytes_front : (grid : Grid) (y width : ℕ) (row rest : List Argb) (spelled tail : List ℕ) → width ≡ grid.w → row ≡ row_of grid y
    → spelled ≡ flat_map channels (take width (row ++ rest)) → take (4 * width) (spelled ++ tail) ≡ flat_map channels (row_of grid y)
bytes_front grid y width row rest spelled tail w e s =
    let f = s ∙ ap (flat_map channels) (row_front grid y width row rest w e) in
    rw f (front (4 * width) (flat_map channels (row_of grid y)) tail (length_bytes (row_of grid y) ∙ ap (λ n. 4 * n) (row_length grid y ∙ sym w)))

-- their number
pub bytes_front_length : (grid : Grid) (y width : ℕ) (bytes : List ℕ) → width ≡ grid.w → bytes ≡ flat_map channels (row_of grid y) → length bytes ≡ 4 * width
bytes_front_length grid y width bytes w e = ap length e ∙ length_bytes (row_of grid y) ∙ ap (λ n. 4 * n) (row_length grid y ∙ sym w)

-- the bytes of one row more behind those of the first y
pub bytes_appended : (grid : Grid) (y : ℕ) (before now after bytes : List ℕ) → now ≡ before ++ flat_map channels (flat_map (row_of grid) (range_with_len 0 y))
    → bytes ≡ flat_map channels (row_of grid y) → after ≡ now ++ bytes → after ≡ before ++ flat_map channels (flat_map (row_of grid) (range_with_len 0 (y + 1)))
bytes_appended grid y before now after bytes there e new =
    let rows = flat_map (row_of grid) (range_with_len 0 y) in
    new ∙ ap (λ last. now ++ last) e ∙ ap (λ first. first ++ flat_map channels (row_of grid y)) there
    ∙ append_assoc before (flat_map channels rows) (flat_map channels (row_of grid y))
    ∙ ap (λ all. before ++ all) (sym (ap (flat_map channels) (rows_more grid y) ∙ flat_map-append channels rows (row_of grid y)))
