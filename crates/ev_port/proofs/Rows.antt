-- The pixels of a picture, row by row.
use Rattle.std.proofs.Common.{ℕ, zero, suc, ◌≡◌, ◌+◌, ◌*◌, List, [], ◌∷◌, ◌++◌, length, take, drop, refl, sym, arith, ap, ◌∙◌, length-append, append_assoc}
use Rattle.std.proofs.lemmas.List.FromFn.{length-map-range_with_len, length-range_with_len}
use Rattle.std.proofs.lemmas.List.{append-nil}
use Rattle.std.proofs.lemmas.Grind.{flat_map-append}
use Rattle.std.proofs.Math.Seq.{take-append_seam, drop-append_seam}
use Rattle.std.specs.List.{flat_map, range_with_len}
use Rattle.ev_argb.specs.Argb.{Argb}
use Rattle.ev_argb.specs.Grid.{Grid, pixel_at, row_of}
use Rattle.ev_port.specs.Frame.{pixels_of}

-- the first list of two
pub front : {A : Type 0} (n : ℕ) (xs ys : List A) → length xs ≡ n → take n (xs ++ ys) ≡ xs
front n xs ys e = rw (sym e) (take-append_seam xs ys)

-- the second list of two
pub back : {A : Type 0} (n : ℕ) (xs ys : List A) → length xs ≡ n → drop n (xs ++ ys) ≡ ys
back n xs ys e = rw (sym e) (drop-append_seam xs ys)

rows_length : (grid : Grid) (ys : List ℕ) → length (flat_map (row_of grid) ys) ≡ length ys * grid.w
rows_length grid [] = omega arith
rows_length grid (y ∷ ys) = omega (arith, length-append (row_of grid y) (flat_map (row_of grid) ys), length-map-range_with_len (λ x. pixel_at grid x y) 0 grid.w, rows_length grid ys)

-- a picture has a pixel for each place
pub length-pixels_of : (grid : Grid) → length (pixels_of grid) ≡ grid.w * grid.h
length-pixels_of grid =
    let e : grid.h * grid.w ≡ grid.w * grid.h = omega arith in
    rows_length grid (range_with_len 0 grid.h) ∙ ap (λ n. n * grid.w) (length-range_with_len 0 grid.h) ∙ e

range_more : (a n : ℕ) → range_with_len a (n + 1) ≡ range_with_len a n ++ (a + n) ∷ []
range_more a zero = let e : a + 0 ≡ a = omega arith in rw e refl
range_more a (suc n) =
    let e : suc n + 1 ≡ suc (n + 1) = omega arith in
    let f : a + 1 + n ≡ a + suc n = omega arith in
    rw e (ap (λ rest. a ∷ rest) (range_more (a + 1) n ∙ ap (λ k. range_with_len (a + 1) n ++ k ∷ []) f))

-- the rows of a picture up to one more
pub rows_more : (grid : Grid) (y : ℕ) → flat_map (row_of grid) (range_with_len 0 (y + 1)) ≡ flat_map (row_of grid) (range_with_len 0 y) ++ row_of grid y
rows_more grid y =
    let e : 0 + y ≡ y = omega arith in
    ap (flat_map (row_of grid)) (range_more 0 y)
    ∙ flat_map-append (row_of grid) (range_with_len 0 y) ((0 + y) ∷ [])
    ∙ ap (λ row. flat_map (row_of grid) (range_with_len 0 y) ++ row) (append-nil (row_of grid (0 + y)) ∙ ap (row_of grid) e)

-- a row that stands at the front of a longer list
pub row_front : (grid : Grid) (y width : ℕ) (row rest : List Argb) → width ≡ grid.w → row ≡ row_of grid y → take width (row ++ rest) ≡ row_of grid y
row_front grid y width row rest w e = rw (w, e) (front grid.w (row_of grid y) rest (length-map-range_with_len (λ x. pixel_at grid x y) 0 grid.w))

-- its length
pub row_front_length : (grid : Grid) (y width : ℕ) (row rest : List Argb) → width ≡ grid.w → row ≡ row_of grid y → length (take width (row ++ rest)) ≡ width
row_front_length grid y width row rest w e = ap length (row_front grid y width row rest w e) ∙ length-map-range_with_len (λ x. pixel_at grid x y) 0 grid.w ∙ sym w

-- one row more behind the first y
pub row_appended : (grid : Grid) (y : ℕ) (before now after row : List Argb) → now ≡ before ++ flat_map (row_of grid) (range_with_len 0 y)
    → row ≡ row_of grid y → after ≡ now ++ row → after ≡ before ++ flat_map (row_of grid) (range_with_len 0 (y + 1))
row_appended grid y before now after row there e new =
    new ∙ ap (λ last. now ++ last) e ∙ ap (λ first. first ++ row_of grid y) there
    ∙ append_assoc before (flat_map (row_of grid) (range_with_len 0 y)) (row_of grid y)
    ∙ ap (λ all. before ++ all) (sym (rows_more grid y))
