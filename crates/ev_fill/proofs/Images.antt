-- Samples of an image, row by row.
use Rattle.std.proofs.Common.{◌≡◌, ℕ, suc, zero, ◌+◌, ◌-◌, ◌*◌, ◌%◌, ◌<◌, ◌≤◌, Bool, true, false, cond, not, ◌&&◌, List, [], ◌∷◌, map, take, drop, replicate, Option, Some, None, refl, sym, ap, ◌∙◌, subst, arith}
use Rattle.std.specs.Prelude.{nat_lt, slice_get, option_map, option_and_then}
use Rattle.std.specs.List.{range_with_len}
use Rattle.std.proofs.lemmas.Bool.{lt-ltb}
use Rattle.ev_argb.specs.Argb.{Argb}
use Rattle.ev_model.specs.Axis.{IsAxis, phase, is_middle, source_at}
use Rattle.ev_model.specs.Raster.{Raster, row}
use Rattle.ev_model.specs.Sample.{columns_of, rows_of, filled_columns, filled_rows, raster_at, axes_sample, image_sample, sample}
use Rattle.ev_model.specs.Limits.{IsFill}
use Rattle.ev_model.specs.declared.content.Border.{Border}
use Rattle.ev_model.specs.declared.content.Fill.{Fill}
use Rattle.ev_model.specs.declared.content.Fill.TheVariants.{Filled, Area}
use Rattle.ev_model.specs.declared.axis.Axis.{Axis}
use Rattle.ev_model.specs.declared.content.ImagePart.{ImagePart}
use Rattle.ev_model.specs.declared.content.Content.TheVariants.{Image}
use Rattle.ev_fill.specs.Parts.{place_sample, shown_row}
use Rattle.ev_fill.specs.declared.axes.ShownRow.{ShownRow}
use Rattle.ev_model.proofs.Runs.{run_same, run_constant}
use Rattle.ev_fill.proofs.Places.{get_drop}
use Rattle.ev_fill.proofs.Turns.{phase_more}
use Rattle.ev_model.proofs.Axes.{phase_within, source_below}

-- the pixel at a place of a row
get_take : (n : ℕ) (pixels : List Argb) (x : ℕ) → x < n → slice_get (take n pixels) x ≡ slice_get pixels x
get_take zero pixels x within = absurd (omega arith)
get_take (suc n) [] x within = refl
get_take (suc n) (p ∷ pixels) zero within = refl
get_take (suc n) (p ∷ pixels) (suc x) within = get_take n pixels x (omega arith)

pub row_get : (image : Raster) (y x : ℕ) → x < image.w → slice_get (row image y) x ≡ slice_get image.pixels (y * image.w + x)
row_get image y x within = get_take (y * image.w + image.w - y * image.w) (drop (y * image.w) image.pixels) x (omega arith) ∙ get_drop (y * image.w) image.pixels x

-- a sample is that of its row
sample_in_row : (image : Raster) (columns : Axis) (hidden : Bool) (u y : ℕ) → IsAxis columns → columns.source ≡ image.w → u < columns.len
    → cond (hidden && is_middle columns u) None (raster_at image (source_at columns u) (Some y)) ≡ place_sample (row image y) columns hidden u
sample_in_row image columns hidden u y limits wide within = cases (hidden && is_middle columns u) (source_at columns u) refl
  where
    cases : (nothing : Bool) (x : Option ℕ) → source_at columns u ≡ x → cond nothing None (raster_at image x (Some y)) ≡ cond nothing None (option_and_then (λ x. slice_get (row image y) x) x)
    cases true x e = refl
    cases false None e = refl
    cases false (Some x) e = sym (row_get image y x (subst (λ (w : ℕ). x < w) wide (source_below columns u x limits within e)))

and_swap : (a b c : Bool) → (a && b && c) ≡ (a && c && b)
and_swap true true true = refl
and_swap true true false = refl
and_swap true false true = refl
and_swap true false false = refl
and_swap false b c = refl

-- samples along the axes, which may be empty
abbrev if_places : Raster → Bool → ℕ → ℕ → Axis → Axis → Option Argb
if_places image center i j columns rows = cond (nat_lt 0 columns.len && nat_lt 0 rows.len) (axes_sample image columns rows center i j) None

some_places : (image : Raster) (center : Bool) (i j : ℕ) (columns rows : Axis) → 0 < columns.len → 0 < rows.len → if_places image center i j columns rows ≡ axes_sample image columns rows center i j
some_places image center i j columns rows c r = rw (lt-ltb 0 columns.len c, lt-ltb 0 rows.len r) refl

rows_some : (fill : Fill) (border : Border) (source h : ℕ) → IsFill fill → 0 < h → 0 < (filled_rows fill border source h).len
rows_some Filled border source h limits some = some
rows_some (Area x y fw fh) border source h limits some = omega (arith, limits.h_low)

-- the sample in a row that is shown
abbrev pub in_shown : Raster → Axis → ℕ → ShownRow → Option Argb
in_shown image columns i shown = place_sample (row image shown.y) columns shown.hidden (phase columns i)

axes_sample_is : (image : Raster) (columns rows : Axis) (center : Bool) (i j : ℕ) → IsAxis columns → columns.source ≡ image.w
    → axes_sample image columns rows center i j
    ≡ option_and_then (in_shown image columns i) (option_map (λ y. record { y = y; hidden = not center && is_middle rows (phase rows j) }) (source_at rows (phase rows j)))
axes_sample_is image columns rows center i j limits wide =
    rw (and_swap (not center) (is_middle columns (phase columns i)) (is_middle rows (phase rows j))) (cases (source_at rows (phase rows j)))
  where
    nothing : (hidden : Bool) (x : Option ℕ) → cond hidden None (raster_at image x None) ≡ None
    nothing true x = refl
    nothing false None = refl
    nothing false (Some x) = refl

    cases : (y : Option ℕ) → cond (not center && is_middle rows (phase rows j) && is_middle columns (phase columns i)) None (raster_at image (source_at columns (phase columns i)) y)
        ≡ option_and_then (in_shown image columns i) (option_map (λ y. record { y = y; hidden = not center && is_middle rows (phase rows j) }) y)
    cases None = nothing (not center && is_middle rows (phase rows j) && is_middle columns (phase columns i)) (source_at columns (phase columns i))
    cases (Some y) = sample_in_row image columns (not center && is_middle rows (phase rows j)) (phase columns i) y limits wide (phase_within columns i limits)

-- the columns of an image in an object of width w
pub record AreColumns (image : Raster) (part : ImagePart) (w : ℕ) (columns : Axis) : Type 0 where
  pub are : columns ≡ columns_of part image w
  pub limits : IsAxis columns
  pub wide : columns.source ≡ image.w

columns_some : (fill : Fill) (border : Border) (source w : ℕ) → IsFill fill → 0 < w → 0 < (filled_columns fill border source w).len
columns_some Filled border source w limits some = some
columns_some (Area x y fw fh) border source w limits some = omega (arith, limits.w_low)

pub found_columns : (image : Raster) (part : ImagePart) (w : ℕ) (columns : Axis) → columns ≡ columns_of part image w → (IsFill part.fill → w ≤ 1000000 → 0 < columns.len → IsAxis columns)
    → columns.source ≡ image.w → IsFill part.fill → 0 < w → w ≤ 1000000 → AreColumns image part w columns
found_columns image part w columns are axis wide fill some most =
    let len : 0 < columns.len = subst (λ (c : Axis). 0 < c.len) (sym are) (columns_some part.fill part.border image.w w fill some) in
    record { are = are; limits = axis fill most len; wide = wide }

pub image_sample_is : (image : Raster) (part : ImagePart) (w h : ℕ) (columns : Axis) (i j : ℕ) → AreColumns image part w columns → IsFill part.fill → 0 < h
    → image_sample image part w h i j ≡ option_and_then (in_shown image columns i) (shown_row image part h j)
image_sample_is image part w h columns i j c fill some =
    ap (λ (columns : Axis). if_places image part.center i j columns (rows_of part image h)) (sym c.are)
    ∙ some_places image part.center i j columns (rows_of part image h) (omega (arith, c.limits.len_low)) (rows_some part.fill part.border image.h h fill some)
    ∙ axes_sample_is image columns (rows_of part image h) part.center i j c.limits c.wide

-- a row of samples, in any form
pub row_run : {X : Type 0} (form : Option Argb → X) (image : Raster) (part : ImagePart) (w h : ℕ) (columns : Axis) (i j n : ℕ) (seen : Option ShownRow) (shown : ShownRow) → AreColumns image part w columns → IsFill part.fill → 0 < h → seen ≡ shown_row image part h j → seen ≡ Some shown
    → map (λ u. form (place_sample (row image shown.y) columns shown.hidden (u % columns.len))) (range_with_len (phase columns i) n)
    ≡ map (λ column. form (image_sample image part w h column j)) (range_with_len i n)
row_run form image part w h columns i j n seen shown c fill some at is =
    run_same _ _ (phase columns i) i n
    (λ k _. ap (λ (u : ℕ). form (place_sample (row image shown.y) columns shown.hidden u)) (sym (phase_more columns i k c.limits))
    ∙ ap form (sym (image_sample_is image part w h columns (i + k) j c fill some ∙ ap (option_and_then (in_shown image columns (i + k))) (sym at ∙ is))))

pub none_run : {X : Type 0} (form : Option Argb → X) (image : Raster) (part : ImagePart) (w h : ℕ) (columns : Axis) (i j n : ℕ) (seen : Option ShownRow) → AreColumns image part w columns → IsFill part.fill → 0 < h → seen ≡ shown_row image part h j → seen ≡ None
    → replicate n (form None) ≡ map (λ column. form (image_sample image part w h column j)) (range_with_len i n)
none_run form image part w h columns i j n seen c fill some at is =
    sym (run_constant (λ (column : ℕ). form (image_sample image part w h column j)) i n (form None)
    (λ k _. ap form (image_sample_is image part w h columns (i + k) j c fill some ∙ ap (option_and_then (in_shown image columns (i + k))) (sym at ∙ is))))

pub one_sample : (image : Raster) (part : ImagePart) (w h : ℕ) (columns : Axis) (i j : ℕ) (seen : Option ShownRow) (shown : ShownRow) → AreColumns image part w columns → IsFill part.fill → 0 < h → seen ≡ shown_row image part h j → seen ≡ Some shown
    → place_sample (row image shown.y) columns shown.hidden (phase columns i) ≡ image_sample image part w h i j
one_sample image part w h columns i j seen shown c fill some at is =
    sym (image_sample_is image part w h columns i j c fill some ∙ ap (option_and_then (in_shown image columns i)) (sym at ∙ is))

-- the same from what the code took for the row and for the place
pub row_args : {X : Type 0} (form : Option Argb → X) (row row' : List Argb) (columns : Axis) (hidden : Bool) (u u' n : ℕ) → row ≡ row' → u ≡ u'
    → map (λ v. form (place_sample row columns hidden (v % columns.len))) (range_with_len u n) ≡ map (λ v. form (place_sample row' columns hidden (v % columns.len))) (range_with_len u' n)
row_args form row row' columns hidden u u' n a b = rw (a, b) refl

pub place_args : (row row' : List Argb) (columns : Axis) (hidden : Bool) (u u' : ℕ) → row ≡ row' → u ≡ u' → place_sample row columns hidden u ≡ place_sample row' columns hidden u'
place_args row row' columns hidden u u' a b = rw (a, b) refl

-- an object whose image is not loaded
pub not_loaded : {X : Type 0} (form : Option Argb → X) (part : ImagePart) (w h i j n : ℕ) → part.loaded ≡ None
    → replicate n (form None) ≡ map (λ column. form (sample (Image part) w h column j)) (range_with_len i n)
not_loaded form part w h i j n e = sym (run_constant (λ (column : ℕ). form (sample (Image part) w h column j)) i n (form None) (λ k _. rw e refl))
