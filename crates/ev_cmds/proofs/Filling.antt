-- A full image has a pixel at each place.
use Rattle.std.proofs.Common.{ℕ, ◌≡◌, ◌+◌, ◌-◌, ◌*◌, ◌<◌, ◌≤◌, Bool, true, false, not, ◌&&◌, ◌||◌, ℤ, pos, nat_lt, nat_le, ◌+ℤ◌, ◌≤ℤ◌, ◌<ℤ◌, int_le, int_lt, List, length, get_or, Option, Some, None, refl, ap, ◌∙◌, subst, ⊎_elim, arith}
use Rattle.std.specs.Prelude.{if◌then◌else◌, ◌==◌, unsigned_abs, IsSome, option_and_then}
use Rattle.std.specs.List.{list_all}
use Rattle.std.proofs.lemmas.Int.{ints}
use Rattle.std.proofs.lemmas.Bool.{cases_Bool, and_parts, and_right, eqb-true, ltb-true, lt-ltb, cases_lt, le-ltb, le-leb, lt-leb, ne_eqb, or_cases}
use Rattle.std.proofs.lemmas.List.Folds.{list_all_at}
use Rattle.std.proofs.lemmas.Option.{slice_get-get_or}
use Rattle.std.proofs.lemmas.Nat.{mul-add-lt}
use Rattle.ev_argb.specs.Argb.{Argb, IsPremultiplied, are_opaque}
use Rattle.ev_geom.specs.Area.{holds, is_within, nowhere, IsPlace, InLimits}
use Rattle.ev_model.specs.Axis.{IsAxis, phase, low_part, high_part, middle_source, middle_part, is_middle, source_at}
use Rattle.ev_model.specs.Capture.{IsLookOn}
use Rattle.ev_model.specs.Limits.{IsFill, IsContent}
use Rattle.ev_model.specs.Loaded.{Loaded}
use Rattle.ev_model.specs.Look.{Look}
use Rattle.ev_model.specs.Raster.{Raster, IsRaster}
use Rattle.ev_model.specs.Sample.{white, columns_of, rows_of, filled_columns, filled_rows, raster_at, axes_sample, image_sample, sample}
use Rattle.ev_model.specs.declared.axis.Axis.{Axis}
use Rattle.ev_model.specs.declared.content.Border.{Border}
use Rattle.ev_model.specs.declared.content.Fill.{Fill}
use Rattle.ev_model.specs.declared.content.Fill.TheVariants.{Filled, Area as FillArea}
use Rattle.ev_model.specs.declared.content.ImagePart.{ImagePart}
use Rattle.ev_model.specs.declared.content.Content.{Content}
use Rattle.ev_model.specs.declared.content.Content.TheVariants as content
use Rattle.ev_model.specs.declared.object.Op.{Op}
use Rattle.ev_model.specs.declared.object.Op.TheVariants.{Blend, Copy}
use Rattle.ev_model.proofs.Axes.{phase_within, source_below}
use Rattle.ev_cmds.specs.Opaque.{is_full_along, has_no_middle, shows_middle, hides, is_full, image_hides, content_hides, replaces, IsSoundImage, IsSoundContent}
use Rattle.ev_cmds.specs.Sheets.{IsPaintable, IsSolid}
use Rattle.ev_cmds.proofs.Culling.{no_holds}
use Rattle.ev_cmds.proofs.Hiding.{keeps, solid_sample}

-- an axis that is full has a place in the image for each place of its fill
pub full_source : (axis : Axis) (u : ℕ) → is_full_along axis ≡ true → IsSome (source_at axis u)
full_source axis u full =
    ⊎_elim
    (λ (low : u < low_part axis). rw (lt-ltb u (low_part axis) low) refl)
    (λ (low : low_part axis ≤ u). ⊎_elim
    (λ (high : u < axis.len - high_part axis).
    let none : (middle_source axis == 0) ≡ false = some_middle (middle_part axis) (middle_source axis) (omega arith) full in
    rw (le-ltb u (low_part axis) low, lt-leb (axis.len - high_part axis) u high, none) refl)
    (λ (high : axis.len - high_part axis ≤ u). rw (le-ltb u (low_part axis) low, le-leb (axis.len - high_part axis) u high) refl)
    (cases_lt u (axis.len - high_part axis)))
    (cases_lt u (low_part axis))
  where
    some_middle : (part source : ℕ) → 0 < part → ((part == 0) || nat_lt 0 source) ≡ true → (source == 0) ≡ false
    some_middle part source some full = ⊎_elim
        (λ (e : (part == 0) ≡ true). absurd (let z : part ≡ 0 = eqb-true part 0 e in omega arith))
        (λ (e : nat_lt 0 source ≡ true). let more : 0 < source = ltb-true 0 source e in ne_eqb source 0 (λ (z : source ≡ 0). omega arith))
        (or_cases (part == 0) (nat_lt 0 source) full)

-- a place between the borders of an axis that has none
none_middle : (axis : Axis) (u : ℕ) → has_no_middle axis ≡ true → is_middle axis u ≡ false
none_middle axis u none =
    let e : middle_part axis ≡ 0 = eqb-true (middle_part axis) 0 none in
    ⊎_elim
    (λ (low : u < low_part axis). ap (λ (b : Bool). b && nat_lt u (axis.len - high_part axis)) (lt-leb (low_part axis) u low))
    (λ (low : low_part axis ≤ u). ap (λ (b : Bool). nat_le (low_part axis) u && b) (le-ltb u (axis.len - high_part axis) (omega arith)) ∙ and_right (nat_le (low_part axis) u) false refl)
    (cases_lt u (low_part axis))

-- with the centre off, a full image has no place between the borders of both axes
not_in_middle : (center : Bool) (columns rows : Axis) (u v : ℕ) → shows_middle center columns rows ≡ true → (not center && is_middle columns u && is_middle rows v) ≡ false
not_in_middle true columns rows u v shown = refl
not_in_middle false columns rows u v shown =
    ⊎_elim
    (λ (c : has_no_middle columns ≡ true). ap (λ (b : Bool). b && is_middle rows v) (none_middle columns u c))
    (λ (r : has_no_middle rows ≡ true). ap (λ (b : Bool). is_middle columns u && b) (none_middle rows v r) ∙ and_right (is_middle columns u) false refl)
    (or_cases (has_no_middle columns) (has_no_middle rows) shown)

-- an element of a list that all pass
passes : (test : Argb → Bool) (pixels : List Argb) (k : ℕ) (d : Argb) → list_all test pixels ≡ true → k < length pixels → test (get_or pixels k d) ≡ true
passes test pixels k d all within = ⊎_elim
    (λ (t : test (get_or pixels k d) ≡ true). t)
    (λ (f : test (get_or pixels k d) ≡ false). absurd (let none = list_all_at test pixels k d within f in cc))
    (cases_Bool (test (get_or pixels k d)))

-- a pixel of an image
pub record IsPixelOf (image : Raster) (found : Option Argb) : Type 0 where
  pub pixel : Argb
  pub is : found ≡ Some pixel
  pub opaque : are_opaque image.pixels ≡ true → (pixel.a == 255) ≡ true

-- a place below its end
record IsBelow (limit : ℕ) (found : Option ℕ) : Type 0 where
  place : ℕ
  is : found ≡ Some place
  below : place < limit

below_source : (axis : Axis) (i : ℕ) → IsAxis axis → is_full_along axis ≡ true → IsBelow axis.source (source_at axis (phase axis i))
below_source axis i limits full = go (source_at axis (phase axis i)) refl (full_source axis (phase axis i) full) where
  go : (found : Option ℕ) → source_at axis (phase axis i) ≡ found → IsSome found → IsBelow axis.source found
  go None e some = absurd (cc)
  go (Some x) e some = record { place = x; is = refl; below = source_below axis (phase axis i) x limits (phase_within axis i limits) e }

pixel_at : (image : Raster) (x y : Option ℕ) → IsRaster image → IsBelow image.w x → IsBelow image.h y → IsPixelOf image (raster_at image x y)
pixel_at image x y limits column row =
    let k = row.place * image.w + column.place in
    let within : k < length image.pixels = omega (arith, mul-add-lt row.place image.w column.place image.h row.below column.below, limits.count) in
    record {
      pixel = get_or image.pixels k white;
      is = rw (column.is, row.is) (slice_get-get_or image.pixels k white within);
      opaque = λ all. passes (λ (p : Argb). p.a == 255) image.pixels k white all within;
    }

-- the pixel along axes that are full
axes_pixel : (image : Raster) (columns rows : Axis) (center : Bool) (i j : ℕ) → IsAxis columns → IsAxis rows → columns.source ≡ image.w → rows.source ≡ image.h → IsRaster image
    → (is_full_along columns && is_full_along rows && shows_middle center columns rows) ≡ true
    → IsPixelOf image (if nat_lt 0 columns.len && nat_lt 0 rows.len then axes_sample image columns rows center i j else None)
axes_pixel image columns rows center i j c r wide tall limits full =
    let outer = and_parts (is_full_along columns && is_full_along rows) (shows_middle center columns rows) full in
    let both = and_parts (is_full_along columns) (is_full_along rows) outer.0 in
    let found = pixel_at image (source_at columns (phase columns i)) (source_at rows (phase rows j)) limits
    (subst (λ (n : ℕ). IsBelow n (source_at columns (phase columns i))) wide (below_source columns i c both.0))
    (subst (λ (n : ℕ). IsBelow n (source_at rows (phase rows j))) tall (below_source rows j r both.1)) in
    rw (lt-ltb 0 columns.len (omega (arith, c.len_low)), lt-ltb 0 rows.len (omega (arith, r.len_low)), not_in_middle center columns rows (phase columns i) (phase rows j) outer.1) found

origin : IsPlace (pos 0)
origin = record { low = omega (arith, ints); high = omega (arith, ints) }

columns_limits : (fill : Fill) (border : Border) (image : Raster) (w : ℕ) → IsFill fill → IsRaster image → 0 < w → w ≤ 1000000 → IsAxis (filled_columns fill border image.w w) × ((filled_columns fill border image.w w).source ≡ image.w)
columns_limits Filled border image w limits raster low high = (record { start = origin; len_low = omega arith; len_high = high; source_low = raster.width_low; source_high = raster.width_high }, refl)
columns_limits (FillArea x y fw fh) border image w limits raster low high = (record { start = limits.left; len_low = limits.w_low; len_high = limits.w_high; source_low = raster.width_low; source_high = raster.width_high }, refl)

rows_limits : (fill : Fill) (border : Border) (image : Raster) (h : ℕ) → IsFill fill → IsRaster image → 0 < h → h ≤ 1000000 → IsAxis (filled_rows fill border image.h h) × ((filled_rows fill border image.h h).source ≡ image.h)
rows_limits Filled border image h limits raster low high = (record { start = origin; len_low = omega arith; len_high = high; source_low = raster.height_low; source_high = raster.height_high }, refl)
rows_limits (FillArea x y fw fh) border image h limits raster low high = (record { start = limits.top; len_low = limits.h_low; len_high = limits.h_high; source_low = raster.height_low; source_high = raster.height_high }, refl)

-- a full image has a pixel at each place
full_sample : (image : Raster) (part : ImagePart) (w h i j : ℕ) → IsRaster image → IsFill part.fill → 0 < w → w ≤ 1000000 → 0 < h → h ≤ 1000000 → is_full part image w h ≡ true → IsPixelOf image (image_sample image part w h i j)
full_sample image part w h i j raster fill w_low w_high h_low h_high full =
    let c = columns_limits part.fill part.border image w fill raster w_low w_high in
    let r = rows_limits part.fill part.border image h fill raster h_low h_high in
    axes_pixel image (columns_of part image w) (rows_of part image h) part.center i j c.0 r.0 c.1 r.1 raster full

-- an image that hides what lies below has a sample that does
image_solid : (op : Op) (color : Argb) (part : ImagePart) (loaded : Option (Loaded Raster)) (w h i j : ℕ) → IsFill part.fill → IsSoundImage loaded → 0 < w → w ≤ 1000000 → 0 < h → h ≤ 1000000
    → image_hides op color part w h loaded ≡ true → IsSolid op color (option_and_then (λ l. image_sample l.value part w h i j) loaded)
image_solid op color part None w h i j fill sound a b c d hidden = absurd (cc)
image_solid op color part (Some loaded) w h i j fill sound a b c d hidden =
    let both = and_parts (is_full part loaded.value w h) (hides op (are_opaque loaded.value.pixels && color.a == 255)) hidden in
    let found = full_sample loaded.value part w h i j sound.raster fill a b c d both.0 in
    solid_sample op color found.pixel (image_sample loaded.value part w h i j) found.is (hides_one op (are_opaque loaded.value.pixels) (found.pixel.a == 255) (color.a == 255) found.opaque both.1)
  where
    hides_one : (op : Op) (all one color : Bool) → (all ≡ true → one ≡ true) → hides op (all && color) ≡ true → hides op (one && color) ≡ true
    hides_one Copy all one color each h = refl
    hides_one Blend true one color each h = ap (λ (b : Bool). b && color) (each refl) ∙ h
    hides_one Blend false one color each h = absurd (cc)

content_solid : (op : Op) (color : Argb) (c : Content) (w h i j : ℕ) → IsContent c → IsSoundContent c → 0 < w → w ≤ 1000000 → 0 < h → h ≤ 1000000 → content_hides op color c w h ≡ true → IsSolid op color (sample c w h i j)
content_solid op color content.Rect w h i j limits sound a b c d hidden = solid_sample op color white (Some white) refl hidden
content_solid op color content.Smart w h i j limits sound a b c d hidden = absurd (cc)
content_solid op color (content.Image part) w h i j limits sound a b c d hidden = image_solid op color part part.loaded w h i j limits.0 sound a b c d hidden
content_solid op color (content.Text part) w h i j limits sound a b c d hidden = absurd (cc)

-- a place in an area that lies in another one
some_side : (from len outer outer_len at : ℤ) → outer ≤ℤ from → (from +ℤ len) ≤ℤ (outer +ℤ outer_len) → outer_len ≤ℤ pos 1000000 → is_within from len at ≡ true → (0 < unsigned_abs outer_len) × (unsigned_abs outer_len ≤ 1000000)
some_side from len outer outer_len at low high most within =
    let both = and_parts (int_le from at) (int_lt at (from +ℤ len)) within in
    let a : from ≤ℤ at = omega (arith, ints, both.0) in
    let b : at <ℤ (from +ℤ len) = omega (arith, ints, both.1) in
    (omega (arith, ints, a, b), omega (arith, ints, a, b))

replaced_area : (l : Look) (x y : ℕ) (b : Bool) → replaces l ≡ b → holds (if b then l.area else nowhere) (pos x) (pos y) ≡ true → (replaces l ≡ true) × (holds l.area (pos x) (pos y) ≡ true)
replaced_area l x y true e h = (e, h)
replaced_area l x y false e h = absurd (let none = no_holds (pos x) (pos y) in cc)

-- records can be painted
pub paintable : (w h : ℕ) (l : Look) → IsLookOn w h l → IsPremultiplied l.color → IsSoundContent l.object.content → InLimits l.object.rect → IsPaintable l
paintable w h l on color sound limits = record {
  keeps = λ x y value good. keeps l x y value color sound good;
  solid = λ x y here.
      let found = replaced_area l x y (replaces l) refl here in
      let both = and_parts (is_within l.area.x l.area.w (pos x)) (is_within l.area.y l.area.h (pos y)) found.1 in
      let wide = some_side l.area.x l.area.w l.object.rect.x l.object.rect.w (pos x) on.rect.left on.rect.right limits.w.high both.0 in
      let tall = some_side l.area.y l.area.h l.object.rect.y l.object.rect.h (pos y) on.rect.top on.rect.bottom limits.h.high both.1 in
      content_solid l.object.op l.color l.object.content (unsigned_abs l.object.rect.w) (unsigned_abs l.object.rect.h) _ _ on.limits.content sound wide.0 wide.1 tall.0 tall.1 found.0;
}
