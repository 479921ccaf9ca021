-- What is read is spelled so, and what is spelled so is read.
use Rattle.std.proofs.Common.{◌≡◌, ℕ, zero, suc, ◌+◌, ◌-◌, ◌*◌, ◌/◌, ◌^◌, ◌<◌, ◌≤◌, Bool, true, false, cond, ltb, ◌&&◌, List, [], ◌∷◌, ◌++◌, map, length, get_or, take, drop, Option, Some, None, Result, Ok, Err, refl, sym, ap, subst, ◌∙◌, append_assoc, eq-eqb, arith, inl, inr, ◌⊎◌}
use Rattle.std.proofs.lemmas.Bool.{and_parts, and_from, le-ltb, le-leb, eqb-true, cases_lt, ltb-false, leb-true}
use Rattle.std.proofs.lemmas.List.{length-drop, length-map, length-take, take_all, take_more, take-append-drop, take_at, drop_at, length-append, get_or-drop, get_or-take, get_or_past}
use Rattle.std.proofs.lemmas.List.Elements.{All-from_recursion, All-get_or, recursion_from_All}
use Rattle.std.proofs.lemmas.List.Folds.{drop_split}
use Rattle.std.proofs.lemmas.Nat.{le_bytes_4, from_le_bytes-to_le_bytes_4}
use Rattle.std.specs.Prelude.{codes, slice_range, nat_eq, nat_le, IfOk}
use lib.Pointwise.{pointwise}
use Rattle.std.specs.List.{All, flat_map, list_all, AllByRecursion}
use Rattle.std.specs.Int.{w32, to_le_bytes, from_le_bytes}
use Rattle.ev_image.specs.Format.{channels, even, is_even, magic, sides_place, head_len, pixel_len, pixel, spelling, CanSpell, Stands}
use Rattle.ev_image.proofs.Four.{next_good, pixel_channels, is_pixel_from}
use Rattle.ev_argb.specs.Argb.{Argb, IsPremultiplied}
use Rattle.ev_model.specs.Raster.{Raster, IsRaster}
use Rattle.ev_image.specs.declared.format.Format.{Format}
use Rattle.ev_image.specs.declared.format.Format.TheVariants.{Evi1, Evi2Argb, Evi2Alpha}
use Rattle.ev_image.specs.declared.fault.BadImage.{BadImage}
use Rattle.ev_image.specs.declared.fault.BadImage.TheVariants.{Magic, Size, Short, Long}
use Rattle.ev_image.specs.Reading.{AreSides, bad_pixel, pixels_of, checked_pixels, pixels_at, body_at, is_side, begins, kind_of, format_at, number_at, sides_at, image_at, Gives, ◌>>=◌}

-- the value of a step that did not fail
pub bind_ok : {A B : Type 0} (r : Result A BadImage) (f : A → Result B BadImage) (y : B) → (r >>= f) ≡ Ok y → (x : A) × (r ≡ Ok x) × (f x ≡ Ok y)
bind_ok (Ok x) f y e = (x, refl, e)
bind_ok (Err d) f y e = absurd cc

-- a test that did not fail
pub guard_ok : {A : Type 0} (b : Bool) (d : BadImage) (r : Result A BadImage) (y : A) → cond b (Err d) r ≡ Ok y → (b ≡ false) × (r ≡ Ok y)
guard_ok true d r y e = absurd cc
guard_ok false d r y e = (refl, e)

abbrev done : {A : Type 0} → A → Result A BadImage
done x = Ok x

pub ok_is : {A : Type 0} (x y : A) → done x ≡ done y → x ≡ y
ok_is x y e = cc

-- ---- how many pixels there are

pub length-pixels_of : (bytes : List ℕ) → length (pixels_of bytes) ≡ length bytes / 4
length-pixels_of [] = refl
length-pixels_of (a ∷ []) = refl
length-pixels_of (a ∷ r ∷ []) = refl
length-pixels_of (a ∷ r ∷ g ∷ []) = refl
length-pixels_of (a ∷ r ∷ g ∷ b ∷ bytes) = omega (arith, length-pixels_of bytes)

checked_ok : (bytes : List ℕ) (bad : Option ℕ) (pixels : List Argb) → checked_pixels bytes bad ≡ Ok pixels → (bad ≡ None) × (pixels_of bytes ≡ pixels)
checked_ok bytes None pixels e = (refl, ok_is (pixels_of bytes) pixels e)
checked_ok bytes (Some at) pixels e = absurd cc

pixels_count : (format : Format) (at : ℕ) (bytes : List ℕ) (count : ℕ) (pixels : List Argb) → length bytes ≡ pixel_len format * count → pixels_at format at bytes ≡ Ok pixels → length pixels ≡ count
pixels_count Evi1 at bytes count pixels len e =
    let p = checked_ok bytes (bad_pixel at bytes) pixels e in
    ap length (sym p.1) ∙ length-pixels_of bytes ∙ omega arith
pixels_count Evi2Argb at bytes count pixels len e =
    let p = checked_ok bytes (bad_pixel at bytes) pixels e in
    ap length (sym p.1) ∙ length-pixels_of bytes ∙ omega arith
pixels_count Evi2Alpha at bytes count pixels len e =
    let p = ok_is (map even bytes) pixels e in
    ap length (sym p) ∙ length-map bytes even ∙ omega arith

-- a body without fault has just the bytes of its pixels
pub body_ok : (format : Format) (count : ℕ) (bytes : List ℕ) (pixels : List Argb) → body_at format count bytes ≡ Ok pixels
    → (length bytes ≡ head_len format + pixel_len format * count) × (pixels_at format (head_len format) (drop (head_len format) bytes) ≡ Ok pixels)
unfolding body_at
body_ok format count bytes pixels e =
    let long = guard_ok (ltb (length bytes) (head_len format + pixel_len format * count)) (Short (length bytes)) _ pixels e in
    let short = guard_ok (ltb (head_len format + pixel_len format * count) (length bytes)) (Long (head_len format + pixel_len format * count)) _ pixels long.1 in
    let low = ltb-false _ _ long.0 in
    let high = ltb-false _ _ short.0 in
    (omega (arith, low, high), short.1)

pub body_count : (format : Format) (count : ℕ) (bytes : List ℕ) (pixels : List Argb) → body_at format count bytes ≡ Ok pixels → length pixels ≡ count
body_count format count bytes pixels e =
    let body = body_ok format count bytes pixels e in
    let len : length (drop (head_len format) bytes) ≡ pixel_len format * count = omega (arith, length-drop (head_len format) bytes, body.0) in
    pixels_count format (head_len format) (drop (head_len format) bytes) count pixels len body.1

-- the pixels that were read make an image
pub image_of : (format : Format) (w h : ℕ) (bytes : List ℕ) (pixels : List Argb) → AreSides w h → body_at format (w * h) bytes ≡ Ok pixels → IsRaster (record { w = w; h = h; pixels = pixels })
image_of format w h bytes pixels sides e = record {
  width_low = sides.width_low;
  width_high = sides.width_high;
  height_low = sides.height_low;
  height_high = sides.height_high;
  count = omega (arith, body_count format (w * h) bytes pixels e);
}

-- ---- what is read is spelled so

abbrev pub IsBytes : List ℕ → Type 0
IsBytes bytes = (i : ℕ) → get_or bytes i 0 < 256

pub are_bytes : (bytes : List ℕ) → All (λ b. b < 256) bytes → IsBytes bytes
are_bytes bytes small i =
    elim (cases_lt i (length bytes)) [
      | inl lt ↦ All-get_or (λ b. b < 256) bytes i 0 lt small
      | inr le ↦ rw (get_or_past bytes i 0 le) (omega arith)
    ]

IsBytes-drop : (n : ℕ) (bytes : List ℕ) → IsBytes bytes → IsBytes (drop n bytes)
IsBytes-drop n bytes h i = rw get_or-drop (h (n + i))

IsBytes-take : (n : ℕ) (bytes : List ℕ) → IsBytes bytes → IsBytes (take n bytes)
IsBytes-take n bytes h i =
    elim (cases_lt i n) [
      | inl lt ↦ rw (get_or-take n bytes i 0 lt) (h i)
      | inr le ↦ rw (get_or_past (take n bytes) i 0 (omega (arith, length-take n bytes))) (omega arith)
    ]

IsBytes-rest : (b : ℕ) (bytes : List ℕ) → IsBytes (b ∷ bytes) → IsBytes bytes
IsBytes-rest b bytes h i = h (suc i)

-- which way a test went
chosen : {A : Type 0} (b : Bool) (x y z : A) → cond b x y ≡ z → ((b ≡ true) × (x ≡ z)) ⊎ ((b ≡ false) × (y ≡ z))
chosen true x y z e = inl (refl, e)
chosen false x y z e = inr (refl, e)

pointwise_same : (xs ys : List ℕ) → pointwise nat_eq xs ys ≡ true → xs ≡ ys
pointwise_same [] [] e = refl
pointwise_same [] (y ∷ ys) e = absurd cc
pointwise_same (x ∷ xs) [] e = absurd cc
pointwise_same (x ∷ xs) (y ∷ ys) e =
    let parts = and_parts (nat_eq x y) (pointwise nat_eq xs ys) e in
    let first = eqb-true x y parts.0 in
    let rest = pointwise_same xs ys parts.1 in
    cc

-- four bytes that begin a word of four are the word
front_is : (word bytes : List ℕ) → length word ≡ 4 → 4 ≤ length bytes → begins word bytes ≡ true → take 4 bytes ≡ word
front_is word bytes len long e =
    let n : length (take 4 bytes) ≡ 4 = omega (arith, length-take 4 bytes) in
    let whole : take (length (take 4 bytes)) word ≡ word = take_all (length (take 4 bytes)) word (omega arith) in
    pointwise_same (take 4 bytes) word (rw whole at e)

kind_takes : (kind : ℕ) (format : Format) → kind_of kind ≡ Ok format → (magic format ≡ codes "EVI2" ++ kind ∷ []) × (sides_place format ≡ 5)
kind_takes zero format e = subst (λ (f : Format). (magic f ≡ codes "EVI2" ++ 0 ∷ []) × (sides_place f ≡ 5)) (ok_is Evi2Argb format e) (refl, refl)
kind_takes (suc zero) format e = subst (λ (f : Format). (magic f ≡ codes "EVI2" ++ 1 ∷ []) × (sides_place f ≡ 5)) (ok_is Evi2Alpha format e) (refl, refl)
kind_takes (suc (suc n)) format e = absurd cc

-- the first bytes of a format, and so many behind them that there are a width and a height
pub record Begins (format : Format) (bytes : List ℕ) : Type 0 where
  pub front : bytes ≡ magic format ++ drop (sides_place format) bytes
  pub long : head_len format ≤ length bytes

begins_evi1 : (bytes : List ℕ) → begins (codes "EVI1") bytes ≡ true → 12 ≤ length bytes → Begins Evi1 bytes
begins_evi1 bytes e long = record {
  front = sym (take-append-drop 4 bytes) ∙ ap (λ (t : List ℕ). t ++ drop 4 bytes) (front_is (codes "EVI1") bytes refl (omega arith) e);
  long = long;
}

begins_evi2 : (bytes : List ℕ) (format : Format) → begins (codes "EVI2") bytes ≡ true → 13 ≤ length bytes → kind_of (get_or bytes 4 0) ≡ Ok format → Begins format bytes
begins_evi2 bytes format e long kind =
    let k = kind_takes (get_or bytes 4 0) format kind in
    let word = front_is (codes "EVI2") bytes refl (omega arith) e in
    let five : take 5 bytes ≡ codes "EVI2" ++ get_or bytes 4 0 ∷ [] = take_more bytes 4 0 (omega arith) ∙ ap (λ (t : List ℕ). t ++ get_or bytes 4 0 ∷ []) word in
    record {
      front = rw (k.0, k.1) (sym (take-append-drop 5 bytes) ∙ ap (λ (t : List ℕ). t ++ drop 5 bytes) five);
      long = omega (arith, k.1);
    }

pub format_takes : (bytes : List ℕ) (format : Format) → format_at bytes ≡ Ok format → Begins format bytes
unfolding format_at
format_takes bytes format e =
    elim (chosen (begins (codes "EVI1") bytes) _ _ (Ok format) e) [
      | inl one ↦
          let long = guard_ok (ltb (length bytes) 12) (Short (length bytes)) (Ok Evi1) format one.1 in
          subst (λ (f : Format). Begins f bytes) (ok_is Evi1 format long.1) (begins_evi1 bytes one.0 (ltb-false _ _ long.0))
      | inr other ↦ elim (chosen (begins (codes "EVI2") bytes) _ _ (Ok format) other.1) [
        | inl two ↦
            let long = guard_ok (ltb (length bytes) 13) (Short (length bytes)) (kind_of (get_or bytes 4 0)) format two.1 in
            begins_evi2 bytes format two.0 (ltb-false _ _ long.0) long.1
        | inr neither ↦ absurd (let e : Err Magic ≡ Ok format = neither.1 in cc)
      ]
    ]

-- four bytes are those of their number
number_takes : (at : ℕ) (bytes : List ℕ) → IsBytes bytes → at + 4 ≤ length bytes → drop at bytes ≡ to_le_bytes w32 (number_at at bytes) ++ drop (at + 4) bytes
number_takes at bytes fits long =
    let four : length (slice_range bytes at (at + 4)) ≡ 4 = omega (arith, length-take (at + 4 - at) (drop at bytes), length-drop at bytes) in
    let low : IsBytes (slice_range bytes at (at + 4)) = IsBytes-take (at + 4 - at) (drop at bytes) (IsBytes-drop at bytes fits) in
    drop_split bytes at (at + 4) (omega arith) ∙ ap (λ (t : List ℕ). t ++ drop (at + 4) bytes) (sym (le_bytes_4 (slice_range bytes at (at + 4)) (number_at at bytes) four low refl))

-- the bytes of the pixels, and what is known of pixels
pub record AreSpelled (format : Format) (bytes : List ℕ) (pixels : List Argb) : Type 0 where
  pub spelled : bytes ≡ flat_map (pixel format) pixels
  pub valid : AllByRecursion IsPremultiplied pixels

channels_take : (at : ℕ) (bytes : List ℕ) (count : ℕ) → IsBytes bytes → length bytes ≡ 4 * count → bad_pixel at bytes ≡ None → (bytes ≡ flat_map channels (pixels_of bytes)) × AllByRecursion IsPremultiplied (pixels_of bytes)
channels_take at [] count fits len e = (refl, tt)
channels_take at (a ∷ []) count fits len e = absurd (omega arith)
channels_take at (a ∷ r ∷ []) count fits len e = absurd (omega arith)
channels_take at (a ∷ r ∷ g ∷ []) count fits len e = absurd (omega arith)
channels_take at (a ∷ r ∷ g ∷ b ∷ bytes) count fits len e =
    let first = next_good at 0 (a ∷ r ∷ g ∷ b ∷ bytes) (omega arith) e in
    let rest = channels_take at bytes (count - 1) (λ i. fits (suc (suc (suc (suc i))))) (omega arith) first.1 in
    let low = pixel_channels a r g b first.0 in
    (ap (λ (t : List ℕ). a ∷ r ∷ g ∷ b ∷ t) rest.0, (record { alpha = fits 0; red = low.0; green = low.1; blue = low.2 }, rest.1))

alpha_take : (bytes : List ℕ) → IsBytes bytes → (bytes ≡ flat_map (pixel Evi2Alpha) (map even bytes)) × AllByRecursion IsPremultiplied (map even bytes)
alpha_take [] fits = (refl, tt)
alpha_take (b ∷ bytes) fits =
    let rest = alpha_take bytes (IsBytes-rest b bytes fits) in
    (ap (λ (t : List ℕ). b ∷ t) rest.0, (record { alpha = fits 0; red = omega arith; green = omega arith; blue = omega arith }, rest.1))

eqb_same : (n : ℕ) → nat_eq n n ≡ true
eqb_same n = eq-eqb n n refl

all_even : (bytes : List ℕ) → list_all is_even (map even bytes) ≡ true
all_even [] = refl
all_even (b ∷ bytes) = rw (eqb_same b, all_even bytes) refl

-- what stands behind the first bytes, as it was read
pub record IsBody (format : Format) (bytes : List ℕ) (w h : ℕ) (pixels : List Argb) : Type 0 where
  pub spelled : bytes ≡ flat_map (pixel format) pixels
  pub valid : AllByRecursion IsPremultiplied pixels
  pub can : CanSpell format (record { w = w; h = h; pixels = pixels })

body_takes : (format : Format) (at : ℕ) (bytes : List ℕ) (count w h : ℕ) (pixels : List Argb) → IsBytes bytes → length bytes ≡ pixel_len format * count → pixels_at format at bytes ≡ Ok pixels → IsBody format bytes w h pixels
body_takes Evi1 at bytes count w h pixels fits len e =
    let p = checked_ok bytes (bad_pixel at bytes) pixels e in
    let both = channels_take at bytes count fits len p.0 in
    subst (λ (ps : List Argb). IsBody Evi1 bytes w h ps) p.1 (record { spelled = both.0; valid = both.1; can = tt })
body_takes Evi2Argb at bytes count w h pixels fits len e =
    let p = checked_ok bytes (bad_pixel at bytes) pixels e in
    let both = channels_take at bytes count fits len p.0 in
    subst (λ (ps : List Argb). IsBody Evi2Argb bytes w h ps) p.1 (record { spelled = both.0; valid = both.1; can = tt })
body_takes Evi2Alpha at bytes count w h pixels fits len e =
    let both = alpha_take bytes fits in
    subst (λ (ps : List Argb). IsBody Evi2Alpha bytes w h ps) (ok_is (map even bytes) pixels e) (record { spelled = both.0; valid = both.1; can = all_even bytes })

sides_take : (at : ℕ) (bytes : List ℕ) (sides : ℕ × ℕ) → sides_at at bytes ≡ Ok sides → (is_side (number_at at bytes) ≡ true) × (is_side (number_at (at + 4) bytes) ≡ true) × ((number_at at bytes, number_at (at + 4) bytes) ≡ sides)
unfolding sides_at
sides_take at bytes sides e =
    elim (chosen (is_side (number_at at bytes) && is_side (number_at (at + 4) bytes)) (Ok (number_at at bytes, number_at (at + 4) bytes)) (Err (Size at)) (Ok sides) e) [
      | inl both ↦
          let parts = and_parts _ _ both.0 in
          (parts.0, parts.1, ok_is (number_at at bytes, number_at (at + 4) bytes) sides both.1)
      | inr other ↦ absurd (let e : Err (Size at) ≡ Ok sides = other.1 in cc)
    ]

are_sides : (w h : ℕ) → is_side w ≡ true → is_side h ≡ true → AreSides w h
are_sides w h p q =
    let wide = and_parts (nat_le 1 w) (nat_le w 4096) p in
    let high = and_parts (nat_le 1 h) (nat_le h 4096) q in
    record { width_low = leb-true 1 w wide.0; width_high = leb-true w 4096 wide.1; height_low = leb-true 1 h high.0; height_high = leb-true h 4096 high.1 }

ap2 : {A B C : Type 0} (f : A → B → C) {a a' : A} {b b' : B} → a ≡ a' → b ≡ b' → f a b ≡ f a' b'
ap2 f p q = cc

-- the parts one behind the other
joined : (bytes : List ℕ) (format : Format) (image : Raster)
    → drop (sides_place format) bytes ≡ to_le_bytes w32 (number_at (sides_place format) bytes) ++ drop (sides_place format + 4) bytes
    → drop (sides_place format + 4) bytes ≡ to_le_bytes w32 (number_at (sides_place format + 4) bytes) ++ drop (sides_place format + 4 + 4) bytes
    → sides_place format + 4 + 4 ≡ head_len format
    → bytes ≡ magic format ++ drop (sides_place format) bytes
    → number_at (sides_place format) bytes ≡ image.w → number_at (sides_place format + 4) bytes ≡ image.h
    → drop (head_len format) bytes ≡ flat_map (pixel format) image.pixels → bytes ≡ spelling format image
joined bytes format image first second at front w-is h-is body =
    front
    ∙ ap (λ (t : List ℕ). magic format ++ t) (first ∙ ap2 (λ (n : ℕ) (t : List ℕ). to_le_bytes w32 n ++ t) w-is (second ∙ ap2 (λ (n : ℕ) (t : List ℕ). to_le_bytes w32 n ++ t) h-is (ap (λ (k : ℕ). drop k bytes) at ∙ body)))
    ∙ sym (append_assoc (magic format) (to_le_bytes w32 image.w) (to_le_bytes w32 image.h ++ flat_map (pixel format) image.pixels))
    ∙ sym (append_assoc (magic format ++ to_le_bytes w32 image.w) (to_le_bytes w32 image.h) (flat_map (pixel format) image.pixels))

-- an image that was read stands in the bytes
pub image_takes : (bytes : List ℕ) (image : Raster) → IsBytes bytes → image_at bytes ≡ Ok image → Stands bytes image
unfolding image_at
image_takes bytes image fits e =
    let f = bind_ok (format_at bytes) (λ format. sides_at (sides_place format) bytes >>= λ sides. body_at format (sides.0 * sides.1) bytes >>= λ pixels. Ok (record { w = sides.0; h = sides.1; pixels = pixels })) image e in
    let s = bind_ok (sides_at (sides_place f.0) bytes) (λ sides. body_at f.0 (sides.0 * sides.1) bytes >>= λ pixels. Ok (record { w = sides.0; h = sides.1; pixels = pixels })) image f.2 in
    let p = bind_ok (body_at f.0 (s.0.0 * s.0.1) bytes) (λ pixels. Ok (record { w = s.0.0; h = s.0.1; pixels = pixels })) image s.2 in
    let made : Raster = record { w = s.0.0; h = s.0.1; pixels = p.0 } in
    let front = format_takes bytes f.0 f.1 in
    let sides = sides_take (sides_place f.0) bytes s.0 s.1 in
    let w-is : number_at (sides_place f.0) bytes ≡ s.0.0 = ap (λ (x : ℕ × ℕ). x.0) sides.2 in
    let h-is : number_at (sides_place f.0 + 4) bytes ≡ s.0.1 = ap (λ (x : ℕ × ℕ). x.1) sides.2 in
    let within : AreSides s.0.0 s.0.1 = rw (← w-is, ← h-is) (are_sides _ _ sides.0 sides.1) in
    let body = body_ok f.0 (s.0.0 * s.0.1) bytes p.0 p.1 in
    let rest = drop (head_len f.0) bytes in
    let len : length rest ≡ pixel_len f.0 * (s.0.0 * s.0.1) = omega (arith, length-drop (head_len f.0) bytes, body.0) in
    let is_body = body_takes f.0 (head_len f.0) rest (s.0.0 * s.0.1) s.0.0 s.0.1 p.0 (IsBytes-drop (head_len f.0) bytes fits) len body.1 in
    let first = number_takes (sides_place f.0) bytes fits (omega (arith, front.long)) in
    let second = number_takes (sides_place f.0 + 4) bytes fits (omega (arith, front.long)) in
    let at-is : sides_place f.0 + 4 + 4 ≡ head_len f.0 = omega arith in
    let spelled : bytes ≡ spelling f.0 made = joined bytes f.0 made first second at-is front.front w-is h-is is_body.spelled in
    subst (λ (i : Raster). Stands bytes i) {x = made} (ok_is made image p.2) (record {
      valid = record { raster = image_of f.0 s.0.0 s.0.1 bytes p.0 within p.1; premultiplied = All-from_recursion IsPremultiplied p.0 is_body.valid };
      format = f.0;
      can = is_body.can;
      spelled = spelled;
    })

-- ---- what is spelled so is read

-- the first bytes of a format are read as that format
format_again : (format : Format) (rest : List ℕ) → 8 ≤ length rest → format_at (magic format ++ rest) ≡ Ok format
unfolding format_at
format_again Evi1 rest h =
    let long : ltb (length (magic Evi1 ++ rest)) 12 ≡ false = le-ltb _ _ (omega (arith, length-append (magic Evi1) rest)) in
    rw long refl
format_again Evi2Argb rest h =
    let long : ltb (length (magic Evi2Argb ++ rest)) 13 ≡ false = le-ltb _ _ (omega (arith, length-append (magic Evi2Argb) rest)) in
    rw long refl
format_again Evi2Alpha rest h =
    let long : ltb (length (magic Evi2Alpha ++ rest)) 13 ≡ false = le-ltb _ _ (omega (arith, length-append (magic Evi2Alpha) rest)) in
    rw long refl

-- the number of four bytes behind others
number_again : (at : ℕ) (front : List ℕ) (n : ℕ) (rest : List ℕ) → length front ≡ at → n < 2 ^ 32 → number_at at (front ++ (to_le_bytes w32 n ++ rest)) ≡ n
number_again at front n rest len fits =
    let four : at + 4 - at ≡ 4 = omega arith in
    let bytes : slice_range (front ++ (to_le_bytes w32 n ++ rest)) at (at + 4) ≡ to_le_bytes w32 n =
    ap2 (λ (k : ℕ) (t : List ℕ). take k t) four (drop_at front (to_le_bytes w32 n ++ rest) at len) ∙ take_at (to_le_bytes w32 n) rest 4 refl in
    ap (λ (t : List ℕ). from_le_bytes w32 t) bytes ∙ from_le_bytes-to_le_bytes_4 n fits

side_is : (n : ℕ) → 1 ≤ n → n ≤ 4096 → is_side n ≡ true
side_is n low high = and_from (nat_le 1 n) (nat_le n 4096) (le-leb 1 n low) (le-leb n 4096 high)

read_sides : (at : ℕ) (bytes : List ℕ) (w h : ℕ) → number_at at bytes ≡ w → number_at (at + 4) bytes ≡ h → is_side w && is_side h ≡ true → sides_at at bytes ≡ Ok (w, h)
unfolding sides_at
read_sides at bytes w h first second both = rw (first, second, both) refl

sides_again : (at : ℕ) (front : List ℕ) (w h : ℕ) (rest : List ℕ) → length front ≡ at → AreSides w h → sides_at at (front ++ (to_le_bytes w32 w ++ (to_le_bytes w32 h ++ rest))) ≡ Ok (w, h)
unfolding sides_at
sides_again at front w h rest len sides =
    let first = number_again at front w (to_le_bytes w32 h ++ rest) len (omega (arith, sides.width_high)) in
    let longer : length (front ++ to_le_bytes w32 w) ≡ at + 4 = omega (arith, length-append front (to_le_bytes w32 w)) in
    let second = ap (number_at (at + 4)) (sym (append_assoc front (to_le_bytes w32 w) (to_le_bytes w32 h ++ rest))) ∙ number_again (at + 4) (front ++ to_le_bytes w32 w) h rest longer (omega (arith, sides.height_high)) in
    let both = and_from (is_side w) (is_side h) (side_is w sides.width_low sides.width_high) (side_is h sides.height_low sides.height_high) in
    read_sides at _ w h first second both

none_bad_again : (at : ℕ) (pixels : List Argb) → AllByRecursion IsPremultiplied pixels → bad_pixel at (flat_map channels pixels) ≡ None
none_bad_again at [] valid = refl
none_bad_again at (p ∷ pixels) valid = rw (is_pixel_from p.a p.r p.g p.b valid.0.red valid.0.green valid.0.blue) (none_bad_again (at + 4) pixels valid.1)

pixels_again : (pixels : List Argb) → pixels_of (flat_map channels pixels) ≡ pixels
pixels_again [] = refl
pixels_again (p ∷ pixels) = ap (λ (ps : List Argb). p ∷ ps) (pixels_again pixels)

channels_again : (at : ℕ) (pixels : List Argb) → AllByRecursion IsPremultiplied pixels → checked_pixels (flat_map channels pixels) (bad_pixel at (flat_map channels pixels)) ≡ Ok pixels
channels_again at pixels valid = rw (none_bad_again at pixels valid, pixels_again pixels) refl

even_cells : (a r g b : ℕ) → r ≡ a → g ≡ a → b ≡ a → even a ≡ record { a = a; r = r; g = g; b = b }
even_cells a r g b red green blue = rw (red, green, blue) refl

even_is : (p : Argb) → is_even p ≡ true → even p.a ≡ p
even_is p e =
    let outer = and_parts _ _ e in
    let inner = and_parts _ _ outer.0 in
    even_cells p.a p.r p.g p.b (eqb-true p.r p.a inner.0) (eqb-true p.g p.a inner.1) (eqb-true p.b p.a outer.1)

alpha_again : (pixels : List Argb) → list_all is_even pixels ≡ true → map even (flat_map (pixel Evi2Alpha) pixels) ≡ pixels
alpha_again [] e = refl
alpha_again (p ∷ pixels) e =
    let parts = and_parts (is_even p) (list_all is_even pixels) e in
    let rest = alpha_again pixels parts.1 in
    let first = even_is p parts.0 in
    cc

pixels_at_again : (format : Format) (at : ℕ) (image : Raster) → AllByRecursion IsPremultiplied image.pixels → CanSpell format image → pixels_at format at (flat_map (pixel format) image.pixels) ≡ Ok image.pixels
pixels_at_again Evi1 at image valid can = channels_again at image.pixels valid
pixels_at_again Evi2Argb at image valid can = channels_again at image.pixels valid
pixels_at_again Evi2Alpha at image valid can = ap (λ (ps : List Argb). done ps) (alpha_again image.pixels can)

pixels_len : (format : Format) (pixels : List Argb) → length (flat_map (pixel format) pixels) ≡ pixel_len format * length pixels
pixels_len format [] = omega arith
pixels_len Evi1 (p ∷ pixels) = omega (arith, pixels_len Evi1 pixels)
pixels_len Evi2Argb (p ∷ pixels) = omega (arith, pixels_len Evi2Argb pixels)
pixels_len Evi2Alpha (p ∷ pixels) = omega (arith, pixels_len Evi2Alpha pixels)

body_again : (format : Format) (front body : List ℕ) (count : ℕ) (pixels : List Argb) → length front ≡ head_len format → length body ≡ pixel_len format * count → pixels_at format (head_len format) body ≡ Ok pixels → body_at format count (front ++ body) ≡ Ok pixels
unfolding body_at
body_again format front body count pixels head len e =
    let whole : length (front ++ body) ≡ head_len format + pixel_len format * count = omega (arith, length-append front body) in
    let long : ltb (length (front ++ body)) (head_len format + pixel_len format * count) ≡ false = le-ltb _ _ (omega arith) in
    let short : ltb (head_len format + pixel_len format * count) (length (front ++ body)) ≡ false = le-ltb _ _ (omega arith) in
    let rest = drop_at front body (head_len format) head in
    rw (long, short, rest) e

magic_len : (format : Format) → length (magic format) ≡ sides_place format
magic_len Evi1 = refl
magic_len Evi2Argb = refl
magic_len Evi2Alpha = refl

-- the parts of a spelling, grouped to the right
regrouped : (format : Format) (image : Raster) → spelling format image ≡ magic format ++ (to_le_bytes w32 image.w ++ (to_le_bytes w32 image.h ++ flat_map (pixel format) image.pixels))
regrouped format image =
    append_assoc (magic format ++ to_le_bytes w32 image.w) (to_le_bytes w32 image.h) (flat_map (pixel format) image.pixels)
    ∙ append_assoc (magic format) (to_le_bytes w32 image.w) (to_le_bytes w32 image.h ++ flat_map (pixel format) image.pixels)

-- what stands for an image is read as that image
pub image_again : (bytes : List ℕ) (image : Raster) → Stands bytes image → image_at bytes ≡ Ok image
unfolding image_at
image_again bytes image stands =
    let format = stands.format in
    let sides : AreSides image.w image.h = record { width_low = stands.valid.raster.width_low; width_high = stands.valid.raster.width_high; height_low = stands.valid.raster.height_low; height_high = stands.valid.raster.height_high } in
    let head = magic format ++ to_le_bytes w32 image.w ++ to_le_bytes w32 image.h in
    let body = flat_map (pixel format) image.pixels in
    let rest = to_le_bytes w32 image.w ++ (to_le_bytes w32 image.h ++ body) in
    let valid = recursion_from_All IsPremultiplied image.pixels stands.valid.premultiplied in
    let is = stands.spelled ∙ regrouped format image in
    let one = ap format_at is ∙ format_again format rest (omega (arith, length-append (to_le_bytes w32 image.w) (to_le_bytes w32 image.h ++ body), length-append (to_le_bytes w32 image.h) body)) in
    let two = ap (sides_at (sides_place format)) is ∙ sides_again (sides_place format) (magic format) image.w image.h body (magic_len format) sides in
    let head_is : length head ≡ head_len format = omega (arith, length-append (magic format ++ to_le_bytes w32 image.w) (to_le_bytes w32 image.h), length-append (magic format) (to_le_bytes w32 image.w), magic_len format) in
    let count : length image.pixels ≡ image.w * image.h = omega (arith, stands.valid.raster.count) in
    let len : length body ≡ pixel_len format * (image.w * image.h) = pixels_len format image.pixels ∙ ap (λ (n : ℕ). pixel_len format * n) count in
    let three = ap (body_at format (image.w * image.h)) stands.spelled ∙ body_again format head body (image.w * image.h) image.pixels head_is len (pixels_at_again format (head_len format) image valid stands.can) in
    rw (one, two, three) refl

-- what an answer tells of the bytes, if it is an image
pub is_found : (bytes : List ℕ) (result : Result Raster BadImage) → IsBytes bytes → Gives (λ image. image) result (image_at bytes) → IfOk result (λ image. Stands bytes image)
is_found bytes (Ok image) fits e = image_takes bytes image fits e
is_found bytes (Err fault) fits e = tt

-- bytes stand for one image at most
pub same_image : (bytes : List ℕ) (a b : Raster) → Stands bytes a → Stands bytes b → a ≡ b
same_image bytes a b p q = ok_is a b (sym (image_again bytes a p) ∙ image_again bytes b q)
