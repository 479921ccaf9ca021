-- Bytes four at a time.
use Rattle.std.proofs.Common.{◌≡◌, ℕ, ◌+◌, ◌*◌, ◌/◌, ◌<◌, ◌≤◌, Bool, true, false, cond, List, [], ◌∷◌, ◌++◌, length, get_or, take, drop, set, Option, Some, None, Ok, refl, sym, ◌∙◌, arith, append_assoc}
use Rattle.std.proofs.lemmas.List.{append-nil, drop_more, length-drop, take_all, take_more_set}
use Rattle.std.proofs.lemmas.Bool.{leb-true, and_parts}
use Rattle.std.proofs.lemmas.Bool.Decides.{nat_tests}
use Rattle.ev_argb.specs.Argb.{Argb, clear}
use Rattle.std.specs.Prelude.{is_some}
use Rattle.std.specs.Option.{unwrap_or}
use Rattle.ev_image.specs.Reading.{is_pixel, bad_pixel, pixel_of, pixels_of, checked_pixels}

-- the next four bytes
pub next : (bytes : List ℕ) (i : ℕ) → i < length bytes / 4
    → drop (4 * i) bytes ≡ get_or bytes (4 * i) 0 ∷ get_or bytes (4 * i + 1) 0 ∷ get_or bytes (4 * i + 2) 0 ∷ get_or bytes (4 * i + 3) 0 ∷ drop (4 * (i + 1)) bytes
next bytes i h =
    let e0 = drop_more bytes (4 * i) 0 (omega arith) in
    let e1 = drop_more bytes (4 * i + 1) 0 (omega arith) in
    let e2 = drop_more bytes (4 * i + 1 + 1) 0 (omega arith) in
    let e3 = drop_more bytes (4 * i + 1 + 1 + 1) 0 (omega arith) in
    let n2 : 4 * i + 1 + 1 ≡ 4 * i + 2 = omega arith in
    let n3 : 4 * i + 2 + 1 ≡ 4 * i + 3 = omega arith in
    let n4 : 4 * i + 3 + 1 ≡ 4 * (i + 1) = omega arith in
    cc

-- too few bytes for a pixel
pub none_bad : (at : ℕ) (bytes : List ℕ) → length bytes < 4 → bad_pixel at bytes ≡ None
none_bad at [] h = refl
none_bad at (a ∷ []) h = refl
none_bad at (a ∷ r ∷ []) h = refl
none_bad at (a ∷ r ∷ g ∷ []) h = refl
none_bad at (a ∷ r ∷ g ∷ b ∷ bytes) h = absurd (omega arith)

pub no_pixels : (bytes : List ℕ) → length bytes < 4 → pixels_of bytes ≡ []
no_pixels [] h = refl
no_pixels (a ∷ []) h = refl
no_pixels (a ∷ r ∷ []) h = refl
no_pixels (a ∷ r ∷ g ∷ []) h = refl
no_pixels (a ∷ r ∷ g ∷ b ∷ bytes) h = absurd (omega arith)

-- the end of a loop over fours
pub rest_short : (bytes : List ℕ) (i : ℕ) → length bytes / 4 ≤ i → length (drop (4 * i) bytes) < 4
rest_short bytes i h = omega (arith, length-drop (4 * i) bytes)

-- where the bytes stand has no say in whether one is bad
pub good_anywhere : (p q : ℕ) (bytes : List ℕ) → bad_pixel p bytes ≡ None → bad_pixel q bytes ≡ None
good_anywhere p q [] h = refl
good_anywhere p q (a ∷ []) h = refl
good_anywhere p q (a ∷ r ∷ []) h = refl
good_anywhere p q (a ∷ r ∷ g ∷ []) h = refl
good_anywhere p q (a ∷ r ∷ g ∷ b ∷ bytes) h = good_here (is_pixel a r g b) (good_anywhere (p + 4) (q + 4) bytes) h
  where
    good_here : (valid : Bool) → (bad_pixel (p + 4) bytes ≡ None → bad_pixel (q + 4) bytes ≡ None) → cond valid (bad_pixel (p + 4) bytes) (Some p) ≡ None → cond valid (bad_pixel (q + 4) bytes) (Some q) ≡ None
    good_here true rest h = rest h
    good_here false rest h = absurd cc

-- pixels of which none is bad, wherever they stand
pub checked_again : (at : ℕ) (bytes : List ℕ) (pixels : List Argb) → bad_pixel 0 bytes ≡ None → pixels ≡ pixels_of bytes → checked_pixels bytes (bad_pixel at bytes) ≡ Ok pixels
checked_again at bytes pixels good is = rw (good_anywhere 0 at bytes good, is) refl

-- one more pixel is looked at, and is one
pub goes_on : (at i : ℕ) (bytes : List ℕ) → i < length bytes / 4
    → is_pixel (get_or bytes (4 * i) 0) (get_or bytes (4 * i + 1) 0) (get_or bytes (4 * i + 2) 0) (get_or bytes (4 * i + 3) 0) ≡ true
    → bad_pixel (at + 4 * i) (drop (4 * i) bytes) ≡ bad_pixel (at + 4 * (i + 1)) (drop (4 * (i + 1)) bytes)
goes_on at i bytes h valid =
    let n : at + 4 * i + 4 ≡ at + 4 * (i + 1) = omega arith in
    rw (next bytes i h, valid, n) refl

-- one more pixel is looked at, and is none
pub found : (at i : ℕ) (bytes : List ℕ) → i < length bytes / 4
    → is_pixel (get_or bytes (4 * i) 0) (get_or bytes (4 * i + 1) 0) (get_or bytes (4 * i + 2) 0) (get_or bytes (4 * i + 3) 0) ≡ false
    → bad_pixel (at + 4 * i) (drop (4 * i) bytes) ≡ Some (at + 4 * i)
found at i bytes h invalid = rw (next bytes i h, invalid) refl

-- no pixel is bad: the next one isn't, and none behind it is
pub next_good : (at i : ℕ) (bytes : List ℕ) → i < length bytes / 4 → bad_pixel at (drop (4 * i) bytes) ≡ None
    → (is_pixel (get_or bytes (4 * i) 0) (get_or bytes (4 * i + 1) 0) (get_or bytes (4 * i + 2) 0) (get_or bytes (4 * i + 3) 0) ≡ true) × (bad_pixel at (drop (4 * (i + 1)) bytes) ≡ None)
next_good at i bytes h good = split (is_pixel (get_or bytes (4 * i) 0) (get_or bytes (4 * i + 1) 0) (get_or bytes (4 * i + 2) 0) (get_or bytes (4 * i + 3) 0)) (rw (next bytes i h) at good)
  where
    split : (valid : Bool) → cond valid (bad_pixel (at + 4) (drop (4 * (i + 1)) bytes)) (Some at) ≡ None → (valid ≡ true) × (bad_pixel at (drop (4 * (i + 1)) bytes) ≡ None)
    split true h = (refl, good_anywhere (at + 4) at (drop (4 * (i + 1)) bytes) h)
    split false h = absurd cc

-- one more pixel is written behind those before it
pub written : (into : List Argb) (bytes : List ℕ) (i : ℕ) (p : Argb) → i < length into → i < length bytes / 4
    → p ≡ record { a = get_or bytes (4 * i) 0; r = get_or bytes (4 * i + 1) 0; g = get_or bytes (4 * i + 2) 0; b = get_or bytes (4 * i + 3) 0 }
    → take i into ++ pixels_of (drop (4 * i) bytes) ≡ pixels_of bytes
    → take (i + 1) (set into i p) ++ pixels_of (drop (4 * (i + 1)) bytes) ≡ pixels_of bytes
written into bytes i p within h is so_far =
    let now : take i into ++ p ∷ pixels_of (drop (4 * (i + 1)) bytes) ≡ pixels_of bytes = rw is (rw (next bytes i h) at so_far) in
    rw (take_more_set into i p within, append_assoc) now

-- what is known after i pixels, if all were good: the rest decides whether one is bad, and those so far stand before those of the rest
pub record AreFilled (into : List Argb) (bytes : List ℕ) (i : ℕ) : Type 0 where
  pub good : bad_pixel 0 bytes ≡ bad_pixel (0 + 4 * i) (drop (4 * i) bytes)
  pub value : take i into ++ pixels_of (drop (4 * i) bytes) ≡ pixels_of bytes

-- a pixel that was found good, with its channels
was_good : (result : Option Argb) (a r g b : ℕ) → result ≡ pixel_of a r g b → is_some result ≡ true → (is_pixel a r g b ≡ true) × (unwrap_or result clear ≡ record { a = a; r = r; g = g; b = b })
was_good result a r g b is some = cases (is_pixel a r g b) is
  where
    cases : (good : Bool) → result ≡ cond good (Some (record { a = a; r = r; g = g; b = b })) None → (good ≡ true) × (unwrap_or result clear ≡ record { a = a; r = r; g = g; b = b })
    cases true e = (refl, rw e refl)
    cases false e = absurd (let none : is_some result ≡ false = rw e refl in cc)

pub one_more : (into : List Argb) (bytes : List ℕ) (i : ℕ) (result : Option Argb) → i < length into → i < length bytes / 4
    → result ≡ pixel_of (get_or bytes (4 * i) 0) (get_or bytes (4 * i + 1) 0) (get_or bytes (4 * i + 2) 0) (get_or bytes (4 * i + 3) 0)
    → is_some result ≡ true → AreFilled into bytes i → AreFilled (set into i (unwrap_or result clear)) bytes (i + 1)
one_more into bytes i result within h is some so_far =
    let now = was_good result _ _ _ _ is some in
    record {
      good = so_far.good ∙ goes_on 0 i bytes h now.0;
      value = written into bytes i (unwrap_or result clear) within h now.1 so_far.value;
    }

pub is_pixel_from : (a r g b : ℕ) → r ≤ a → g ≤ a → b ≤ a → is_pixel a r g b ≡ true
is_pixel_from a r g b red green blue = grind (arith, nat_tests)

pub pixel_channels : (a r g b : ℕ) → is_pixel a r g b ≡ true → (r ≤ a) × (g ≤ a) × (b ≤ a)
pixel_channels a r g b h =
    let outer = and_parts _ _ h in
    let inner = and_parts _ _ outer.0 in
    (leb-true r a inner.0, leb-true g a inner.1, leb-true b a outer.1)

pub no_pixel_from : (a r g b : ℕ) → (r ≤ a → g ≤ a → b ≤ a → ⊥) → is_pixel a r g b ≡ false
no_pixel_from a r g b refuted = cases (is_pixel a r g b) refl
  where
    cases : (valid : Bool) → is_pixel a r g b ≡ valid → is_pixel a r g b ≡ false
    cases true h = absurd (refuted (pixel_channels a r g b h).0 (pixel_channels a r g b h).1 (pixel_channels a r g b h).2)
    cases false h = h

-- all pixels are written
pub finished : (into : List Argb) (bytes : List ℕ) (i : ℕ) → length into ≤ i → length bytes / 4 ≤ i → take i into ++ pixels_of (drop (4 * i) bytes) ≡ pixels_of bytes → into ≡ pixels_of bytes
finished into bytes i all h so_far =
    let none = no_pixels (drop (4 * i) bytes) (rest_short bytes i h) in
    let whole : take i into ++ pixels_of (drop (4 * i) bytes) ≡ into = rw (none, take_all i into all) (append-nil into) in
    sym whole ∙ so_far
