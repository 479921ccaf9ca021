-- What is read is spelled so, and what is spelled so is read.
use Rattle.std.proofs.Common.{◌≡◌, ℕ, zero, suc, ◌+◌, ◌-◌, ◌*◌, ◌/◌, ◌^◌, ◌<◌, ◌≤◌, Bool, true, false, cond, ltb, not, ◌&&◌, List, [], ◌∷◌, ◌++◌, length, get_or, take, drop, Option, Some, None, Result, Ok, Err, refl, sym, ap, ap₂, subst, ◌∙◌, append_assoc, arith, inl, inr, lit<}
use Rattle.std.specs.Prelude.{codes, nat_eq, nat_le, IfOk}
use Rattle.std.specs.List.{flat_map, list_all, AllByRecursion, All, position, prefix_len}
use Rattle.std.specs.Int.{w32, to_le_bytes, from_le_bytes}
use lib.Pointwise.{pointwise}
use Rattle.std.proofs.Math.Nat.{pow-le-pow_right}
use Rattle.std.proofs.lemmas.Bool.{not-false, and_parts, and_from, cases_lt, eqb-true, leb-true, ltb-false, ltb-true, lt-ltb, le-ltb, le-leb}
use Rattle.std.proofs.lemmas.List.{length-drop, length-take, length-append, take_all, take_at, drop_at, take_more, take-append-drop, get_or-drop, get_or_past, drop-drop}
use Rattle.std.proofs.lemmas.List.Elements.{All-from_recursion, All-get_or, recursion_from_All}
use Rattle.std.proofs.lemmas.Nat.{le_bytes_4, from_le_bytes-to_le_bytes_4}
use Rattle.ev_model.specs.Glyphs.{Glyphs, IsFont, RowsFit}
use Rattle.ev_text.specs.declared.fault.BadFont.{BadFont}
use Rattle.ev_text.specs.declared.fault.BadFont.TheVariants.{Magic, Height, Short, Long}
use Rattle.ev_text.specs.FontFormat.{spelling, Stands}
use Rattle.ev_text.specs.FontReading.{begins, height_at, is_wide, checked_widths, widths_at, rows_of, fits, bad_glyph, checked_rows, rows_at, font_at, Gives, ◌>>=◌}

-- the value of a step that did not fail
bind_ok : {A B : Type 0} (r : Result A BadFont) (f : A → Result B BadFont) (y : B) → (r >>= f) ≡ Ok y → (x : A) × (r ≡ Ok x) × (f x ≡ Ok y)
bind_ok (Ok x) f y e = (x, refl, e)
bind_ok (Err d) f y e = absurd cc

-- a test that did not fail
guard_ok : {A : Type 0} (b : Bool) (d : BadFont) (r : Result A BadFont) (y : A) → cond b (Err d) r ≡ Ok y → (b ≡ false) × (r ≡ Ok y)
guard_ok true d r y e = absurd cc
guard_ok false d r y e = (refl, e)

pass_ok : {A : Type 0} (b : Bool) (d : BadFont) (r : Result A BadFont) (y : A) → cond b r (Err d) ≡ Ok y → (b ≡ true) × (r ≡ Ok y)
pass_ok true d r y e = (refl, e)
pass_ok false d r y e = absurd cc

abbrev done : {A : Type 0} → A → Result A BadFont
done x = Ok x

ok_is : {A : Type 0} (x y : A) → done x ≡ done y → x ≡ y
ok_is x y e = cc

-- ---- rows

checked_rows_ok : (rows : List ℕ) (bad : Option ℕ) (found : List ℕ) → checked_rows rows bad ≡ Ok found → (bad ≡ None) × (rows ≡ found)
checked_rows_ok rows None found e = (refl, ok_is rows found e)
checked_rows_ok rows (Some glyph) found e = absurd cc

-- bytes of the right length are just the rows
pub rows_whole : (height : ℕ) (widths bytes : List ℕ) → 100 + 380 * height ≤ length bytes → length bytes ≤ 100 + 380 * height
    → rows_at height widths bytes ≡ checked_rows (rows_of (drop 100 bytes)) (bad_glyph 0 height widths (rows_of (drop 100 bytes)))
unfolding rows_at
rows_whole height widths bytes low high = rw (le-ltb (length bytes) (100 + 380 * height) low, le-ltb (100 + 380 * height) (length bytes) high) refl

record RowsAt (height : ℕ) (widths bytes rows : List ℕ) : Type 0 where
  len : length bytes ≡ 100 + 380 * height
  good : bad_glyph 0 height widths (rows_of (drop 100 bytes)) ≡ None
  same : rows_of (drop 100 bytes) ≡ rows

rows_ok : (height : ℕ) (widths bytes rows : List ℕ) → rows_at height widths bytes ≡ Ok rows → RowsAt height widths bytes rows
unfolding rows_at
rows_ok height widths bytes rows e =
    let long = guard_ok (ltb (length bytes) (100 + 380 * height)) (Short (length bytes)) _ rows e in
    let short = guard_ok (ltb (100 + 380 * height) (length bytes)) (Long (100 + 380 * height)) _ rows long.1 in
    let found = checked_rows_ok (rows_of (drop 100 bytes)) _ rows short.1 in
    let low = ltb-false _ _ long.0 in
    let high = ltb-false _ _ short.0 in
    record { len = omega (arith, low, high); good = found.0; same = found.1 }

length-rows_of : (bytes : List ℕ) → length (rows_of bytes) ≡ length bytes / 4
length-rows_of [] = refl
length-rows_of (a ∷ []) = refl
length-rows_of (a ∷ b ∷ []) = refl
length-rows_of (a ∷ b ∷ c ∷ []) = refl
length-rows_of (a ∷ b ∷ c ∷ d ∷ bytes) = omega (arith, length-rows_of bytes)

all_fit : (width : ℕ) (rows : List ℕ) → list_all (fits width) rows ≡ true → AllByRecursion (λ row. row < 2 ^ width) rows
all_fit width [] e = tt
all_fit width (row ∷ rows) e =
    let parts = and_parts (fits width row) (list_all (fits width) rows) e in
    (ltb-true row (2 ^ width) parts.0, all_fit width rows parts.1)

rows_fit : (glyph height : ℕ) (widths rows : List ℕ) → bad_glyph glyph height widths rows ≡ None → RowsFit height widths rows
rows_fit glyph height [] rows e = tt
rows_fit glyph height (width ∷ widths) rows e = split (list_all (fits width) (take height rows)) refl (λ good. rows_fit (glyph + 1) height widths (drop height rows) good) e
  where
    split : (fit : Bool) → list_all (fits width) (take height rows) ≡ fit → (bad_glyph (glyph + 1) height widths (drop height rows) ≡ None → RowsFit height widths (drop height rows))
        → cond fit (bad_glyph (glyph + 1) height widths (drop height rows)) (Some glyph) ≡ None → AllByRecursion (λ row. row < 2 ^ width) (take height rows) × RowsFit height widths (drop height rows)
    split true is rest good = (all_fit width (take height rows) is, rest good)
    split false is rest good = absurd cc

-- the parts that were read make a font
pub font_of : (height : ℕ) (widths bytes rows : List ℕ) → 1 ≤ height → height ≤ 32 → length widths ≡ 95 → All (λ width. width ≤ 32) widths → rows_at height widths bytes ≡ Ok rows → IsFont (record { height = height; widths = widths; rows = rows })
font_of height widths bytes rows low high count narrow e =
    let found = rows_ok height widths bytes rows e in
    let len : length (rows_of (drop 100 bytes)) ≡ 95 * height = length-rows_of (drop 100 bytes) ∙ omega (arith, length-drop 100 bytes, found.len) in
    record {
      height_low = low;
      height_high = high;
      count = count;
      widths = recursion_from_All (λ width. width ≤ 32) widths narrow;
      rows_count = ap length (sym found.same) ∙ len;
      rows_fit = subst (λ (rows : List ℕ). RowsFit height widths rows) found.same (rows_fit 0 height widths (rows_of (drop 100 bytes)) found.good);
    }

-- ---- what is read is spelled so

abbrev pub IsBytes : List ℕ → Type 0
IsBytes bytes = (i : ℕ) → get_or bytes i 0 < 256

pub are_bytes : (bytes : List ℕ) → All (λ b. b < 256) bytes → IsBytes bytes
are_bytes bytes small i =
    elim (cases_lt i (length bytes)) [
      | inl lt ↦ All-get_or (λ b. b < 256) bytes i 0 lt small
      | inr le ↦ rw (get_or_past bytes i 0 le) (omega arith)
    ]

IsBytes-drop : (n : ℕ) (bytes : List ℕ) → IsBytes bytes → IsBytes (drop n bytes)
IsBytes-drop n bytes h i = rw get_or-drop (h (n + i))

pointwise_same : (xs ys : List ℕ) → pointwise nat_eq xs ys ≡ true → xs ≡ ys
pointwise_same [] [] e = refl
pointwise_same [] (y ∷ ys) e = absurd cc
pointwise_same (x ∷ xs) [] e = absurd cc
pointwise_same (x ∷ xs) (y ∷ ys) e =
    let parts = and_parts (nat_eq x y) (pointwise nat_eq xs ys) e in
    let first = eqb-true x y parts.0 in
    let rest = pointwise_same xs ys parts.1 in
    cc

-- four bytes that begin a word of four are the word
front_is : (word bytes : List ℕ) → length word ≡ 4 → 4 ≤ length bytes → begins word bytes ≡ true → take 4 bytes ≡ word
front_is word bytes len long e =
    let n : length (take 4 bytes) ≡ 4 = omega (arith, length-take 4 bytes) in
    let whole : take (length (take 4 bytes)) word ≡ word = take_all (length (take 4 bytes)) word (omega arith) in
    pointwise_same (take 4 bytes) word (rw whole at e)

-- the first five bytes, behind which the widths stand
record HeightAt (bytes : List ℕ) (height : ℕ) : Type 0 where
  front : take 5 bytes ≡ codes "EVF1" ++ height ∷ []
  low : 1 ≤ height
  high : height ≤ 32
  long : 100 ≤ length bytes

height_takes : (bytes : List ℕ) (height : ℕ) → height_at bytes ≡ Ok height → HeightAt bytes height
unfolding height_at
height_takes bytes height e =
    let word = guard_ok (not (begins (codes "EVF1") bytes)) Magic _ height e in
    let long = guard_ok (ltb (length bytes) 100) (Short (length bytes)) _ height word.1 in
    let range = pass_ok (nat_le 1 (get_or bytes 4 0) && nat_le (get_or bytes 4 0) 32) Height (Ok (get_or bytes 4 0)) height long.1 in
    let enough = ltb-false _ _ long.0 in
    let four : take 4 bytes ≡ codes "EVF1" = front_is (codes "EVF1") bytes refl (omega (arith, enough)) (not-false (begins (codes "EVF1") bytes) word.0) in
    let sides = and_parts (nat_le 1 (get_or bytes 4 0)) (nat_le (get_or bytes 4 0) 32) range.0 in
    subst (HeightAt bytes) (ok_is (get_or bytes 4 0) height range.1) (record {
      front = take_more bytes 4 0 (omega (arith, enough)) ∙ ap (λ (t : List ℕ). t ++ get_or bytes 4 0 ∷ []) four;
      low = leb-true 1 (get_or bytes 4 0) sides.0;
      high = leb-true (get_or bytes 4 0) 32 sides.1;
      long = enough;
    })

checked_widths_ok : (widths : List ℕ) (wide : Option ℕ) (found : List ℕ) → checked_widths widths wide ≡ Ok found → (wide ≡ None) × (widths ≡ found)
checked_widths_ok widths None found e = (refl, ok_is widths found e)
checked_widths_ok widths (Some glyph) found e = absurd cc

widths_take : (bytes widths : List ℕ) → widths_at bytes ≡ Ok widths → (position is_wide (take 95 (drop 5 bytes)) ≡ None) × (take 95 (drop 5 bytes) ≡ widths)
unfolding widths_at
widths_take bytes widths e = checked_widths_ok (take 95 (drop 5 bytes)) (position is_wide (take 95 (drop 5 bytes))) widths e

narrow_all : (widths : List ℕ) → length widths ≤ prefix_len (λ width. not (is_wide width)) widths → AllByRecursion (λ width. width ≤ 32) widths
narrow_all [] e = tt
narrow_all (width ∷ widths) e = split (is_wide width) refl (narrow_all widths) e
  where
    split : (wide : Bool) → is_wide width ≡ wide → (length widths ≤ prefix_len (λ width. not (is_wide width)) widths → AllByRecursion (λ width. width ≤ 32) widths)
        → suc (length widths) ≤ cond (not wide) (1 + prefix_len (λ width. not (is_wide width)) widths) 0 → (width ≤ 32) × AllByRecursion (λ width. width ≤ 32) widths
    split true is rest h = absurd (omega arith)
    split false is rest h = (ltb-false 32 width is, rest (omega arith))

-- where no glyph is found that is too wide, none is
narrow : (widths : List ℕ) → position is_wide widths ≡ None → AllByRecursion (λ width. width ≤ 32) widths
narrow widths none = split (ltb (prefix_len (λ width. not (is_wide width)) widths) (length widths)) refl none
  where
    split : (found : Bool) → ltb (prefix_len (λ width. not (is_wide width)) widths) (length widths) ≡ found → cond found (Some (prefix_len (λ width. not (is_wide width)) widths)) None ≡ None → AllByRecursion (λ width. width ≤ 32) widths
    split true is e = absurd cc
    split false is e = narrow_all widths (ltb-false _ _ is)

four_fit : (a b c d : ℕ) → a < 256 → b < 256 → c < 256 → d < 256 → IsBytes (a ∷ b ∷ c ∷ d ∷ [])
four_fit a b c d p q r s zero = p
four_fit a b c d p q r s (suc zero) = q
four_fit a b c d p q r s (suc (suc zero)) = r
four_fit a b c d p q r s (suc (suc (suc zero))) = s
four_fit a b c d p q r s (suc (suc (suc (suc i)))) = omega arith

rows_take : (bytes : List ℕ) (count : ℕ) → IsBytes bytes → length bytes ≡ 4 * count → flat_map (to_le_bytes w32) (rows_of bytes) ≡ bytes
rows_take [] count fits len = refl
rows_take (a ∷ []) count fits len = absurd (omega arith)
rows_take (a ∷ b ∷ []) count fits len = absurd (omega arith)
rows_take (a ∷ b ∷ c ∷ []) count fits len = absurd (omega arith)
rows_take (a ∷ b ∷ c ∷ d ∷ bytes) count fits len =
    let rest = rows_take bytes (count - 1) (λ i. fits (suc (suc (suc (suc i))))) (omega arith) in
    let first = le_bytes_4 (a ∷ b ∷ c ∷ d ∷ []) (from_le_bytes w32 (a ∷ b ∷ c ∷ d ∷ [])) refl (four_fit a b c d (fits 0) (fits 1) (fits 2) (fits 3)) refl in
    ap₂ (λ (x y : List ℕ). x ++ y) first rest

-- what is read as a font stands in the bytes
pub font_takes : (bytes : List ℕ) (font : Glyphs) → IsBytes bytes → font_at bytes ≡ Ok font → Stands bytes font
unfolding font_at
font_takes bytes font fits e =
    let h = bind_ok (height_at bytes) (λ height. widths_at bytes >>= λ widths. rows_at height widths bytes >>= λ rows. Ok (record { height = height; widths = widths; rows = rows })) font e in
    let w = bind_ok (widths_at bytes) (λ widths. rows_at h.0 widths bytes >>= λ rows. Ok (record { height = h.0; widths = widths; rows = rows })) font h.2 in
    let r = bind_ok (rows_at h.0 w.0 bytes) (λ rows. Ok (record { height = h.0; widths = w.0; rows = rows })) font w.2 in
    let made : Glyphs = record { height = h.0; widths = w.0; rows = r.0 } in
    let head = height_takes bytes h.0 h.1 in
    let middle = widths_take bytes w.0 w.1 in
    let found = rows_ok h.0 w.0 bytes r.0 r.1 in
    let tail : flat_map (to_le_bytes w32) r.0 ≡ drop 100 bytes =
    ap (flat_map (to_le_bytes w32)) (sym found.same) ∙ rows_take (drop 100 bytes) (95 * h.0) (IsBytes-drop 100 bytes fits) (omega (arith, length-drop 100 bytes, found.len)) in
    let rest : drop 5 bytes ≡ take 95 (drop 5 bytes) ++ drop 100 bytes = sym (take-append-drop 95 (drop 5 bytes)) ∙ ap (λ (t : List ℕ). take 95 (drop 5 bytes) ++ t) (drop-drop 95 5 bytes) in
    let whole : bytes ≡ take 5 bytes ++ (take 95 (drop 5 bytes) ++ drop 100 bytes) = sym (take-append-drop 5 bytes) ∙ ap (λ (t : List ℕ). take 5 bytes ++ t) rest in
    let parts : take 5 bytes ++ (take 95 (drop 5 bytes) ++ drop 100 bytes) ≡ (codes "EVF1" ++ h.0 ∷ []) ++ (w.0 ++ flat_map (to_le_bytes w32) r.0) =
    ap₂ (λ (x y : List ℕ). x ++ y) head.front (ap₂ (λ (x y : List ℕ). x ++ y) middle.1 (sym tail)) in
    let spelled : bytes ≡ spelling made = whole ∙ parts ∙ sym (append_assoc (codes "EVF1" ++ h.0 ∷ []) w.0 (flat_map (to_le_bytes w32) r.0)) in
    let count : length w.0 ≡ 95 = ap length (sym middle.1) ∙ omega (arith, length-take 95 (drop 5 bytes), length-drop 5 bytes, head.long) in
    let widths = All-from_recursion (λ width. width ≤ 32) w.0 (subst (λ (ws : List ℕ). AllByRecursion (λ width. width ≤ 32) ws) middle.1 (narrow _ middle.0)) in
    let valid = font_of h.0 w.0 bytes r.0 head.low head.high count widths r.1 in
    subst (Stands bytes) (ok_is made font r.2) (record { valid = valid; spelled = spelled })

pub is_found : (bytes : List ℕ) (result : Result Glyphs BadFont) → IsBytes bytes → Gives (λ font. font) result (font_at bytes) → IfOk result (λ font. Stands bytes font)
is_found bytes (Ok font) fits e = font_takes bytes font fits e
is_found bytes (Err fault) fits e = tt

-- ---- what is spelled so is read

height_again : (height : ℕ) (rest : List ℕ) → 95 ≤ length rest → 1 ≤ height → height ≤ 32 → height_at (codes "EVF1" ++ height ∷ [] ++ rest) ≡ Ok height
unfolding height_at
height_again height rest long low high =
    let enough : ltb (length (codes "EVF1" ++ height ∷ [] ++ rest)) 100 ≡ false = le-ltb _ _ (omega arith) in
    let range = and_from (nat_le 1 height) (nat_le height 32) (le-leb 1 height low) (le-leb height 32 high) in
    rw (enough, range) refl

none_wide : (widths : List ℕ) → AllByRecursion (λ width. width ≤ 32) widths → prefix_len (λ width. not (is_wide width)) widths ≡ length widths
none_wide [] narrow = refl
none_wide (width ∷ widths) narrow = rw (le-ltb 32 width narrow.0, none_wide widths narrow.1) (omega arith)

widths_again : (front widths rest : List ℕ) → length front ≡ 5 → length widths ≡ 95 → AllByRecursion (λ width. width ≤ 32) widths → widths_at (front ++ (widths ++ rest)) ≡ Ok widths
unfolding widths_at
widths_again front widths rest five count narrow =
    let is : take 95 (drop 5 (front ++ (widths ++ rest))) ≡ widths = ap (take 95) (drop_at front (widths ++ rest) 5 five) ∙ take_at widths rest 95 count in
    let none : position is_wide widths ≡ None = rw (none_wide widths narrow, le-ltb (length widths) (length widths) (omega arith)) refl in
    ap (λ (t : List ℕ). checked_widths t (position is_wide t)) is ∙ ap (checked_widths widths) none

all_small : (width : ℕ) (rows : List ℕ) → width ≤ 32 → AllByRecursion (λ row. row < 2 ^ width) rows → AllByRecursion (λ row. row < 2 ^ 32) rows
all_small width [] narrow fit = tt
all_small width (row ∷ rows) narrow fit =
    let most : 2 ^ width ≤ 2 ^ 32 = pow-le-pow_right (lit< tt) narrow in
    (omega (arith, fit.0, most), all_small width rows narrow fit.1)

all_append : (P : ℕ → Type 0) (xs ys : List ℕ) → AllByRecursion P xs → AllByRecursion P ys → AllByRecursion P (xs ++ ys)
all_append P [] ys p q = q
all_append P (x ∷ xs) ys p q = (p.0, all_append P xs ys p.1 q)

rows_small : (height : ℕ) (widths rows : List ℕ) → AllByRecursion (λ width. width ≤ 32) widths → RowsFit height widths rows → length rows ≡ length widths * height → AllByRecursion (λ row. row < 2 ^ 32) rows
rows_small height [] [] narrow fit len = tt
rows_small height [] (row ∷ rows) narrow fit len = absurd (omega arith)
rows_small height (width ∷ widths) rows narrow fit len =
    let rest : length (drop height rows) ≡ length widths * height = omega (arith, length-drop height rows) in
    subst (λ (rs : List ℕ). AllByRecursion (λ row. row < 2 ^ 32) rs) (take-append-drop height rows)
    (all_append (λ row. row < 2 ^ 32) (take height rows) (drop height rows) (all_small width (take height rows) narrow.0 fit.0) (rows_small height widths (drop height rows) narrow.1 fit.1 rest))

rows_back : (rows : List ℕ) → AllByRecursion (λ row. row < 2 ^ 32) rows → rows_of (flat_map (to_le_bytes w32) rows) ≡ rows
rows_back [] small = refl
rows_back (row ∷ rows) small = ap₂ (λ (x : ℕ) (xs : List ℕ). x ∷ xs) (from_le_bytes-to_le_bytes_4 row small.0) (rows_back rows small.1)

rows_len : (rows : List ℕ) → length (flat_map (to_le_bytes w32) rows) ≡ 4 * length rows
rows_len [] = refl
rows_len (row ∷ rows) = omega (arith, rows_len rows)

fit_all : (width : ℕ) (rows : List ℕ) → AllByRecursion (λ row. row < 2 ^ width) rows → list_all (fits width) rows ≡ true
fit_all width [] fit = refl
fit_all width (row ∷ rows) fit = rw (lt-ltb row (2 ^ width) fit.0, fit_all width rows fit.1) refl

none_bad : (glyph height : ℕ) (widths rows : List ℕ) → RowsFit height widths rows → bad_glyph glyph height widths rows ≡ None
none_bad glyph height [] rows fit = refl
none_bad glyph height (width ∷ widths) rows fit = rw (fit_all width (take height rows) fit.0) (none_bad (glyph + 1) height widths (drop height rows) fit.1)

rows_again : (front rows widths : List ℕ) (height : ℕ) → length front ≡ 100 → length rows ≡ 95 * height → RowsFit height widths rows → AllByRecursion (λ row. row < 2 ^ 32) rows → rows_at height widths (front ++ flat_map (to_le_bytes w32) rows) ≡ Ok rows
rows_again front rows widths height hundred count fit small =
    let len : length (front ++ flat_map (to_le_bytes w32) rows) ≡ 100 + 380 * height = omega (arith, length-append front (flat_map (to_le_bytes w32) rows), rows_len rows) in
    let back : rows_of (drop 100 (front ++ flat_map (to_le_bytes w32) rows)) ≡ rows = ap rows_of (drop_at front (flat_map (to_le_bytes w32) rows) 100 hundred) ∙ rows_back rows small in
    rows_whole height widths (front ++ flat_map (to_le_bytes w32) rows) (omega arith) (omega arith)
    ∙ ap (λ (rs : List ℕ). checked_rows rs (bad_glyph 0 height widths rs)) back
    ∙ ap (checked_rows rows) (none_bad 0 height widths rows fit)

-- what stands for a font is read as that font
pub font_again : (bytes : List ℕ) (font : Glyphs) → Stands bytes font → font_at bytes ≡ Ok font
unfolding font_at
font_again bytes font stands =
    let valid = stands.valid in
    let rows = flat_map (to_le_bytes w32) font.rows in
    let small = rows_small font.height font.widths font.rows valid.widths valid.rows_fit (valid.rows_count ∙ ap (λ (n : ℕ). n * font.height) (sym valid.count)) in
    let right : bytes ≡ (codes "EVF1" ++ font.height ∷ []) ++ (font.widths ++ rows) = stands.spelled ∙ append_assoc (codes "EVF1" ++ font.height ∷ []) font.widths rows in
    let one = ap height_at right ∙ height_again font.height (font.widths ++ rows) (omega (arith, length-append font.widths rows, valid.count)) valid.height_low valid.height_high in
    let two = ap widths_at right ∙ widths_again (codes "EVF1" ++ font.height ∷ []) font.widths rows refl valid.count valid.widths in
    let head : length (codes "EVF1" ++ font.height ∷ [] ++ font.widths) ≡ 100 = omega (arith, length-append (codes "EVF1" ++ font.height ∷ []) font.widths, valid.count) in
    let three = ap (rows_at font.height font.widths) stands.spelled ∙ rows_again (codes "EVF1" ++ font.height ∷ [] ++ font.widths) font.rows font.widths font.height head valid.rows_count valid.rows_fit small in
    rw (one, two, three) refl

-- bytes stand for one font at most
pub same_font : (bytes : List ℕ) (a b : Glyphs) → Stands bytes a → Stands bytes b → a ≡ b
same_font bytes a b p q = ok_is a b (sym (font_again bytes a p) ∙ font_again bytes b q)
