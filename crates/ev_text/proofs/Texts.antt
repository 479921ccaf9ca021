-- Rows of texts.
use Rattle.std.proofs.Common.{◌≡◌, ℕ, ◌+◌, ◌-◌, ◌<◌, ◌≤◌, Bool, true, false, cond, ◌&&◌, List, [], ◌∷◌, map, length, get_or, replicate, Option, None, refl, sym, ap, ◌∙◌, arith}
use Rattle.std.specs.Prelude.{◌==◌, nat_lt}
use Rattle.std.specs.List.{range_with_len}
use Rattle.std.specs.Int.{bit_at}
use Rattle.std.proofs.lemmas.Bool.{lt-ltb, le-ltb}
use Rattle.std.proofs.lemmas.List.{nil_from_length}
use Rattle.ev_argb.specs.Argb.{Argb}
use Rattle.ev_model.specs.Glyphs.{Glyphs, width_of, row_of, glyph_bit, text_bit}
use Rattle.ev_model.specs.Sample.{text_sample}
use Rattle.ev_text.specs.TextRows.{bit_sample, IsInFirst}
use Rattle.ev_model.proofs.Runs.{run_same, run_constant}

-- a row below the font has no bit
low_bit : (font : Glyphs) (text : List ℕ) (x y : ℕ) → font.height ≤ y → text_bit font text x y ≡ false
low_bit font [] x y low = refl
low_bit font (c ∷ text) x y low = split (nat_lt x (width_of font c)) (low_bit font text (x - width_of font c) y low)
  where
    and_last : (p q : Bool) → (p && false && q) ≡ false
    and_last true q = refl
    and_last false q = refl

    split : (here : Bool) → text_bit font text (x - width_of font c) y ≡ false → cond here (glyph_bit font c x y) (text_bit font text (x - width_of font c) y) ≡ false
    split true rest = rw (le-ltb y font.height low) (and_last (nat_lt x (width_of font c)) (bit_at (row_of font c y) x == 1))
    split false rest = rest

-- nothing, in any form, where no bit is set
none_run : {X : Type 0} (form : Option Argb → X) (font : Glyphs) (text : List ℕ) (x y n : ℕ) → ((k : ℕ) → text_bit font text (x + k) y ≡ false)
    → replicate n (form None) ≡ map (λ column. form (text_sample font text column y)) (range_with_len x n)
none_run form font text x y n none = sym (run_constant (λ column. form (text_sample font text column y)) x n (form None) (λ k h. ap (λ (bit : Bool). form (bit_sample bit)) (none k)))

pub low_run : {X : Type 0} (form : Option Argb → X) (font : Glyphs) (text : List ℕ) (x y n : ℕ) → font.height ≤ y → replicate n (form None) ≡ map (λ column. form (text_sample font text column y)) (range_with_len x n)
low_run form font text x y n low = none_run form font text x y n (λ k. low_bit font text (x + k) y low)

-- a bit of the first glyph
first_bit : (font : Glyphs) (text : List ℕ) (x y : ℕ) → 0 < length text → x < width_of font (get_or text 0 0) → y < font.height → text_bit font text x y ≡ (bit_at (row_of font (get_or text 0 0) y) x == 1)
first_bit font [] x y some wide high = absurd (omega arith)
first_bit font (c ∷ text) x y some wide high = rw (lt-ltb x (width_of font c) wide, lt-ltb y font.height high) refl

pub in_first : (font : Glyphs) (text : List ℕ) (x : ℕ) → IsInFirst font text x → 0 < length text → x < width_of font (get_or text 0 0)
in_first font [] x within some = absurd (omega arith)
in_first font (c ∷ text) x within some = within

-- the rest of a text, from a column of its own on, goes on as the text does from column x on
abbrev pub GoesOn : Glyphs → List ℕ → ℕ → List ℕ → ℕ → Type 0
GoesOn font rest column text x = (y j : ℕ) → text_bit font rest (column + j) y ≡ text_bit font text (x + j) y

pub goes_on : (font : Glyphs) (next rest text : List ℕ) (from column x n : ℕ) → GoesOn font next from rest column → GoesOn font rest column text x → GoesOn font next (from + n) text (x + n)
goes_on font next rest text from column x n skip ahead y j =
    let a : from + n + j ≡ from + (n + j) = omega arith in
    let b : x + n + j ≡ x + (n + j) = omega arith in
    rw (a, b) (skip y (n + j) ∙ ahead y (n + j))

-- columns of one glyph
pub glyph_run : {X : Type 0} (form : Option Argb → X) (font : Glyphs) (next text : List ℕ) (from x y n : ℕ) → GoesOn font next from text x → 0 < length next → from + n ≤ width_of font (get_or next 0 0) → y < font.height
    → map (λ column. form (bit_sample (bit_at (row_of font (get_or next 0 0) y) column == 1))) (range_with_len from n) ≡ map (λ column. form (text_sample font text column y)) (range_with_len x n)
glyph_run form font next text from x y n ahead some wide high =
    run_same _ _ from x n (λ k h. ap (λ (bit : Bool). form (bit_sample bit)) (sym (first_bit font next (from + k) y some (omega arith) high) ∙ ahead y k))

-- behind the text
pub end_run : {X : Type 0} (form : Option Argb → X) (font : Glyphs) (next text : List ℕ) (from x y n : ℕ) → GoesOn font next from text x → length next < 1 → replicate n (form None) ≡ map (λ column. form (text_sample font text column y)) (range_with_len x n)
end_run form font next text from x y n ahead none = none_run form font text x y n (λ k. sym (ahead y k) ∙ empty (from + k))
  where
    empty : (x : ℕ) → text_bit font next x y ≡ false
    empty x = ap (λ (t : List ℕ). text_bit font t x y) (nil_from_length next (omega arith))

-- the same from what the code took for the row and for the number of columns
pub glyph_args : {X : Type 0} (form : Option Argb → X) (row row' from n n' : ℕ) → row ≡ row' → n ≡ n'
    → map (λ column. form (bit_sample (bit_at row column == 1))) (range_with_len from n) ≡ map (λ column. form (bit_sample (bit_at row' column == 1))) (range_with_len from n')
glyph_args form row row' from n n' a b = rw (a, b) refl
