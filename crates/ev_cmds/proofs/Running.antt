-- Runs of bits that are set.
use Rattle.std.proofs.Common.{ℕ, ◌≡◌, ◌+◌, ◌-◌, ◌/◌, ◌%◌, ◌^◌, ◌<◌, ◌≤◌, Bool, true, false, ◌&&◌, nat_le, nat_lt, List, [], ◌∷◌, ◌++◌, None, slice_index, bit_and, refl, sym, ap, ◌∙◌, subst, ⊎_elim, arith, w64}
use Rattle.std.specs.Prelude.{◌==◌}
use Rattle.std.specs.Int.{bit_at, bit_not}
use Rattle.std.specs.Int.Count.{count_trailing_zeros, trailing_of_zero}
use Rattle.std.proofs.Math.Nat.{div-div-eq-div-mul, div-le_self}
use Rattle.std.proofs.lemmas.Bool.{cases_lt, lt-ltb, le-ltb, le-leb, lt-leb}
use Rattle.std.proofs.lemmas.List.Elements.{All-push}
use Rattle.std.proofs.lemmas.Nat.{pow_below, pow-add, shr_below}
use Rattle.std.proofs.lemmas.Nat.Bits.{bit_at-zero, bit_at_above, bit_at_ones, bit_at-trailing_zeros, bit_at-trailing_ones}
use Rattle.ev_cmds.specs.Masks.{is_set, has_bit, IsEmpty, IsRun, IsNextRun, in_runs, AddsRuns, AddsParts}
use Rattle.ev_cmds.specs.Patches.{has_place, one, times, IsPatch}
use Rattle.ev_cmds.specs.declared.patch.Patch.{Patch}
use Rattle.ev_cmds.specs.declared.mask.Run.{Run}
use Rattle.ev_cmds.specs.Patches.{lies}
use Rattle.ev_cmds.proofs.Placing.{lies_in, lies_before, lies_after, times-append}
use Rattle.ev_cmds.proofs.Masking.{set_and, set_columns, and_false, none_between, down_to}

-- the bits of a word that was shifted
shifted : (n from i : ℕ) → bit_at (n / 2 ^ from) i ≡ bit_at n (from + i)
shifted n from i = ap (λ (m : ℕ). m % 2) (div-div-eq-div-mul n (2 ^ from) (2 ^ i) ∙ ap (λ (k : ℕ). n / k) (sym (pow-add 2 from i)))

-- a bit that is set stands in the word
set_below : (n x : ℕ) → n < 2 ^ 64 → bit_at n x ≡ 1 → x < 64
set_below n x fits one = ⊎_elim (λ (h : x < 64). h) (λ (h : 64 ≤ x). absurd (let none : bit_at n x ≡ 0 = bit_at_above n 64 x fits h in omega arith)) (cases_lt x 64)

off : (n x : ℕ) → bit_at n x ≡ 0 → is_set n x ≡ false
off n x e = ap (λ (m : ℕ). m == 1) e

on : (n x : ℕ) → bit_at n x ≡ 1 → is_set n x ≡ true
on n x e = ap (λ (m : ℕ). m == 1) e

-- the bit at a place from `from` on
at_place : (n from x : ℕ) → from ≤ x → bit_at n x ≡ bit_at (n / 2 ^ from) (x - from)
at_place n from x h = let e : from + (x - from) ≡ x = omega arith in sym (shifted n from (x - from) ∙ ap (bit_at n) e)

pub no_run : (n from : ℕ) → n / 2 ^ from ≡ 0 → IsNextRun n from None
no_run n from none x low high = off n x (at_place n from x low ∙ ap (λ (m : ℕ). bit_at m (x - from)) none ∙ bit_at-zero (x - from))

pub no_run_left : (n from : ℕ) → from ≡ 64 → IsNextRun n from None
no_run_left n from e x low high = absurd (omega arith)

-- how many bits are set from a place on that is set
record IsLong (n left ones : ℕ) : Type 0 where
  some : 0 < ones
  within : left + ones ≤ 64
  inside : (x : ℕ) → left ≤ x → x < left + ones → bit_at n x ≡ 1
  ends : left + ones < 64 → bit_at n (left + ones) ≡ 0

all_ones : (n left : ℕ) → n < 2 ^ 64 → left < 64 → 2 ^ 64 ≤ n / 2 ^ left + 1 → (left ≡ 0) × (n ≡ 2 ^ 64 - 1)
all_ones n left fits within full = ⊎_elim
    (λ (h : left < 1). let e : left ≡ 0 = omega arith in let f : n / 2 ^ 0 + 1 ≡ n + 1 = omega arith in (e, (let g : 2 ^ 64 ≤ n / 2 ^ 0 + 1 = subst (λ (k : ℕ). 2 ^ 64 ≤ n / 2 ^ k + 1) e full in omega arith)))
    (λ (h : 1 ≤ left). absurd (
    let low : n / 2 ^ left < 2 ^ (64 - left) = shr_below n (64 - left) left (subst (λ (k : ℕ). n < 2 ^ k) (let e : 64 ≡ 64 - left + left = omega arith in e) fits) in
    let most : 2 ^ (64 - left) < 2 ^ 64 = pow_below (64 - left) 64 (omega arith) in
    omega arith))
    (cases_lt left 1)

long : (n left ones : ℕ) → n < 2 ^ 64 → left < 64 → bit_at n left ≡ 1 → ones ≡ count_trailing_zeros 64 (bit_not w64 (n / 2 ^ left)) → IsLong n left ones
long n left ones fits within first is = ⊎_elim
    (λ (h : n / 2 ^ left + 1 < 2 ^ 64).
    let found = bit_at-trailing_ones w64 (n / 2 ^ left) h in
    some_zero (subst (λ (k : ℕ). k < 64) (sym is) found.0) (subst (λ (k : ℕ). bit_at (n / 2 ^ left) k ≡ 0) (sym is) found.1) (λ i low. found.2 i (subst (λ (k : ℕ). i < k) is low)))
    (λ (h : 2 ^ 64 ≤ n / 2 ^ left + 1).
    let both = all_ones n left fits within h in
    full both.0 both.1)
    (cases_lt (n / 2 ^ left + 1) (2 ^ 64))
  where
    some_zero : ones < 64 → bit_at (n / 2 ^ left) ones ≡ 0 → ((i : ℕ) → i < ones → bit_at (n / 2 ^ left) i ≡ 1) → IsLong n left ones
    some_zero low zero_at ones_below =
        let some : 0 < ones = ⊎_elim (λ (h : 0 < ones). h) (λ (h : ones ≤ 0). absurd (
        let e : ones ≡ 0 = omega arith in
        let f : bit_at (n / 2 ^ left) 0 ≡ 0 = subst (λ (k : ℕ). bit_at (n / 2 ^ left) k ≡ 0) e zero_at in
        let g : bit_at n (left + 0) ≡ 1 = ap (bit_at n) (let z : left + 0 ≡ left = omega arith in z) ∙ first in
        let s = shifted n left 0 in omega arith)) (cases_lt 0 ones) in
        let last : bit_at n (left + (ones - 1)) ≡ 1 = sym (shifted n left (ones - 1)) ∙ ones_below (ones - 1) (omega arith) in
        let most = set_below n (left + (ones - 1)) fits last in
        record {
          some = some;
          within = omega arith;
          inside = λ x low high. at_place n left x low ∙ ones_below (x - left) (omega arith);
          ends = λ h. sym (shifted n left ones) ∙ zero_at;
        }

    full : left ≡ 0 → n ≡ 2 ^ 64 - 1 → IsLong n left ones
    full e f =
        let none : bit_not w64 (n / 2 ^ left) ≡ 0 = (let g : n / 2 ^ left ≡ n = (ap (λ (k : ℕ). n / 2 ^ k) e ∙ (let h : n / 2 ^ 0 ≡ n = omega arith in h)) in omega arith) in
        let all : ones ≡ 64 = is ∙ ap (count_trailing_zeros 64) none ∙ trailing_of_zero 64 in
        record {
          some = omega arith;
          within = omega arith;
          inside = λ x low high. ap (λ (m : ℕ). bit_at m x) f ∙ bit_at_ones 64 x (omega arith);
          ends = λ h. absurd (omega arith);
        }

pub run_found : (n from ones : ℕ) → n < 2 ^ 64 → 0 < n / 2 ^ from → ones ≡ count_trailing_zeros 64 (bit_not w64 (n / 2 ^ (from + count_trailing_zeros 64 (n / 2 ^ from))))
    → IsRun n from (record { left = from + count_trailing_zeros 64 (n / 2 ^ from); right = from + count_trailing_zeros 64 (n / 2 ^ from) + ones })
run_found n from ones fits some is =
    let less : n / 2 ^ from < 2 ^ 64 = (let l : n / 2 ^ from ≤ n = below n from in omega arith) in
    let found = bit_at-trailing_zeros w64 (n / 2 ^ from) some less in
    let zeros = count_trailing_zeros 64 (n / 2 ^ from) in
    let first : bit_at n (from + zeros) ≡ 1 = sym (shifted n from zeros) ∙ found.1 in
    let run = long n (from + zeros) ones fits (set_below n (from + zeros) fits first) first is in
    record {
      after = omega arith;
      some = omega (arith, run.some);
      within = run.within;
      before = λ x low high. off n x (at_place n from x low ∙ found.2 (x - from) (omega arith));
      inside = λ x low high. on n x (run.inside x low high);
      ends = λ h. off n (from + zeros + ones) (run.ends h);
    }
  where
    below : (n k : ℕ) → n / 2 ^ k ≤ n
    below n k = div-le_self n (2 ^ k)

-- the first place of a run stands in the word
pub first_within : (n from : ℕ) → n < 2 ^ 64 → 0 < n / 2 ^ from → from + count_trailing_zeros 64 (n / 2 ^ from) < 64
first_within n from fits some =
    let less : n / 2 ^ from < 2 ^ 64 = (let l : n / 2 ^ from ≤ n = div-le_self n (2 ^ from) in omega arith) in
    let found = bit_at-trailing_zeros w64 (n / 2 ^ from) some less in
    set_below n (from + count_trailing_zeros 64 (n / 2 ^ from)) fits (sym (shifted n from (count_trailing_zeros 64 (n / 2 ^ from))) ∙ found.1)

-- runs and patches over some rows

pub no_runs : (word top bottom : ℕ) (old : List Patch) → AddsRuns word top bottom 0 old old
no_runs word top bottom old = record {
  patches = λ all. all;
  places = λ x y wide tall. rw (le-ltb x 0 (omega arith)) (none (is_set word x) (nat_le top y && nat_lt y bottom) (times old x y));
}
  where
    none : (a b : Bool) (n : ℕ) → n ≡ n + one (a && false && b)
    none true b n = omega arith
    none false b n = omega arith

counted : (a b c : Bool) (m n k : ℕ) → m ≡ n + one a → one a + k ≡ one b → m + (k + 0) ≡ n + one b
counted a b c m n k e f = omega arith

pub runs_more : (word top bottom from : ℕ) (run : Run) (old new : List Patch) → top < bottom → bottom ≤ 64 → IsRun word from run → AddsRuns word top bottom from old new
    → AddsRuns word top bottom run.right old (new ++ record { left = run.left; right = run.right; top = top; bottom = bottom } ∷ [])
runs_more word top bottom from run old new some tile is before = record {
  patches = λ all. All-push IsPatch new (record { left = run.left; right = run.right; top = top; bottom = bottom }) (before.patches all) (record { wide = is.some; right = is.within; tall = some; bottom = tile });
  places = λ x y wide tall.
      times-append new (record { left = run.left; right = run.right; top = top; bottom = bottom } ∷ []) x y
      ∙ counted (in_runs word top bottom from x y) (in_runs word top bottom run.right x y) true (times new x y) (times old x y) _ (before.places x y wide tall) (one_more x y);
}
  where
    no_more : (s l b : Bool) → one (s && false && b) + one (l && false && b) ≡ one (s && false && b)
    no_more true true b = refl
    no_more true false b = refl
    no_more false true b = refl
    no_more false false b = refl

    one_more : (x y : ℕ) → one (in_runs word top bottom from x y) + one (has_place (record { left = run.left; right = run.right; top = top; bottom = bottom }) x y) ≡ one (in_runs word top bottom run.right x y)
    one_more x y = ⊎_elim
        (λ (a : x < from). rw (lt-ltb x from a, lt-ltb x run.right (omega (arith, is.after, is.some)), lt-leb run.left x (omega (arith, is.after))) (omega arith))
        (λ (a : from ≤ x). ⊎_elim
        (λ (b : x < run.left). rw (is.before x a b, lt-leb run.left x b) refl)
        (λ (b : run.left ≤ x). ⊎_elim
        (λ (c : x < run.right). rw (le-ltb x from a, is.inside x b c, lt-ltb x run.right c, le-leb run.left x b) (omega arith))
        (λ (c : run.right ≤ x). rw (le-ltb x from a, le-ltb x run.right c) (no_more (is_set word x) (nat_le run.left x) (nat_le top y && nat_lt y bottom)))
        (cases_lt x run.right))
        (cases_lt x run.left))
        (cases_lt x from)

pub runs_end : (word top bottom from : ℕ) (old new : List Patch) → IsNextRun word from None → AddsRuns word top bottom from old new → AddsRuns word top bottom 64 old new
runs_end word top bottom from old new none before = record {
  patches = before.patches;
  places = λ x y wide tall. before.places x y wide tall ∙ ap (λ (b : Bool). times old x y + one (b && (nat_le top y && nat_lt y bottom))) (same x wide);
}
  where
    same : (x : ℕ) → x < 64 → (is_set word x && nat_lt x from) ≡ (is_set word x && nat_lt x 64)
    same x wide = ⊎_elim
        (λ (a : x < from). rw (lt-ltb x from a, lt-ltb x 64 wide) refl)
        (λ (a : from ≤ x). rw (none x a wide) refl)
        (cases_lt x from)

-- parts of an area

pub no_parts : (rows : List ℕ) (area : Patch) (old : List Patch) → AddsParts rows (down_to area area.top) old old
no_parts rows area old = record {
  patches = λ all. all;
  places = λ x y wide tall. none (has_bit rows x y) (lies area.left area.right x) (lies area.top area.top y) (times old x y) (none_between area.top y);
}
  where
    none : (a b c : Bool) (n : ℕ) → c ≡ false → n ≡ n + one (a && (b && c))
    none true true true n e = absurd cc
    none true true false n e = omega arith
    none true false c n e = omega arith
    none false b c n e = omega arith

-- a set without places adds nothing
pub spent_parts : (rows : List ℕ) (area : Patch) (old : List Patch) → IsEmpty rows → AddsParts rows area old old
spent_parts rows area old empty = record {
  patches = λ all. all;
  places = λ x y wide tall. none (times old x y) (has_bit rows x y) (has_place area x y) (empty.none x y tall);
}
  where
    none : (n : ℕ) (a b : Bool) → a ≡ false → n ≡ n + one (a && b)
    none n false b e = omega arith
    none n true b e = absurd cc

none_in : (word top bottom x y : ℕ) → lies top bottom y ≡ false → one (in_runs word top bottom 64 x y) ≡ 0
none_in word top bottom x y e = ap (λ (b : Bool). one (is_set word x && nat_lt x 64 && b)) e ∙ ap one (and_false (is_set word x && nat_lt x 64))

sum_bools : (h l : Bool) (n : ℕ) → n + one (h && (l && false)) + one ((h && l) && true && true) ≡ n + one (h && (l && true))
sum_bools true true n = omega arith
sum_bools true false n = omega arith
sum_bools false l n = omega arith

pub parts_more : (rows : List ℕ) (area : Patch) (word top bottom : ℕ) (old mid new : List Patch) → area.top ≤ top → top < bottom
    → ((y : ℕ) → top ≤ y → y < bottom → bit_and (slice_index rows y) (2 ^ area.right - 2 ^ area.left) ≡ word)
    → AddsParts rows (down_to area top) old mid → AddsRuns word top bottom 64 mid new → AddsParts rows (down_to area bottom) old new
parts_more rows area word top bottom old mid new order some same before runs = record {
  patches = λ all. runs.patches (before.patches all);
  places = λ x y wide tall. runs.places x y wide tall ∙ ap (λ (n : ℕ). n + one (in_runs word top bottom 64 x y)) (before.places x y wide tall) ∙ joined x y wide;
}
  where
    joined : (x y : ℕ) → x < 64 → times old x y + one (has_bit rows x y && (lies area.left area.right x && lies area.top top y)) + one (in_runs word top bottom 64 x y)
        ≡ times old x y + one (has_bit rows x y && (lies area.left area.right x && lies area.top bottom y))
    joined x y wide = ⊎_elim
        (λ (a : y < top). sum_first x y a)
        (λ (a : top ≤ y). ⊎_elim
        (λ (b : y < bottom). sum_second x y wide a b)
        (λ (b : bottom ≤ y). let none = none_in word top bottom x y (lies_after top bottom y b) in rw (none, lies_after area.top top y a, lies_after area.top bottom y b) (omega arith))
        (cases_lt y bottom))
        (cases_lt y top)
      where
        sum_first : (x y : ℕ) → y < top → times old x y + one (has_bit rows x y && (lies area.left area.right x && lies area.top top y)) + one (in_runs word top bottom 64 x y)
            ≡ times old x y + one (has_bit rows x y && (lies area.left area.right x && lies area.top bottom y))
        sum_first x y a =
            let none = none_in word top bottom x y (lies_before top bottom y a) in
            let rows_same : lies area.top top y ≡ lies area.top bottom y = ap (λ (b : Bool). nat_le area.top y && b) (lt-ltb y top a ∙ sym (lt-ltb y bottom (omega arith))) in
            rw (none, rows_same) (omega arith)

        sum_second : (x y : ℕ) → x < 64 → top ≤ y → y < bottom → times old x y + one (has_bit rows x y && (lies area.left area.right x && lies area.top top y)) + one (in_runs word top bottom 64 x y)
            ≡ times old x y + one (has_bit rows x y && (lies area.left area.right x && lies area.top bottom y))
        sum_second x y wide a b =
            let was : lies area.top top y ≡ false = lies_after area.top top y a in
            let now : lies area.top bottom y ≡ true = lies_in area.top bottom y (omega arith) b in
            let bit : is_set word x ≡ (has_bit rows x y && lies area.left area.right x) = ap (λ (n : ℕ). is_set n x) (sym (same y a b)) ∙ set_and (slice_index rows y) (2 ^ area.right - 2 ^ area.left) x ∙ ap (λ (c : Bool). has_bit rows x y && c) (set_columns area.left area.right x) in
            rw (was, now, bit, lt-ltb x 64 wide, lies_in top bottom y a b) (sum_bools (has_bit rows x y) (lies area.left area.right x) (times old x y))
