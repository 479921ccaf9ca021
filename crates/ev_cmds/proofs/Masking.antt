-- Places of sets, bit by bit.
use Rattle.std.proofs.Common.{ℕ, zero, suc, ◌≡◌, ◌+◌, ◌-◌, ◌*◌, ◌%◌, ◌^◌, ◌<◌, ◌≤◌, min, max, Bool, true, false, not, ◌&&◌, ◌||◌, List, length, slice_index, slice_set, replicate, ◌⊎◌, inl, inr, bit_and, bit_or, refl, sym, ap, ap₂, ◌∙◌, subst, ⊎_elim, arith, w64}
use Rattle.std.specs.Prelude.{◌==◌}
use Rattle.std.specs.Int.{bit_at, bit_not}
use Rattle.std.proofs.Math.Nat.{pow-le-pow_right}
use Rattle.std.proofs.lemmas.Bool.{cases_lt, cases_eq}
use Rattle.std.proofs.lemmas.List.{get_or-set_same, get_or-set_other, get_or-replicate}
use Rattle.std.proofs.lemmas.Nat.{pow_pos, pow_below, one_shl}
use Rattle.std.proofs.lemmas.Nat.Bits.{bit_at_and, bit_at_or, bit_at_not, bit_at-lt, bit_at-zero, bit_at_mask_inside, bit_at_mask_below, bit_at_mask_above}
use Rattle.ev_cmds.specs.Masks.{is_set, has_bit, IsEmpty, Adds, Cuts}
use Rattle.ev_cmds.specs.Patches.{has_place}
use Rattle.ev_cmds.specs.declared.patch.Patch.{Patch}
use Rattle.ev_cmds.specs.Patches.{lies}
use Rattle.ev_cmds.proofs.Placing.{lies_in, lies_before, lies_after}

-- the word of a stretch of columns
pub shifts : (left right : ℕ) → left ≤ right → right ≤ 64 → (1 * 2 ^ left % 340282366920938463463374607431768211456 ≡ 2 ^ left) × (1 * 2 ^ right % 340282366920938463463374607431768211456 ≡ 2 ^ right) × (2 ^ left ≤ 2 ^ right) × (2 ^ right < 2 ^ 65)
shifts left right order tile =
    (one_shl left 128 (omega arith), one_shl right 128 (omega arith), pow-le-pow_right (omega arith) order, pow_below right 65 (omega arith))

below_two : (m n : ℕ) → m < 2 → n < 2 → ((min m n == 1) ≡ ((m == 1) && (n == 1))) × ((max m n == 1) ≡ ((m == 1) || (n == 1))) × ((1 - m == 1) ≡ not (m == 1))
below_two zero zero p q = (refl, refl, refl)
below_two zero (suc zero) p q = (refl, refl, refl)
below_two (suc zero) zero p q = (refl, refl, refl)
below_two (suc zero) (suc zero) p q = (refl, refl, refl)
below_two zero (suc (suc n)) p q = absurd (omega arith)
below_two (suc zero) (suc (suc n)) p q = absurd (omega arith)
below_two (suc (suc m)) n p q = absurd (omega arith)

pub set_and : (a b x : ℕ) → is_set (bit_and a b) x ≡ (is_set a x && is_set b x)
set_and a b x = ap (λ (n : ℕ). n == 1) (bit_at_and a b x) ∙ (below_two (bit_at a x) (bit_at b x) (bit_at-lt a x) (bit_at-lt b x)).0

set_or : (a b x : ℕ) → is_set (bit_or a b) x ≡ (is_set a x || is_set b x)
set_or a b x = ap (λ (n : ℕ). n == 1) (bit_at_or a b x) ∙ (below_two (bit_at a x) (bit_at b x) (bit_at-lt a x) (bit_at-lt b x)).1

set_not : (n x : ℕ) → n < 2 ^ 64 → x < 64 → is_set (bit_not w64 n) x ≡ not (is_set n x)
set_not n x fits within = ap (λ (m : ℕ). m == 1) (bit_at_not w64 n x fits within) ∙ (below_two (bit_at n x) 0 (bit_at-lt n x) (omega arith)).2

pub set_columns : (left right x : ℕ) → is_set (2 ^ right - 2 ^ left) x ≡ lies left right x
set_columns left right x =
    ⊎_elim
    (λ (low : x < left). ap (λ (n : ℕ). n == 1) (bit_at_mask_below left right x low) ∙ sym (lies_before left right x low))
    (λ (low : left ≤ x). ⊎_elim
    (λ (high : x < right). ap (λ (n : ℕ). n == 1) (bit_at_mask_inside left right x low high) ∙ sym (lies_in left right x low high))
    (λ (high : right ≤ x). ap (λ (n : ℕ). n == 1) (bit_at_mask_above left right x high) ∙ sym (lies_after left right x high))
    (cases_lt x right))
    (cases_lt x left)

-- a row of a set that was changed
row_same : (rows : List ℕ) (y word x : ℕ) → length rows ≡ 64 → y < 64 → has_bit (slice_set rows y word) x y ≡ is_set word x
row_same rows y word x len within = ap (λ (n : ℕ). is_set n x) (get_or-set_same rows y word 0 (omega arith))

row_other : (rows : List ℕ) (y word x j : ℕ) → (j ≡ y → ⊥) → has_bit (slice_set rows y word) x j ≡ has_bit rows x j
row_other rows y word x j other = ap (λ (n : ℕ). is_set n x) (get_or-set_other rows y j word 0 other)

pub and_false : (b : Bool) → (b && false) ≡ false
and_false true = refl
and_false false = refl

or_false : (b : Bool) → (b || false) ≡ b
or_false true = refl
or_false false = refl

and_true : (b : Bool) → (b && true) ≡ b
and_true true = refl
and_true false = refl

-- between an edge and itself
pub none_between : (from at : ℕ) → lies from from at ≡ false
none_between from at = ⊎_elim (λ (h : at < from). lies_before from from at h) (λ (h : from ≤ at). lies_after from from at h) (cases_lt at from)

-- the rows of a patch down to before row y
abbrev pub down_to : Patch → ℕ → Patch
down_to p y = record { left = p.left; right = p.right; top = p.top; bottom = y }

-- one row more
rows_more : (top y j : ℕ) → top ≤ y → (j ≡ y → ⊥) → lies top (y + 1) j ≡ lies top y j
rows_more top y j order other =
    ⊎_elim
    (λ (low : j < y). ⊎_elim
    (λ (above : j < top). lies_before top (y + 1) j above ∙ sym (lies_before top y j above))
    (λ (above : top ≤ j). lies_in top (y + 1) j above (omega arith) ∙ sym (lies_in top y j above low))
    (cases_lt j top))
    (λ (low : y ≤ j). ⊎_elim
    (λ (near : j < y + 1). absurd (other (omega arith)))
    (λ (far : y + 1 ≤ j). lies_after top (y + 1) j far ∙ sym (lies_after top y j low))
    (cases_lt j (y + 1)))
    (cases_lt j y)

pub adds_none : (p : Patch) (old : List ℕ) → Adds (down_to p p.top) old old
adds_none p old = record {
  places = λ x j wide tall. sym (ap (λ (b : Bool). has_bit old x j || (lies p.left p.right x && b)) (none_between p.top j) ∙ ap (λ (b : Bool). has_bit old x j || b) (and_false (lies p.left p.right x)) ∙ or_false (has_bit old x j));
}

pub cuts_none : (p : Patch) (old : List ℕ) → Cuts (down_to p p.top) old old
cuts_none p old = record {
  places = λ x j wide tall. sym (ap (λ (b : Bool). has_bit old x j && not (lies p.left p.right x && b)) (none_between p.top j) ∙ ap (λ (b : Bool). has_bit old x j && not b) (and_false (lies p.left p.right x)) ∙ and_true (has_bit old x j));
}

pub adds_row : (p : Patch) (old rows : List ℕ) (y : ℕ) → length rows ≡ 64 → p.top ≤ y → y < 64 → Adds (down_to p y) old rows
    → Adds (down_to p (y + 1)) old (slice_set rows y (bit_or (slice_index rows y) (2 ^ p.right - 2 ^ p.left)))
adds_row p old rows y len order within before = record { places = λ x j wide tall. at x j wide tall (cases_eq j y) }
  where
    here : (x : ℕ) → x < 64 → has_bit (slice_set rows y (bit_or (slice_index rows y) (2 ^ p.right - 2 ^ p.left))) x y ≡ (has_bit old x y || has_place (down_to p (y + 1)) x y)
    here x wide =
        row_same rows y (bit_or (slice_index rows y) (2 ^ p.right - 2 ^ p.left)) x len within
        ∙ set_or (slice_index rows y) (2 ^ p.right - 2 ^ p.left) x
        ∙ ap₂ (λ (a b : Bool). a || b)
        (before.places x y wide within ∙ ap (λ (b : Bool). has_bit old x y || (lies p.left p.right x && b)) (lies_after p.top y y (omega arith)) ∙ ap (λ (b : Bool). has_bit old x y || b) (and_false (lies p.left p.right x)) ∙ or_false (has_bit old x y))
        (set_columns p.left p.right x)
        ∙ sym (ap (λ (b : Bool). has_bit old x y || (lies p.left p.right x && b)) (lies_in p.top (y + 1) y order (omega arith)) ∙ ap (λ (b : Bool). has_bit old x y || b) (and_true (lies p.left p.right x)))

    at : (x j : ℕ) → x < 64 → j < 64 → (j ≡ y) ⊎ (j ≡ y → ⊥) → has_bit (slice_set rows y (bit_or (slice_index rows y) (2 ^ p.right - 2 ^ p.left))) x j ≡ (has_bit old x j || has_place (down_to p (y + 1)) x j)
    at x j wide tall (inl e) = subst (λ (k : ℕ). has_bit (slice_set rows y (bit_or (slice_index rows y) (2 ^ p.right - 2 ^ p.left))) x k ≡ (has_bit old x k || has_place (down_to p (y + 1)) x k)) (sym e) (here x wide)
    at x j wide tall (inr other) =
        row_other rows y (bit_or (slice_index rows y) (2 ^ p.right - 2 ^ p.left)) x j other ∙ before.places x j wide tall ∙ ap (λ (b : Bool). has_bit old x j || (lies p.left p.right x && b)) (sym (rows_more p.top y j order other))

pub cuts_row : (p : Patch) (old rows : List ℕ) (y : ℕ) → length rows ≡ 64 → p.right ≤ 64 → p.top ≤ y → y < 64 → Cuts (down_to p y) old rows
    → Cuts (down_to p (y + 1)) old (slice_set rows y (bit_and (slice_index rows y) (bit_not w64 (2 ^ p.right - 2 ^ p.left))))
cuts_row p old rows y len right order within before = record { places = λ x j wide tall. at x j wide tall (cases_eq j y) }
  where
    fits : 2 ^ p.right - 2 ^ p.left < 2 ^ 64
    fits = let most : 2 ^ p.right ≤ 2 ^ 64 = pow-le-pow_right (omega arith) {j = 64} right in let some : 0 < 2 ^ p.left = pow_pos p.left in omega arith

    here : (x : ℕ) → x < 64 → has_bit (slice_set rows y (bit_and (slice_index rows y) (bit_not w64 (2 ^ p.right - 2 ^ p.left)))) x y ≡ (has_bit old x y && not (has_place (down_to p (y + 1)) x y))
    here x wide =
        row_same rows y (bit_and (slice_index rows y) (bit_not w64 (2 ^ p.right - 2 ^ p.left))) x len within
        ∙ set_and (slice_index rows y) (bit_not w64 (2 ^ p.right - 2 ^ p.left)) x
        ∙ ap₂ (λ (a b : Bool). a && b)
        (before.places x y wide within ∙ ap (λ (b : Bool). has_bit old x y && not (lies p.left p.right x && b)) (lies_after p.top y y (omega arith)) ∙ ap (λ (b : Bool). has_bit old x y && not b) (and_false (lies p.left p.right x)) ∙ and_true (has_bit old x y))
        (set_not (2 ^ p.right - 2 ^ p.left) x fits wide ∙ ap not (set_columns p.left p.right x))
        ∙ sym (ap (λ (b : Bool). has_bit old x y && not (lies p.left p.right x && b)) (lies_in p.top (y + 1) y order (omega arith)) ∙ ap (λ (b : Bool). has_bit old x y && not b) (and_true (lies p.left p.right x)))

    at : (x j : ℕ) → x < 64 → j < 64 → (j ≡ y) ⊎ (j ≡ y → ⊥) → has_bit (slice_set rows y (bit_and (slice_index rows y) (bit_not w64 (2 ^ p.right - 2 ^ p.left)))) x j ≡ (has_bit old x j && not (has_place (down_to p (y + 1)) x j))
    at x j wide tall (inl e) = subst (λ (k : ℕ). has_bit (slice_set rows y (bit_and (slice_index rows y) (bit_not w64 (2 ^ p.right - 2 ^ p.left)))) x k ≡ (has_bit old x k && not (has_place (down_to p (y + 1)) x k))) (sym e) (here x wide)
    at x j wide tall (inr other) =
        row_other rows y (bit_and (slice_index rows y) (bit_not w64 (2 ^ p.right - 2 ^ p.left))) x j other ∙ before.places x j wide tall ∙ ap (λ (b : Bool). has_bit old x j && not (lies p.left p.right x && b)) (sym (rows_more p.top y j order other))

-- the set without places
pub none_set : (x y : ℕ) → y < 64 → has_bit (replicate 64 0) x y ≡ false
none_set x y within = ap (λ (n : ℕ). is_set n x) (get_or-replicate 64 y 0 0 within) ∙ ap (λ (n : ℕ). n == 1) (bit_at-zero x)

pub none_zero : (rows : List ℕ) → ((y : ℕ) → y < 64 → slice_index rows y ≡ 0) → IsEmpty rows
none_zero rows zeros = record { none = λ x y within. ap (λ (n : ℕ). is_set n x) (zeros y within) ∙ ap (λ (n : ℕ). n == 1) (bit_at-zero x) }
