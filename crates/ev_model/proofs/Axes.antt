-- Places along an axis: in the fill, and in the image.
use Rattle.std.proofs.Common.{◌≡◌, ℕ, zero, suc, ◌+◌, ◌-◌, ◌*◌, ◌/◌, ◌%◌, ◌<◌, ◌≤◌, Bool, true, false, cond, inl, inr, ℤ, pos, negsuc, ◌+ℤ◌, ◌-ℤ◌, ◌≤ℤ◌, Option, Some, None, refl, ap, arith}
use Rattle.std.specs.Prelude.{◌==◌, unsigned_abs}
use Rattle.std.proofs.Math.Nat.{mul-lt-mul_of_pos_right}
use Rattle.std.proofs.lemmas.Bool.{cases_lt, lt-ltb, le-ltb, le-leb, lt-leb}
use Rattle.std.proofs.lemmas.Int.{ints, int_rem_euclid_is}
use Rattle.std.proofs.lemmas.Nat.{div_below, mod_below}
use Rattle.ev_model.specs.Axis.{IsAxis, phase, low_source, low_part, high_part, middle_source, middle_part, source_at}
use Rattle.ev_model.specs.declared.axis.Axis.{Axis}

-- ---- the place in the fill

abs_is : (z : ℤ) → pos 0 ≤ℤ z → z ≡ pos (unsigned_abs z)
abs_is (pos n) h = refl
abs_is (negsuc n) h = absurd (omega (arith, ints, h))

-- a place of an object, counted from a start of the fill a million turns before it
pub record IsTurned (axis : Axis) (i : ℕ) : Type 0 where
  pub turned : ℕ
  pub is : (pos i -ℤ axis.start) +ℤ pos (1000000 * axis.len) ≡ pos turned

pub is_turned : (axis : Axis) (i : ℕ) → IsAxis axis → IsTurned axis i
is_turned axis i limits = record {
  turned = unsigned_abs ((pos i -ℤ axis.start) +ℤ pos (1000000 * axis.len));
  is = abs_is ((pos i -ℤ axis.start) +ℤ pos (1000000 * axis.len)) (omega (arith, ints, limits.start.high, limits.len_low));
}

pub phase_is : (axis : Axis) (i turned : ℕ) → IsAxis axis → (pos i -ℤ axis.start) +ℤ pos (1000000 * axis.len) ≡ pos turned → phase axis i ≡ turned % axis.len
phase_is axis i turned limits is = ap unsigned_abs (int_rem_euclid_is (pos i -ℤ axis.start) (pos axis.len) axis.len 1000000 turned (omega (arith, limits.len_low)) refl is)

pub phase_within : (axis : Axis) (i : ℕ) → IsAxis axis → phase axis i < axis.len
phase_within axis i limits =
    let r = is_turned axis i limits in
    rw (phase_is axis i r.turned limits r.is) (mod_below r.turned axis.len (omega (arith, limits.len_low)))

-- ---- the place in the image

abbrev some_place : ℕ → Option ℕ
some_place x = Some x

some_is : (x y : ℕ) → some_place x ≡ some_place y → x ≡ y
some_is x y e = cc

above_zero : (n : ℕ) → (n == 0) ≡ false → 0 < n
above_zero zero e = absurd cc
above_zero (suc n) e = omega arith

middle_below : (axis : Axis) (u x : ℕ) → low_part axis ≤ u → u < axis.len - high_part axis → (none : Bool) → (middle_source axis == 0) ≡ none
    → cond none None (Some (low_source axis + (u - low_part axis) * middle_source axis / middle_part axis)) ≡ some_place x → x < axis.source
middle_below axis u x low high true is e = absurd cc
middle_below axis u x low high false is e =
    let some : 0 < middle_source axis = above_zero (middle_source axis) is in
    let before : u - low_part axis < middle_part axis = omega arith in
    let product : (u - low_part axis) * middle_source axis < middle_part axis * middle_source axis = mul-lt-mul_of_pos_right before some in
    let below = div_below ((u - low_part axis) * middle_source axis) (middle_part axis) (middle_source axis) (omega arith) (omega (arith, product)) in
    let same = some_is (low_source axis + (u - low_part axis) * middle_source axis / middle_part axis) x e in
    omega (arith, below, same)

-- it lies in the image
pub source_below : (axis : Axis) (u x : ℕ) → IsAxis axis → u < axis.len → source_at axis u ≡ Some x → x < axis.source
source_below axis u x limits within e =
    elim (cases_lt u (low_part axis)) [
      | inl low ↦ let is : u ≡ x = some_is u x (rw (lt-ltb u (low_part axis) low) at e) in omega arith
      | inr low ↦ elim (cases_lt u (axis.len - high_part axis)) [
        | inl high ↦ middle_below axis u x low high (middle_source axis == 0) refl (rw (le-ltb u (low_part axis) low, lt-leb (axis.len - high_part axis) u high) at e)
        | inr high ↦ let is : axis.source - (axis.len - u) ≡ x = some_is (axis.source - (axis.len - u)) x (rw (le-ltb u (low_part axis) low, le-leb (axis.len - high_part axis) u high) at e) in omega (arith, limits.source_low)
      ]
    ]
