-- The common part of two rectangles.
use Rattle.std.proofs.Common.{◌≡◌, ℤ, pos, ◌+ℤ◌, ◌-ℤ◌, ◌≤ℤ◌, ◌<ℤ◌, int_lt, int_le, Bool, true, false, ◌&&◌, refl, sym, ap₂, subst, arith}
use Rattle.std.proofs.lemmas.Int.{ints, clamps}
use Rattle.std.specs.Int.{int_max, int_min}
use mir.Val.{SFits}
use mir.Syntax.{w32}
use Rattle.ev_geom.specs.Area.{Area, IsPlace, IsSide, IsStretch, InLimits, common, meet, nowhere, is_within, holds}

pub common_of : (a a_len b b_len from to : ℤ) → from ≡ int_max a b → to ≡ int_min (a +ℤ a_len) (b +ℤ b_len) → int_lt from to ≡ true → to -ℤ from ≡ common a a_len b b_len
common_of a a_len b b_len from to f t h = omega (arith, ints, clamps, f, t, h)

pub none_common : (a a_len b b_len from to : ℤ) → from ≡ int_max a b → to ≡ int_min (a +ℤ a_len) (b +ℤ b_len) → int_lt from to ≡ false → pos 0 ≡ common a a_len b b_len
none_common a a_len b b_len from to f t h = omega (arith, ints, clamps, f, t, h)

pub common_side : (a a_len b b_len : ℤ) → IsStretch a a_len → IsStretch b b_len → IsSide (common a a_len b b_len)
common_side a a_len b b_len p q = record {
  low = omega (arith, ints, clamps);
  high = omega (arith, ints, clamps, p.side.low, p.side.high, q.side.low, q.side.high);
}

pub later_place : (a b : ℤ) → IsPlace a → IsPlace b → IsPlace (int_max a b)
later_place a b p q = record { low = omega (arith, ints, clamps, p.low, q.low); high = omega (arith, ints, clamps, p.high, q.high) }

pub meet_of : (a b : Area) → int_lt (pos 0) (common a.x a.w b.x b.w) ≡ true → int_lt (pos 0) (common a.y a.h b.y b.h) ≡ true
    → meet a b ≡ record { x = int_max a.x b.x; y = int_max a.y b.y; w = common a.x a.w b.x b.w; h = common a.y a.h b.y b.h }
meet_of a b w h = rw (w, h) refl

pub none_meet_w : (a b : Area) → int_lt (pos 0) (common a.x a.w b.x b.w) ≡ false → meet a b ≡ nowhere
none_meet_w a b w = rw w refl

pub none_meet_h : (a b : Area) → int_lt (pos 0) (common a.x a.w b.x b.w) ≡ true → int_lt (pos 0) (common a.y a.h b.y b.h) ≡ false → meet a b ≡ nowhere
none_meet_h a b w h = rw (w, h) refl

pub length_fits : (a a_len b b_len from to : ℤ) → IsStretch a a_len → IsStretch b b_len → from ≡ int_max a b → to ≡ int_min (a +ℤ a_len) (b +ℤ b_len) → int_lt from to ≡ true → SFits w32 (to -ℤ from)
length_fits a a_len b b_len from to p q f t h =
    omega (arith, ints, clamps, f, t, h, p.place.low, p.place.high, p.side.low, p.side.high, q.place.low, q.place.high, q.side.low, q.side.high)

-- the common part of rectangles within the limits is within them
pub limits_of_meet : (a b r : Area) → InLimits a → InLimits b → r.x ≡ int_max a.x b.x → r.y ≡ int_max a.y b.y → r.w ≡ common a.x a.w b.x b.w → r.h ≡ common a.y a.h b.y b.h → InLimits r
limits_of_meet a b r p q x y w h = record {
  x = subst IsPlace (sym x) (later_place a.x b.x p.x q.x);
  y = subst IsPlace (sym y) (later_place a.y b.y p.y q.y);
  w = subst IsSide (sym w) (common_side a.x a.w b.x b.w (record { place = p.x; side = p.w }) (record { place = q.x; side = q.w }));
  h = subst IsSide (sym h) (common_side a.y a.h b.y b.h (record { place = p.y; side = p.h }) (record { place = q.y; side = q.h }));
}

-- what the test of a stretch says
pub record IsWithin (from len at : ℤ) : Type 0 where
  pub low : from ≤ℤ at
  pub high : at <ℤ (from +ℤ len)

both_of : (p q : Bool) → (p && q) ≡ true → (p ≡ true) × (q ≡ true)
both_of true q h = (refl, h)
both_of false q h = cc

same_truth : (p q : Bool) → (p ≡ true → q ≡ true) → (q ≡ true → p ≡ true) → p ≡ q
same_truth true true f g = refl
same_truth true false f g = sym (f refl)
same_truth false true f g = g refl
same_truth false false f g = refl

within_of : (from len at : ℤ) → is_within from len at ≡ true → IsWithin from len at
within_of from len at h = let t : (int_le from at ≡ true) × (int_lt at (from +ℤ len) ≡ true) = both_of _ _ h in record { low = grind (arith, ints, t.0); high = grind (arith, ints, t.1) }

within_is : (from len at : ℤ) → IsWithin from len at → is_within from len at ≡ true
within_is from len at h =
    let low = h.low in
    let high = h.high in
    let a : int_le from at ≡ true = grind (arith, ints) in
    let b : int_lt at (from +ℤ len) ≡ true = grind (arith, ints) in
    ap₂ ◌&&◌ a b

first_within : (a a_len b b_len at : ℤ) → IsWithin (int_max a b) (common a a_len b b_len) at → IsWithin a a_len at
first_within a a_len b b_len at h = record { low = omega (arith, ints, clamps, h.low, h.high); high = omega (arith, ints, clamps, h.low, h.high) }

second_within : (a a_len b b_len at : ℤ) → IsWithin (int_max a b) (common a a_len b b_len) at → IsWithin b b_len at
second_within a a_len b b_len at h = record { low = omega (arith, ints, clamps, h.low, h.high); high = omega (arith, ints, clamps, h.low, h.high) }

both_within : (a a_len b b_len at : ℤ) → IsWithin a a_len at → IsWithin b b_len at → IsWithin (int_max a b) (common a a_len b b_len) at
both_within a a_len b b_len at p q = record { low = omega (arith, ints, clamps, p.low, q.low); high = omega (arith, ints, clamps, p.low, p.high, q.low, q.high) }

has_common : (from len at : ℤ) → IsWithin from len at → int_lt (pos 0) len ≡ true
has_common from len at h = let low = h.low in let high = h.high in grind (arith, ints)

none_nowhere : (x y : ℤ) → holds nowhere x y ≡ true → ⊥
none_nowhere x y h = let w = within_of (pos 0) (pos 0) x (both_of _ _ h).0 in omega (arith, ints, w.low, w.high)

-- the common part holds the pixels that lie in both
pub holds_meet : (a b : Area) (x y : ℤ) → holds (meet a b) x y ≡ (holds a x y && holds b x y)
holds_meet a b x y = same_truth _ _ (there (int_lt (pos 0) (common a.x a.w b.x b.w)) (int_lt (pos 0) (common a.y a.h b.y b.h)) refl refl) back where
  there : (p q : Bool) → int_lt (pos 0) (common a.x a.w b.x b.w) ≡ p → int_lt (pos 0) (common a.y a.h b.y b.h) ≡ q → holds (meet a b) x y ≡ true → (holds a x y && holds b x y) ≡ true
  there true true e f h =
      let P : Area → Type 0 = λ m. holds m x y ≡ true in
      let t = both_of _ _ (subst P (meet_of a b e f) h) in
      let u = within_of _ _ x t.0 in
      let v = within_of _ _ y t.1 in
      ap₂ ◌&&◌ (ap₂ ◌&&◌ (within_is a.x a.w x (first_within a.x a.w b.x b.w x u)) (within_is a.y a.h y (first_within a.y a.h b.y b.h y v)))
      (ap₂ ◌&&◌ (within_is b.x b.w x (second_within a.x a.w b.x b.w x u)) (within_is b.y b.h y (second_within a.y a.h b.y b.h y v)))
  there true false e f h = let P : Area → Type 0 = λ m. holds m x y ≡ true in absurd (none_nowhere x y (subst P (none_meet_h a b e f) h))
  there false q e f h = let P : Area → Type 0 = λ m. holds m x y ≡ true in absurd (none_nowhere x y (subst P (none_meet_w a b e) h))

  back : (holds a x y && holds b x y) ≡ true → holds (meet a b) x y ≡ true
  back h =
      let t = both_of _ _ h in
      let p = both_of _ _ t.0 in
      let q = both_of _ _ t.1 in
      let u = both_within a.x a.w b.x b.w x (within_of _ _ x p.0) (within_of _ _ x q.0) in
      let v = both_within a.y a.h b.y b.h y (within_of _ _ y p.1) (within_of _ _ y q.1) in
      let P : Area → Type 0 = λ m. holds m x y ≡ true in
      subst P (sym (meet_of a b (has_common _ _ x u) (has_common _ _ y v))) (ap₂ ◌&&◌ (within_is _ _ x u) (within_is _ _ y v))
