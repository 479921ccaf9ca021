-- The sides of what two rectangles have in common.
use Rattle.std.proofs.Common.{◌≡◌, pos, ◌≤ℤ◌, int_lt, Bool, true, false, refl, sym, subst, arith}
use Rattle.std.proofs.lemmas.Int.{ints, clamps}
use Rattle.ev_geom.specs.Area.{Area, meet, common}
use Rattle.ev_geom.proofs.Meeting.{meet_of, none_meet_w, none_meet_h}

-- no side is below 0
pub meet_sides : (a b : Area) → (pos 0 ≤ℤ (meet a b).w) × (pos 0 ≤ℤ (meet a b).h)
meet_sides a b = go (int_lt (pos 0) (common a.x a.w b.x b.w)) (int_lt (pos 0) (common a.y a.h b.y b.h)) refl refl where
  go : (p q : Bool) → int_lt (pos 0) (common a.x a.w b.x b.w) ≡ p → int_lt (pos 0) (common a.y a.h b.y b.h) ≡ q → (pos 0 ≤ℤ (meet a b).w) × (pos 0 ≤ℤ (meet a b).h)
  go true true e f = subst (λ m. (pos 0 ≤ℤ m.w) × (pos 0 ≤ℤ m.h)) (sym (meet_of a b e f)) (omega (arith, ints, clamps), omega (arith, ints, clamps))
  go true false e f = subst (λ m. (pos 0 ≤ℤ m.w) × (pos 0 ≤ℤ m.h)) (sym (none_meet_h a b e f)) (omega (arith, ints), omega (arith, ints))
  go false q e f = subst (λ m. (pos 0 ≤ℤ m.w) × (pos 0 ≤ℤ m.h)) (sym (none_meet_w a b e)) (omega (arith, ints), omega (arith, ints))
