-- Rectangles that are moved.
use Rattle.std.proofs.Common.{◌≡◌, ℤ, Bool, true, false, refl, sym, ap, ◌∙◌, subst, None}
use Rattle.ev_geom.specs.Area.{Area, is_place, in_limits, limited, moved_by, IsShifted}
use Rattle.ev_geom.proofs.Areas.{same_area}

limited_false : (a : Area) → in_limits a ≡ false → limited a ≡ None
limited_false a e = rw e refl

-- a move that ends at no place gives no rectangle
pub limited_moved : (a b : Area) (dx dy : ℤ) → IsShifted a.x dx b.x → IsShifted a.y dy b.y → b.w ≡ a.w → b.h ≡ a.h → limited b ≡ limited (moved_by a dx dy)
limited_moved a b dx dy x y w h = by_columns (is_place b.x) refl where
  by_rows : is_place b.x ≡ true → (q : Bool) → is_place b.y ≡ q → limited b ≡ limited (moved_by a dx dy)
  by_rows p true e = ap limited (same_area b (moved_by a dx dy) (x.sum p) (y.sum e) w h)
  by_rows p false e =
      limited_false b (rw (p, e) refl) ∙ sym (limited_false (moved_by a dx dy) (rw (sym x.place ∙ p, sym y.place ∙ e) refl))

  by_columns : (p : Bool) → is_place b.x ≡ p → limited b ≡ limited (moved_by a dx dy)
  by_columns true e = by_rows e (is_place b.y) refl
  by_columns false e = limited_false b (rw e refl) ∙ sym (limited_false (moved_by a dx dy) (rw (sym x.place ∙ e) refl))

-- the same for numbers that come to those
pub moved_is : (a b : Area) (dx dy from_x by_x to_x from_y by_y to_y : ℤ) → IsShifted from_x by_x to_x → IsShifted from_y by_y to_y
    → from_x ≡ a.x → by_x ≡ dx → to_x ≡ b.x → from_y ≡ a.y → by_y ≡ dy → to_y ≡ b.y → b.w ≡ a.w → b.h ≡ a.h → limited b ≡ limited (moved_by a dx dy)
moved_is a b dx dy from_x by_x to_x from_y by_y to_y x y fx sx tx fy sy ty w h =
    let shifted_x : IsShifted a.x dx b.x = subst (λ n. IsShifted n dx b.x) fx (subst (λ n. IsShifted from_x n b.x) sx (subst (IsShifted from_x by_x) tx x)) in
    let shifted_y : IsShifted a.y dy b.y = subst (λ n. IsShifted n dy b.y) fy (subst (λ n. IsShifted from_y n b.y) sy (subst (IsShifted from_y by_y) ty y)) in
    limited_moved a b dx dy shifted_x shifted_y w h
