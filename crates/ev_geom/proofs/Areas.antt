-- Rectangles by their four numbers.
use Rattle.std.proofs.Common.{◌≡◌, ℤ, Bool, true, false, ◌&&◌, refl, ap₂, ◌∙◌, arith}
use Rattle.std.proofs.lemmas.Int.{ints}
use Rattle.ev_geom.specs.Area.{Area, is_place, is_side, in_limits, IsPlace, IsSide, InLimits}

-- rectangles of the same numbers are one
pub same_area : (a b : Area) → a.x ≡ b.x → a.y ≡ b.y → a.w ≡ b.w → a.h ≡ b.h → a ≡ b
same_area a b x y w h =
    let make : ℤ → ℤ → ℤ → ℤ → Area = λ x y w h. record { x = x; y = y; w = w; h = h } in
    ap₂ (λ x y. make x y a.w a.h) x y ∙ ap₂ (make b.x b.y) w h

pub place_of : (n : ℤ) → is_place n ≡ true → IsPlace n
place_of n h = record { low = grind (arith, ints); high = grind (arith, ints) }

pub side_of : (n : ℤ) → is_side n ≡ true → IsSide n
side_of n h = record { low = grind (arith, ints); high = grind (arith, ints) }

both : (a b : Bool) → (a && b) ≡ true → (a ≡ true) × (b ≡ true)
both true b h = (refl, h)
both false b h = cc

-- what the test says
pub limits_of : (a : Area) → in_limits a ≡ true → InLimits a
limits_of a h =
    let three = both _ _ h in
    let two = both _ _ three.0 in
    let one = both _ _ two.0 in
    record { x = place_of a.x one.0; y = place_of a.y one.1; w = side_of a.w two.1; h = side_of a.h three.1 }
