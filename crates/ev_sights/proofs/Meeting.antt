-- An area that is cut by one thing after another is the same in any order.
use Rattle.std.proofs.Common.{◌≡◌, ℤ, pos, ◌+ℤ◌, ◌-ℤ◌, int_lt, Bool, true, false, ◌&&◌, if◌then◌else◌, List, [], ◌∷◌, fold, refl, sym, ap, ap₂, ◌∙◌, arith}
use Rattle.std.proofs.lemmas.Int.{ints, clamps}
use Rattle.std.specs.Int.{int_max, int_min}
use Rattle.ev_geom.specs.Area.{Area, common, meet, nowhere}
use Rattle.ev_geom.proofs.Meeting.{meet_of, none_meet_w, none_meet_h}
use Rattle.ev_model.specs.Up.{cut, is_smart}
use Rattle.ev_model.specs.declared.object.Object.{Object}

-- the length of what three stretches have in common
abbrev common_three : (a a_len b b_len c c_len : ℤ) → ℤ
common_three a a_len b b_len c c_len = int_max (pos 0) (int_min (int_min (a +ℤ a_len) (b +ℤ b_len)) (c +ℤ c_len) -ℤ int_max (int_max a b) c)

abbrev latest : ℤ → ℤ → ℤ → ℤ
latest a b c = int_max (int_max a b) c

-- a rectangle of these numbers, where its sides are not 0
abbrev framed : ℤ → ℤ → ℤ → ℤ → Area
framed x y w h = if int_lt (pos 0) w && int_lt (pos 0) h then record { x = x; y = y; w = w; h = h } else nowhere

abbrev meet_three : Area → Area → Area → Area
meet_three a b c = framed (latest a.x b.x c.x) (latest a.y b.y c.y) (common_three a.x a.w b.x b.w c.x c.w) (common_three a.y a.h b.y b.h c.y c.h)

one_more : (a a_len b b_len c c_len : ℤ) → int_lt (pos 0) (common a a_len b b_len) ≡ true → common (int_max a b) (common a a_len b b_len) c c_len ≡ common_three a a_len b b_len c c_len
one_more a a_len b b_len c c_len h = omega (arith, ints, clamps, h)

none_of_two : (a a_len b b_len c c_len : ℤ) → int_lt (pos 0) (common a a_len b b_len) ≡ false → pos 0 ≡ common_three a a_len b b_len c c_len
none_of_two a a_len b b_len c c_len h = omega (arith, ints, clamps, h)

none_of_nothing : (c c_len : ℤ) → common (pos 0) (pos 0) c c_len ≡ pos 0
none_of_nothing c c_len = omega (arith, ints, clamps)

latest_swapped : (a b c : ℤ) → latest a b c ≡ latest a c b
latest_swapped a b c = omega (arith, ints, clamps)

earliest_swapped : (a b c : ℤ) → int_min (int_min a b) c ≡ int_min (int_min a c) b
earliest_swapped a b c = omega (arith, ints, clamps)

swapped : (a a_len b b_len c c_len : ℤ) → common_three a a_len b b_len c c_len ≡ common_three a a_len c c_len b b_len
swapped a a_len b b_len c c_len = ap₂ (λ to from. int_max (pos 0) (to -ℤ from)) (earliest_swapped (a +ℤ a_len) (b +ℤ b_len) (c +ℤ c_len)) (latest_swapped a b c)

without_rows : (x y w : ℤ) → framed x y w (pos 0) ≡ nowhere
without_rows x y w = go (int_lt (pos 0) w) where
  go : (b : Bool) → (if b && false then record { x = x; y = y; w = w; h = pos 0 } else nowhere) ≡ nowhere
  go true = refl
  go false = refl

meet_nowhere : (c : Area) → meet nowhere c ≡ nowhere
meet_nowhere c = ap₂ (framed (int_max (pos 0) c.x) (int_max (pos 0) c.y)) (none_of_nothing c.x c.w) (none_of_nothing c.y c.h)

three_of : (a b c : Area) → meet (meet a b) c ≡ meet_three a b c
three_of a b c = go (int_lt (pos 0) (common a.x a.w b.x b.w)) (int_lt (pos 0) (common a.y a.h b.y b.h)) refl refl where
  go : (p q : Bool) → int_lt (pos 0) (common a.x a.w b.x b.w) ≡ p → int_lt (pos 0) (common a.y a.h b.y b.h) ≡ q → meet (meet a b) c ≡ meet_three a b c
  go true true e f =
      ap (λ m. meet m c) (meet_of a b e f)
      ∙ ap₂ (framed (latest a.x b.x c.x) (latest a.y b.y c.y)) (one_more a.x a.w b.x b.w c.x c.w e) (one_more a.y a.h b.y b.h c.y c.h f)
  go true false e f =
      ap (λ m. meet m c) (none_meet_h a b e f) ∙ meet_nowhere c
      ∙ sym (without_rows (latest a.x b.x c.x) (latest a.y b.y c.y) (common_three a.x a.w b.x b.w c.x c.w))
      ∙ ap (framed (latest a.x b.x c.x) (latest a.y b.y c.y) (common_three a.x a.w b.x b.w c.x c.w)) (none_of_two a.y a.h b.y b.h c.y c.h f)
  go false q e f =
      ap (λ m. meet m c) (none_meet_w a b e) ∙ meet_nowhere c
      ∙ ap (λ w. framed (latest a.x b.x c.x) (latest a.y b.y c.y) w (common_three a.y a.h b.y b.h c.y c.h)) (none_of_two a.x a.w b.x b.w c.x c.w e)

-- what three rectangles have in common, in another order
pub meet_swapped : (a b c : Area) → meet (meet a b) c ≡ meet (meet a c) b
meet_swapped a b c =
    three_of a b c
    ∙ ap₂ (λ x y. framed x y (common_three a.x a.w b.x b.w c.x c.w) (common_three a.y a.h b.y b.h c.y c.h)) (latest_swapped a.x b.x c.x) (latest_swapped a.y b.y c.y)
    ∙ ap₂ (framed (latest a.x c.x b.x) (latest a.y c.y b.y)) (swapped a.x a.w b.x b.w c.x c.w) (swapped a.y a.h b.y b.h c.y c.h)
    ∙ sym (three_of a c b)

cut_swapped : (area : Area) (u v : Object) → cut (cut area u) v ≡ cut (cut area v) u
cut_swapped area u v = go (is_smart u) (is_smart v) where
  go : (p q : Bool) → (if q then (if p then area else meet area u.rect) else meet (if p then area else meet area u.rect) v.rect)
      ≡ (if p then (if q then area else meet area v.rect) else meet (if q then area else meet area v.rect) u.rect)
  go true true = refl
  go true false = refl
  go false true = refl
  go false false = meet_swapped area u.rect v.rect

-- an object may cut first or last
pub cut_last : (us : List Object) (area : Area) (o : Object) → fold cut (cut area o) us ≡ cut (fold cut area us) o
cut_last [] area o = refl
cut_last (u ∷ us) area o = ap (λ area. fold cut area us) (cut_swapped area o u) ∙ cut_last us (cut area u) o
