-- Adding pixels to a list of rectangles.
use Rattle.std.proofs.Common.{◌≡◌, ◌≢◌, ◌⊎◌, inl, inr, ℤ, pos, ◌+ℤ◌, ◌-ℤ◌, ◌≤ℤ◌, ◌<ℤ◌, int_lt, int_le, Bool, true, false, ◌&&◌, ◌||◌, List, refl, sym, ap, ap₂, ◌∙◌, subst, arith}
use Rattle.std.proofs.lemmas.Int.{ints}
use Rattle.ev_geom.specs.Area.{Area, holds, is_within, meet}
use Rattle.ev_geom.proofs.Meeting.{holds_meet}
use Rattle.ev_geom.specs.Bands.{has_pixel, IsBandsOf, IsInSquare, FitsRegion}
use Rattle.ev_model.proofs.Meets.{meet_sides}
use Rattle.ev_damage.specs.Places.{Adds}
use Rattle.ev_damage.proofs.Members.{both}

-- a place in a stretch
within : (from len at : ℤ) → from ≤ℤ at → at <ℤ (from +ℤ len) → is_within from len at ≡ true
within from len at low high =
    let a : int_le from at ≡ true = grind (arith, ints) in
    let b : int_lt at (from +ℤ len) ≡ true = grind (arith, ints) in
    ap₂ ◌&&◌ a b

le_is : (x y : ℤ) → int_le x y ≡ true → x ≤ℤ y
le_is x y e = omega (arith, ints, e)

lt_is : (x y : ℤ) → int_lt x y ≡ true → x <ℤ y
lt_is x y e = omega (arith, ints, e)

within_is : (from len at : ℤ) → is_within from len at ≡ true → (from ≤ℤ at) × (at <ℤ (from +ℤ len))
within_is from len at e = let r = both (int_le from at) (int_lt at (from +ℤ len)) e in (le_is from at r.0, lt_is at (from +ℤ len) r.1)

none_within : (from len at : ℤ) → len ≤ℤ pos 0 → is_within from len at ≡ false
none_within from len at h = go (int_le from at) refl where
  go : (t : Bool) → int_le from at ≡ t → is_within from len at ≡ false
  go true e = let l = le_is from at e in let b : int_lt at (from +ℤ len) ≡ false = grind (arith, ints) in ap₂ ◌&&◌ e b
  go false e = ap (λ t. t && int_lt at (from +ℤ len)) e

and_false : (b : Bool) → (b && false) ≡ false
and_false true = refl
and_false false = refl

or_false : (b : Bool) → (b || false) ≡ b
or_false true = refl
or_false false = refl

or_assoc : (a b c : Bool) → ((a || b) || c) ≡ (a || (b || c))
or_assoc true b c = refl
or_assoc false b c = refl

-- an empty rectangle holds nothing
none_held : (m : Area) (x y : ℤ) → (m.w ≤ℤ pos 0) ⊎ (m.h ≤ℤ pos 0) → holds m x y ≡ false
none_held m x y (inl h) = ap (λ t. t && is_within m.y m.h y) (none_within m.x m.w x h)
none_held m x y (inr h) = ap (λ t. is_within m.x m.w x && t) (none_within m.y m.h y h) ∙ and_false (is_within m.x m.w x)

-- a rectangle lies in the square where each of its pixels lies in one that does
pub common_fits : (m a b : Area) → ((x y : ℤ) → holds m x y ≡ (holds a x y && holds b x y)) → pos 0 <ℤ m.w → pos 0 <ℤ m.h → FitsRegion b → IsInSquare m
common_fits m a b pixels wide high fits =
    let right : ℤ = m.x +ℤ m.w -ℤ pos 1 in
    let bottom : ℤ = m.y +ℤ m.h -ℤ pos 1 in
    let held : (x y : ℤ) → m.x ≤ℤ x → x <ℤ (m.x +ℤ m.w) → m.y ≤ℤ y → y <ℤ (m.y +ℤ m.h) → holds b x y ≡ true = λ x y p q r s.
    ((both (holds a x y) (holds b x y) (sym (pixels x y) ∙ ap₂ ◌&&◌ (within m.x m.w x p q) (within m.y m.h y r s))).1) in
    let first = both (is_within b.x b.w m.x) (is_within b.y b.h m.y) (held m.x m.y (omega (arith, ints)) (omega (arith, ints, wide)) (omega (arith, ints)) (omega (arith, ints, high))) in
    let last = both (is_within b.x b.w right) (is_within b.y b.h bottom) (held right bottom (omega (arith, ints, wide)) (omega (arith, ints)) (omega (arith, ints, high)) (omega (arith, ints))) in
    let x = within_is b.x b.w m.x first.0 in
    let y = within_is b.y b.h m.y first.1 in
    let u = within_is b.x b.w right last.0 in
    let v = within_is b.y b.h bottom last.1 in
    let square = fits (λ e. (omega (arith, ints, x.0, x.1, e))) (λ e. (omega (arith, ints, y.0, y.1, e))) in
    record {
      left = omega (arith, ints, x.0, square.left);
      top = omega (arith, ints, y.0, square.top);
      right = omega (arith, ints, u.1, square.right);
      bottom = omega (arith, ints, v.1, square.bottom);
    }

-- the pixels of a rectangle that is the common part of two
pub meet_pixels : (a b m : Area) → m ≡ meet a b → (x y : ℤ) → holds m x y ≡ (holds a x y && holds b x y)
meet_pixels a b m e x y = ap (λ m. holds m x y) e ∙ holds_meet a b x y

not_below : (n : ℤ) → pos 0 ≤ℤ n → n ≢ pos 0 → pos 0 <ℤ n
not_below n low none = go (int_lt (pos 0) n) refl where
  go : (t : Bool) → int_lt (pos 0) n ≡ t → pos 0 <ℤ n
  go true e = lt_is (pos 0) n e
  go false e = absurd (none (omega (arith, ints, low, e)))

-- the common part of two rectangles, of which one lies in the square, lies there too
pub meet_fits : (a b m : Area) → m ≡ meet a b → FitsRegion b → FitsRegion m
meet_fits a b m e fits wide high =
    let sides = subst (λ m. (pos 0 ≤ℤ m.w) × (pos 0 ≤ℤ m.h)) (sym e) (meet_sides a b) in
    common_fits m a b (meet_pixels a b m e) (not_below m.w sides.0 wide) (not_below m.h sides.1 high) fits

-- nothing is added
pub adds_none : (more : ℤ → ℤ → Bool) (old : List Area) → ((x y : ℤ) → more x y ≡ false) → Adds more old old
adds_none more old h = record { pixels = λ x y. sym (ap (λ t. has_pixel old x y || t) (h x y) ∙ or_false (has_pixel old x y)); banded = λ b. b }

-- the pixels of a rectangle are added
pub adds_rect : (more : ℤ → ℤ → Bool) (old new : List Area) (m : Area) → IsBandsOf (λ x y. has_pixel old x y || holds m x y) new → ((x y : ℤ) → holds m x y ≡ more x y) → Adds more old new
adds_rect more old new m is h = record { pixels = λ x y. is.pixels x y ∙ ap (λ t. has_pixel old x y || t) (h x y); banded = λ b. is.banded }

-- some are added and then some more
pub adds_both : (one two all : ℤ → ℤ → Bool) (old mid new : List Area) → Adds one old mid → Adds two mid new → ((x y : ℤ) → (one x y || two x y) ≡ all x y) → Adds all old new
adds_both one two all old mid new a b h = record {
  pixels = λ x y. b.pixels x y ∙ ap (λ t. t || two x y) (a.pixels x y) ∙ or_assoc (has_pixel old x y) (one x y) (two x y) ∙ ap (λ t. has_pixel old x y || t) (h x y);
  banded = λ p. b.banded (a.banded p);
}

-- an area that has no pixel in common with another
pub adds_nothing : (a b m : Area) (old : List Area) → m ≡ meet a b → (m.w ≡ pos 0) ⊎ (m.h ≡ pos 0) → Adds (λ x y. holds a x y && holds b x y) old old
adds_nothing a b m old e none = adds_none (λ x y. holds a x y && holds b x y) old (λ x y. sym (meet_pixels a b m e x y) ∙ none_held m x y (below none)) where
  below : (m.w ≡ pos 0) ⊎ (m.h ≡ pos 0) → (m.w ≤ℤ pos 0) ⊎ (m.h ≤ℤ pos 0)
  below (inl h) = inl (omega (arith, ints, h))
  below (inr h) = inr (omega (arith, ints, h))
