-- Edges of rectangles.
use Rattle.std.proofs.Common.{ℕ, ◌≡◌, ◌+◌, ◌<◌, ◌≤◌, Bool, true, false, ◌&&◌, nat_le, nat_lt, ℤ, pos, ◌+ℤ◌, List, take, length, get_or, refl, sym, ap, ap₂, ◌∙◌, ⊎_elim, arith}
use Rattle.std.proofs.lemmas.Bool.{cases_lt, lt-ltb, le-ltb, le-leb, leb-true, ltb-true, and_parts, or_cases}
use Rattle.std.proofs.lemmas.List.Folds.{list_any_more}
use Rattle.ev_geom.specs.Area.{Area, is_within, holds}
use Rattle.ev_geom.specs.Bands.{has_pixel}
use Rattle.ev_areas.specs.Edges.{has_pixel_at, join, AreEdgesOf, IsNearest}
use Rattle.ev_areas.specs.declared.edges.Edges.{Edges}

and_true : (b : Bool) → b ≡ (b && true)
and_true true = refl
and_true false = refl

and_false : (b : Bool) → (b && false) ≡ false
and_false true = refl
and_false false = refl

-- one side of a rectangle
side : (from len : ℤ) (limit left right : ℕ) → IsNearest from limit left → IsNearest (from +ℤ len) limit right → (at : ℕ)
    → (nat_le left at && nat_lt at right) ≡ (is_within from len (pos at) && nat_lt at limit)
side from len limit left right l r at =
    ⊎_elim
    (λ h. ap₂ ◌&&◌ (l.at_or_after at h) (r.before at h) ∙ and_true _ ∙ ap (λ b. is_within from len (pos at) && b) (sym (lt-ltb at limit h)))
    (λ h. let past : right ≤ at = (let w = r.within in omega arith) in
    ap (λ b. nat_le left at && b) (le-ltb at right past) ∙ and_false _ ∙ sym (ap (λ b. is_within from len (pos at) && b) (le-ltb at limit h) ∙ and_false _))
    (cases_lt at limit)

regrouped : (a b c d : Bool) → ((a && b) && (c && d)) ≡ ((a && c) && (b && d))
regrouped true true c d = refl
regrouped true false true d = refl
regrouped true false false d = refl
regrouped false b c d = refl

pub edges_of : (area : Area) (w h : ℕ) (e : Edges) → IsNearest area.x w e.left → IsNearest (area.x +ℤ area.w) w e.right → IsNearest area.y h e.top → IsNearest (area.y +ℤ area.h) h e.bottom → AreEdgesOf area w h e
edges_of area w h e l r t b =
    record {
      right = r.within;
      bottom = b.within;
      pixels = λ x y. ap₂ ◌&&◌ (side area.x area.w w e.left e.right l r x) (side area.y area.h h e.top e.bottom t b y)
          ∙ regrouped (is_within area.x area.w (pos x)) (nat_lt x w) (is_within area.y area.h (pos y)) (nat_lt y h);
    }

-- edges between which others lie have their pixels

within : (from to low high at : ℕ) → low ≤ from → to ≤ high → (nat_le from at && nat_lt at to) ≡ true → (nat_le low at && nat_lt at high) ≡ true
within from to low high at a b here =
    let both = and_parts (nat_le from at) (nat_lt at to) here in
    let l = leb-true from at both.0 in
    let r = ltb-true at to both.1 in
    ap₂ ◌&&◌ (le-leb low at (omega arith)) (lt-ltb at high (omega arith))

within_both : (e f : Edges) (x y : ℕ) → f.left ≤ e.left → e.right ≤ f.right → f.top ≤ e.top → e.bottom ≤ f.bottom → has_pixel_at e x y ≡ true → has_pixel_at f x y ≡ true
within_both e f x y l r t b here =
    let both = and_parts (nat_le e.left x && nat_lt x e.right) (nat_le e.top y && nat_lt y e.bottom) here in
    ap₂ ◌&&◌ (within e.left e.right f.left f.right x l r both.0) (within e.top e.bottom f.top f.bottom y t b both.1)

-- edges have the pixels of these rectangles that lie on a canvas of w by h
abbrev pub AreAround : List Area → ℕ → ℕ → Edges → Type 0
AreAround rects w h e = (x y : ℕ) → x < w → y < h → has_pixel rects (pos x) (pos y) ≡ true → has_pixel_at e x y ≡ true

pub around_more : (rects : List Area) (i w h : ℕ) (d rect : Area) (bounds e : Edges) → i < length rects → rect ≡ get_or rects i d → AreEdgesOf rect w h e
    → AreAround (take i rects) w h bounds → AreAround (take (i + 1) rects) w h (join bounds e)
around_more rects i w h d rect bounds e low is edges before x y wide tall here =
    ⊎_elim
    (λ (old : has_pixel (take i rects) (pos x) (pos y) ≡ true). within_both bounds (join bounds e) x y (omega arith) (omega arith) (omega arith) (omega arith) (before x y wide tall old))
    (λ (new : holds (get_or rects i d) (pos x) (pos y) ≡ true). within_both e (join bounds e) x y (omega arith) (omega arith) (omega arith) (omega arith) (of_rect new))
    (or_cases (has_pixel (take i rects) (pos x) (pos y)) (holds (get_or rects i d) (pos x) (pos y)) (sym (list_any_more (λ (area : Area). holds area (pos x) (pos y)) rects i d low) ∙ here))
  where
    of_rect : holds (get_or rects i d) (pos x) (pos y) ≡ true → has_pixel_at e x y ≡ true
    of_rect new = edges.pixels x y ∙ ap₂ ◌&&◌ (ap (λ (area : Area). holds area (pos x) (pos y)) is ∙ new) (ap₂ ◌&&◌ (lt-ltb x w wide) (lt-ltb y h tall))
