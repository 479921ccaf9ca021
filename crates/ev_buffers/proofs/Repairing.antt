-- What a frame draws: what was updated since its buffer's last use, without the hidden pixels.
use Rattle.std.proofs.Common.{ℕ, ◌≡◌, ◌<◌, ◌≤◌, Bool, true, false, ◌||◌, ◌&&◌, not, List, [], ◌∷◌, length, drop, ℤ, pos, negsuc, refl, sym, ap, ◌∙◌, subst, arith}
use Rattle.std.proofs.lemmas.Int.{ints}
use Rattle.ev_argb.specs.Argb.{Argb}
use Rattle.ev_geom.specs.Area.{Area}
use Rattle.ev_geom.specs.Bands.{has_pixel}
use Rattle.ev_buffers.specs.declared.mark.Mark.{Mark}
use Rattle.ev_buffers.specs.Marks.{is_unused, updated, in_picture, IsStaleSince}
use Rattle.ev_buffers.specs.BufferChain.{Chain, Draft, IsChain, IsPlanOf, to_draw}
use Rattle.ev_buffers.specs.Kept.{IsCovered, Follows, Repairs}

and_false : (a : Bool) → (a && false) ≡ false
and_false true = refl
and_false false = refl

or_true : (a : Bool) → (a || true) ≡ true
or_true true = refl
or_true false = refl

-- a pixel of an unused buffer that has to be drawn was updated later or now
same : (unused inside later now hid : Bool) → (unused ≡ true → inside ≡ true → now ≡ false → hid ≡ false → later ≡ true)
    → ((((unused && inside) || later) || now) && not hid) ≡ ((later || now) && not hid)
same unused inside later now true f = and_false (((unused && inside) || later) || now) ∙ sym (and_false (later || now))
same unused inside true now false f = rw (or_true (unused && inside)) refl
same unused inside false true false f = rw (or_true ((unused && inside) || false)) refl
same false inside false false false f = refl
same true false false false false f = refl
same true true false false false f = absurd (let z : false ≡ true = f refl refl refl refl in cc)

-- a pixel of a picture has natural places
record At (w h : ℕ) (x y : ℤ) : Type 0 where
  column : ℕ
  row : ℕ
  x_is : x ≡ pos column
  y_is : y ≡ pos row
  wide : column < w
  high : row < h

at : (w h : ℕ) (x y : ℤ) → in_picture w h x y ≡ true → At w h x y
at w h (pos a) (pos b) e = record { column = a; row = b; x_is = refl; y_is = refl; wide = grind (arith, ints, e); high = grind (arith, ints, e) }
at w h (pos a) (negsuc b) e = absurd (grind (arith, ints, e))
at w h (negsuc a) y e = absurd (grind (arith, ints, e))

of_marks : (w h : ℕ) (marks : List Mark) (updates : List Area) (hidden hidden' : ℤ → ℤ → Bool) (paint paint' : ℕ → ℕ → Argb) → 1 ≤ length marks → IsStaleSince w h marks → IsCovered w h hidden marks
    → Follows w h paint hidden updates paint' hidden' → (x y : ℤ) → to_draw marks updates hidden' x y ≡ ((updated (drop 1 marks) x y || has_pixel updates x y) && not (hidden' x y))
of_marks w h [] updates hidden hidden' paint paint' some stale covered follows x y = absurd (omega arith)
of_marks w h (mark ∷ later) updates hidden hidden' paint paint' some stale covered follows x y =
    ap (λ b. (b || has_pixel updates x y) && not (hidden' x y)) (stale.0 x y)
    ∙ same (is_unused mark.updates) (in_picture w h x y) (updated later x y) (has_pixel updates x y) (hidden' x y)
    (λ unused inside no shown.
    let p = at w h x y inside in
    let out : has_pixel updates (pos p.column) (pos p.row) ≡ false = subst (λ (i : ℤ). has_pixel updates i (pos p.row) ≡ false) p.x_is (subst (λ (j : ℤ). has_pixel updates x j ≡ false) p.y_is no) in
    let seen : hidden' (pos p.column) (pos p.row) ≡ false = subst (λ (i : ℤ). hidden' i (pos p.row) ≡ false) p.x_is (subst (λ (j : ℤ). hidden' x j ≡ false) p.y_is shown) in
    let was = (follows.pixels p.column p.row p.wide p.high out seen).0 in
    let there : updated later (pos p.column) (pos p.row) ≡ true = covered.0 unused p.column p.row p.wide p.high was in
    subst (λ (i : ℤ). updated later i y ≡ true) (sym p.x_is) (subst (λ (j : ℤ). updated later (pos p.column) j ≡ true) (sym p.y_is) there))

pub repairs_of : (chain now : Chain) (plan : Draft) (updates : List Area) (hidden' : ℤ → ℤ → Bool) → chain ≡ now → IsChain chain → IsPlanOf now updates hidden' plan → Repairs now updates hidden' plan
repairs_of chain now plan updates hidden' view is made hidden paint paint' kept follows x y =
    let is_now : IsChain now = subst IsChain view is in
    made.work.pixels x y ∙ of_marks now.w now.h now.marks updates hidden hidden' paint paint' is_now.some is_now.stale kept.covered follows x y
