-- Buffers before and after one of them is lent or given back.
use Rattle.std.proofs.Common.{ℕ, zero, suc, ◌≡◌, Bool, true, false, ◌||◌, ◌&&◌, not, List, [], ◌∷◌, ◌++◌, length, drop, set, ℤ, pos, Option, Some, None, refl, sym, ap, ◌∙◌, subst, arith}
use Rattle.ev_argb.specs.Argb.{Argb}
use Rattle.ev_argb.specs.Grid.{Grid}
use Rattle.ev_geom.specs.Area.{Area}
use Rattle.ev_geom.specs.Bands.{has_pixel, IsBandsOf}
use Rattle.ev_buffers.specs.declared.mark.Mark.{Mark}
use Rattle.ev_buffers.specs.Marks.{has_pixel_in, is_unused, updated, in_picture, IsStaleSince, IsJoined, IsNextOf}
use Rattle.ev_buffers.specs.BufferChain.{to_draw, next_picture, AreUnused}
use Rattle.ev_buffers.specs.Kept.{Shows, ShowsDone, ShowsAtHome, AllShow, IsCovered, Follows, everywhere}

or_assoc : (a b c : Bool) → ((a || b) || c) ≡ (a || (b || c))
or_assoc true b c = refl
or_assoc false b c = refl

pub or_false : (a : Bool) → (a || false) ≡ a
or_false true = refl
or_false false = refl

or_true : (a : Bool) → (a || true) ≡ true
or_true true = refl
or_true false = refl

none_left : (a b : Bool) → (a || b) ≡ false → a ≡ false
none_left true b h = h
none_left false b h = refl

pub none_right : (a b : Bool) → (a || b) ≡ false → b ≡ false
none_right true b h = absurd (cc)
none_right false b h = h

both_false : (a b : Bool) → a ≡ false → b ≡ false → (a || b) ≡ false
both_false a b e f = rw (e, f) refl

and_not : (a b : Bool) → (a && not b) ≡ false → b ≡ false → a ≡ false
and_not true true s e = e
and_not true false s e = s
and_not false b s e = refl

covers : (u m : Bool) → (u ≡ false → m ≡ true) → (m || u) ≡ true
covers true m f = or_true m
covers false m f = rw (f refl) refl

-- the updates of the marks once the buffer before them was lent
pub updated_next : (updates : List Area) (ms ns : List Mark) → IsNextOf updates ms ns → (x y : ℤ) → updated ns x y ≡ (updated ms x y || has_pixel updates x y)
updated_next updates ms [] e x y = absurd e
updated_next updates [] (n ∷ ns) e x y = rw (e.0, e.1) (or_false (has_pixel updates x y))
updated_next updates (m ∷ ms) (n ∷ ns) e x y =
    rw (e.0.updates_kept, updated_next updates ms ns e.1 x y)
    (sym (or_assoc (has_pixel_in m.updates x y) (updated ms x y) (has_pixel updates x y)))

pub stale_next : (w h : ℕ) (updates : List Area) (ms ns : List Mark) → IsNextOf updates ms ns → IsStaleSince w h ms → IsStaleSince w h ns
stale_next w h updates ms [] e s = absurd e
stale_next w h updates [] (n ∷ ns) e s = (λ x y. rw (e.0, e.1) refl, subst (IsStaleSince w h) (sym e.1) tt)
stale_next w h updates (m ∷ ms) (n ∷ ns) e s = (
  λ x y. rw (e.0.updates_kept, updated_next updates ms ns e.1 x y)
      (e.0.stale.pixels x y ∙ ap (λ b. b || has_pixel updates x y) (s.0 x y)
      ∙ or_assoc (is_unused m.updates && in_picture w h x y) (updated ms x y) (has_pixel updates x y)),
  stale_next w h updates ms ns e.1 s.1,
)

covered_next : (w h : ℕ) (updates : List Area) (hidden hidden' : ℤ → ℤ → Bool) (paint paint' : ℕ → ℕ → Argb) (ms ns : List Mark) → Follows w h paint hidden updates paint' hidden'
    → IsNextOf updates ms ns → IsCovered w h hidden ms → IsCovered w h hidden' ns
covered_next w h updates hidden hidden' paint paint' ms [] f e c = absurd e
covered_next w h updates hidden hidden' paint paint' [] (n ∷ ns) f e c = (
  λ unused x y xw yh hid. let used : is_unused n.updates ≡ false = ap (λ m. is_unused m.updates) e.0 in absurd (cc),
  subst (IsCovered w h hidden') (sym e.1) tt,
)
covered_next w h updates hidden hidden' paint paint' (m ∷ ms) (n ∷ ns) f e c = (
  λ unused x y xw yh hid.
      let was : is_unused m.updates ≡ true = ap is_unused (sym e.0.updates_kept) ∙ unused in
      updated_next updates ms ns e.1 (pos x) (pos y)
      ∙ covers (has_pixel updates (pos x) (pos y)) (updated ms (pos x) (pos y)) (λ no. c.0 was x y xw yh (f.pixels x y xw yh no hid).0),
  covered_next w h updates hidden hidden' paint paint' ms ns f e.1 c.1,
)

show_next : (w h : ℕ) (updates : List Area) (hidden hidden' : ℤ → ℤ → Bool) (paint paint' : ℕ → ℕ → Argb) (m n : Mark) (picture : Option Grid) → Follows w h paint hidden updates paint' hidden'
    → IsJoined updates m n → ShowsAtHome w h paint (λ x y. has_pixel m.stale x y || hidden x y) picture → ShowsAtHome w h paint' (λ x y. has_pixel n.stale x y || hidden' x y) picture
show_next w h updates hidden hidden' paint paint' m n None f j s = tt
show_next w h updates hidden hidden' paint paint' m n (Some picture) f j s =
    record {
      pixels = λ x y xw yh home sure.
          let t : (has_pixel m.stale (pos x) (pos y) || has_pixel updates (pos x) (pos y)) ≡ false = sym (j.stale.pixels (pos x) (pos y)) ∙ none_left _ _ sure in
          let same = f.pixels x y xw yh (none_right _ _ t) (none_right _ _ sure) in
          s.pixels x y xw yh home (both_false _ _ (none_left _ _ t) same.0) ∙ same.1;
    }

shows_next : (w h : ℕ) (updates : List Area) (hidden hidden' : ℤ → ℤ → Bool) (paint paint' : ℕ → ℕ → Argb) (ps : List (Option Grid)) (ms ns : List Mark) → Follows w h paint hidden updates paint' hidden'
    → IsNextOf updates ms ns → AllShow w h paint hidden ps ms → AllShow w h paint' hidden' (ps ++ None ∷ []) ns
shows_next w h updates hidden hidden' paint paint' ps ms [] f e a = absurd e
shows_next w h updates hidden hidden' paint paint' [] [] (n ∷ ns) f e a = (tt, subst (AllShow w h paint' hidden' []) (sym e.1) tt)
shows_next w h updates hidden hidden' paint paint' [] (m ∷ ms) (n ∷ ns) f e a = absurd a
shows_next w h updates hidden hidden' paint paint' (p ∷ ps) [] (n ∷ ns) f e a = absurd a
shows_next w h updates hidden hidden' paint paint' (p ∷ ps) (m ∷ ms) (n ∷ ns) f e a = (
  show_next w h updates hidden hidden' paint paint' m n p f e.0 a.0,
  shows_next w h updates hidden hidden' paint paint' ps ms ns f e.1 a.1,
)

-- what holds once the next buffer is lent
pub record Lending (w h : ℕ) (paint : ℕ → ℕ → Argb) (hidden : ℤ → ℤ → Bool) (work : List Area) (pictures : List (Option Grid)) (marks : List Mark) (picture : Grid) : Type 0 where
  pub pixels : AllShow w h paint hidden pictures marks
  pub covered : IsCovered w h hidden marks
  pub lent : ShowsDone w h paint (has_pixel work) hidden (λ t. false) picture

pub lending : (w h : ℕ) (updates work : List Area) (hidden hidden' : ℤ → ℤ → Bool) (paint paint' : ℕ → ℕ → Argb) (ps : List (Option Grid)) (ms ns : List Mark) (picture : Grid) → Follows w h paint hidden updates paint' hidden'
    → IsBandsOf (to_draw ms updates hidden') work → IsNextOf updates (drop 1 ms) ns → AllShow w h paint hidden ps ms → IsCovered w h hidden ms → Some picture ≡ next_picture ps
    → Lending w h paint' hidden' work (drop 1 ps ++ None ∷ []) ns picture
lending w h updates work hidden hidden' paint paint' [] ms ns picture f b e a c i = absurd (cc)
lending w h updates work hidden hidden' paint paint' (p ∷ ps) [] ns picture f b e a c i = absurd a
lending w h updates work hidden hidden' paint paint' (p ∷ ps) (m ∷ ms) ns picture f b e a c i =
    let s : Shows w h paint (λ x y. has_pixel m.stale x y || hidden x y) picture = subst (ShowsAtHome w h paint (λ x y. has_pixel m.stale x y || hidden x y)) (sym i) a.0 in
    record {
      pixels = shows_next w h updates hidden hidden' paint paint' ps ms ns f e a.1;
      covered = covered_next w h updates hidden hidden' paint paint' ms ns f e c.1;
      lent = record {
        pixels = λ x y xw yh home hid sure.
            let t : (has_pixel m.stale (pos x) (pos y) || has_pixel updates (pos x) (pos y)) ≡ false =
            and_not _ _ (sym (b.pixels (pos x) (pos y)) ∙ and_not _ _ sure refl) hid in
            let same = f.pixels x y xw yh (none_right _ _ t) hid in
            s.pixels x y xw yh home (both_false _ _ (none_left _ _ t) same.0) ∙ same.1;
      };
    }

-- a picture that shows what is painted in the place of another
pub shows_set : (w h : ℕ) (hidden : ℤ → ℤ → Bool) (paint : ℕ → ℕ → Argb) (ps : List (Option Grid)) (ms : List Mark) (k : ℕ) (picture : Grid) → AllShow w h paint hidden ps ms → Shows w h paint hidden picture
    → AllShow w h paint hidden (set ps k (Some picture)) ms
shows_set w h hidden paint [] ms k picture a s = a
shows_set w h hidden paint (p ∷ ps) [] k picture a s = absurd a
shows_set w h hidden paint (p ∷ ps) (m ∷ ms) zero picture a s =
    (record { pixels = λ x y xw yh home sure. s.pixels x y xw yh home (none_right _ _ sure) }, a.1)
shows_set w h hidden paint (p ∷ ps) (m ∷ ms) (suc k) picture a s = (a.0, shows_set w h hidden paint ps ms k picture a.1 s)

-- anything is shown while all is hidden
pub shows_new : (w h : ℕ) (paint : ℕ → ℕ → Argb) (ps : List (Option Grid)) (ms : List Mark) → length ps ≡ length ms → AllShow w h paint everywhere ps ms
shows_new w h paint [] [] e = tt
shows_new w h paint [] (m ∷ ms) e = absurd (omega arith)
shows_new w h paint (p ∷ ps) [] e = absurd (omega arith)
shows_new w h paint (p ∷ ps) (m ∷ ms) e = (shown p, shows_new w h paint ps ms (omega arith))
  where
    shown : (p : Option Grid) → ShowsAtHome w h paint (λ x y. has_pixel m.stale x y || everywhere x y) p
    shown None = tt
    shown (Some picture) = record { pixels = λ x y xw yh home sure. let z : true ≡ false = none_right (has_pixel m.stale (pos x) (pos y)) true sure in absurd (cc) }

pub covered_new : (w h : ℕ) (ms : List Mark) → IsCovered w h everywhere ms
covered_new w h [] = tt
covered_new w h (m ∷ ms) = (λ unused x y xw yh hid. absurd (cc), covered_new w h ms)

pub updated_none : (whole : ℤ → ℤ → Bool) (ms : List Mark) → AreUnused whole ms → (x y : ℤ) → updated ms x y ≡ false
updated_none whole [] a x y = refl
updated_none whole (m ∷ ms) a x y = rw (a.1, updated_none whole ms a.2 x y) refl

pub stale_new : (w h : ℕ) (ms : List Mark) → AreUnused (in_picture w h) ms → IsStaleSince w h ms
stale_new w h [] a = tt
stale_new w h (m ∷ ms) a = (
  λ x y. rw (a.1, updated_none (in_picture w h) ms a.2 x y) (a.0.pixels x y ∙ sym (or_false (in_picture w h x y))),
  stale_new w h ms a.2,
)
