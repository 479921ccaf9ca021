-- What is updated, stale or planned lies in the pictures.
use Rattle.std.proofs.Common.{ℕ, ◌≡◌, ◌≤◌, Bool, true, false, ◌||◌, ◌&&◌, not, List, [], ◌∷◌, length, drop, ℤ, pos, refl, sym, ap, ◌∙◌, subst, arith}
use Rattle.std.proofs.lemmas.Int.{ints}
use Rattle.ev_geom.specs.Area.{Area}
use Rattle.ev_geom.specs.Bands.{has_pixel, IsBandsOf}
use Rattle.ev_region.specs.Count.{LiesWithin}
use Rattle.ev_buffers.specs.declared.mark.Mark.{Mark}
use Rattle.ev_buffers.specs.Marks.{has_pixel_in, is_unused, updated, in_picture, AreWithin, IsStaleSince, IsNextOf}
use Rattle.ev_buffers.specs.BufferChain.{Chain, Draft, IsChain, IsPlanOf, AreUnused, next_stale, to_draw}
use Rattle.ev_buffers.proofs.Turns.{updated_next, updated_none, none_right}

both_fail : (a b : Bool) → a ≡ false → b ≡ false → (a || b) ≡ false
both_fail a b e f = rw (e, f) refl

and_fails : (a b : Bool) → b ≡ false → (a && b) ≡ false
and_fails true b e = e
and_fails false b e = refl

front_fails : (a b : Bool) → a ≡ false → (a && b) ≡ false
front_fails a b e = rw e refl

-- a pixel right of a picture or below it isn't in the picture
outside_right : (w h x y : ℕ) → w ≤ x → in_picture w h (pos x) (pos y) ≡ false
outside_right w h x y far = grind (arith, ints, far)

outside_below : (w h x y : ℕ) → h ≤ y → in_picture w h (pos x) (pos y) ≡ false
outside_below w h x y far = grind (arith, ints, far)

-- sets with the same pixels lie within the same pictures
same_within : (w h : ℕ) (f g : ℤ → ℤ → Bool) → ((x y : ℤ) → g x y ≡ f x y) → LiesWithin w h f → LiesWithin w h g
same_within w h f g same lies = record {
  right = λ x y far. same (pos x) (pos y) ∙ lies.right x y far;
  below = λ x y far. same (pos x) (pos y) ∙ lies.below x y far;
}

either_within : (w h : ℕ) (f g : ℤ → ℤ → Bool) → LiesWithin w h f → LiesWithin w h g → LiesWithin w h (λ x y. f x y || g x y)
either_within w h f g one other = record {
  right = λ x y far. both_fail (f (pos x) (pos y)) (g (pos x) (pos y)) (one.right x y far) (other.right x y far);
  below = λ x y far. both_fail (f (pos x) (pos y)) (g (pos x) (pos y)) (one.below x y far) (other.below x y far);
}

later_within : (w h : ℕ) (mark : Mark) (later : List Mark) → AreWithin w h (mark ∷ later) → AreWithin w h later
later_within w h mark later all = record {
  right = λ x y far. none_right (has_pixel_in mark.updates (pos x) (pos y)) (updated later (pos x) (pos y)) (all.right x y far);
  below = λ x y far. none_right (has_pixel_in mark.updates (pos x) (pos y)) (updated later (pos x) (pos y)) (all.below x y far);
}

dropped_within : (w h : ℕ) (marks : List Mark) → AreWithin w h marks → AreWithin w h (drop 1 marks)
dropped_within w h [] all = all
dropped_within w h (mark ∷ later) all = later_within w h mark later all

-- so it is once the next buffer was lent
pub within_next : (w h : ℕ) (updates : List Area) (marks new : List Mark) → IsNextOf updates (drop 1 marks) new → LiesWithin w h (has_pixel updates) → AreWithin w h marks → AreWithin w h new
within_next w h updates marks new next lies all =
    same_within w h (λ x y. updated (drop 1 marks) x y || has_pixel updates x y) (updated new) (updated_next updates (drop 1 marks) new next)
    (either_within w h (updated (drop 1 marks)) (has_pixel updates) (dropped_within w h marks all) lies)

-- and before anything was drawn
pub within_new : (w h : ℕ) (marks : List Mark) → AreUnused (in_picture w h) marks → AreWithin w h marks
within_new w h marks unused = record {
  right = λ x y far. updated_none (in_picture w h) marks unused (pos x) (pos y);
  below = λ x y far. updated_none (in_picture w h) marks unused (pos x) (pos y);
}

stale_within : (w h : ℕ) (marks : List Mark) → IsStaleSince w h marks → AreWithin w h marks → LiesWithin w h (has_pixel (next_stale marks))
stale_within w h [] stale all = record { right = λ x y far. refl; below = λ x y far. refl }
stale_within w h (mark ∷ later) stale all =
    let rest = later_within w h mark later all in
    record {
      right = λ x y far. stale.0 (pos x) (pos y) ∙ both_fail (is_unused mark.updates && in_picture w h (pos x) (pos y)) (updated later (pos x) (pos y))
          (and_fails (is_unused mark.updates) (in_picture w h (pos x) (pos y)) (outside_right w h x y far)) (rest.right x y far);
      below = λ x y far. stale.0 (pos x) (pos y) ∙ both_fail (is_unused mark.updates && in_picture w h (pos x) (pos y)) (updated later (pos x) (pos y))
          (and_fails (is_unused mark.updates) (in_picture w h (pos x) (pos y)) (outside_below w h x y far)) (rest.below x y far);
    }

-- the work region of a plan lies in the pictures
pub work_within : (chain now : Chain) (plan : Draft) (updates : List Area) (hidden : ℤ → ℤ → Bool) → chain ≡ now → IsChain chain → IsPlanOf now updates hidden plan → LiesWithin now.w now.h (has_pixel plan.work)
work_within chain now plan updates hidden view is made =
    let here : IsChain now = subst IsChain view is in
    let drawn = either_within now.w now.h (has_pixel (next_stale now.marks)) (has_pixel updates) (stale_within now.w now.h now.marks here.stale here.within) made.within in
    record {
      right = λ x y far. made.work.pixels (pos x) (pos y)
          ∙ front_fails (has_pixel (next_stale now.marks) (pos x) (pos y) || has_pixel updates (pos x) (pos y)) (not (hidden (pos x) (pos y))) (drawn.right x y far);
      below = λ x y far. made.work.pixels (pos x) (pos y)
          ∙ front_fails (has_pixel (next_stale now.marks) (pos x) (pos y) || has_pixel updates (pos x) (pos y)) (not (hidden (pos x) (pos y))) (drawn.below x y far);
    }
