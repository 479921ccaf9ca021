-- A plan, by the regions and the tiles that it was made of.
use Rattle.std.proofs.Common.{◌≡◌, ◌∙◌, ◌≤◌, ◌-◌, suc, take, ◌||◌, ◌&&◌, not, Bool, List, [], ◌∷◌, length, drop, get_or, ℤ, refl, sym, ap, subst, arith}
use Rattle.std.proofs.Math.Seq.{take-length}
use Rattle.ev_geom.specs.Area.{Area}
use Rattle.ev_geom.specs.Bands.{has_pixel, IsBandsOf}
use Rattle.ev_geom.specs.Tiles.{jobs_of}
use Rattle.ev_region.specs.Count.{LiesWithin}
use Rattle.ev_buffers.specs.declared.mark.Mark.{Mark}
use Rattle.ev_buffers.specs.Marks.{IsNextOf}
use Rattle.ev_buffers.specs.BufferChain.{Chain, Draft, IsPlanOf, next_stale}

-- the first mark is the next buffer's
next_stale_at : (marks : List Mark) (d : Mark) → 1 ≤ length marks → next_stale marks ≡ (get_or marks 0 d).stale
next_stale_at [] d some = absurd (omega arith)
next_stale_at (mark ∷ marks) d some = refl

-- all others are those after the first
others_of : (marks others : List Mark) → others ≡ marks → take (length others - 1) (drop 1 others) ≡ drop 1 marks
others_of marks [] e = ap (drop 1) e
others_of marks (mark ∷ others) e =
    let n : suc (length others) - 1 ≡ length others = omega arith in
    ap (λ k. take k others) n ∙ take-length others ∙ ap (drop 1) e

pub plan_of : (chain now : Chain) (others : List Mark) (mark : Mark) (updates : List Area) (hidden : ℤ → ℤ → Bool) (plan : Draft) → chain ≡ now → others ≡ chain.marks → 1 ≤ length chain.marks → mark ≡ get_or chain.marks 0 mark
    → LiesWithin now.w now.h (has_pixel updates)
    → IsBandsOf (λ x y. (has_pixel mark.stale x y || has_pixel updates x y) && not (hidden x y)) plan.work
    → IsNextOf updates (take (length others - 1) (drop 1 others)) plan.marks
    → plan.tiles ≡ jobs_of (has_pixel plan.work) chain.w chain.h
    → IsPlanOf now updates hidden plan
plan_of chain now others mark updates hidden plan view same some first within work marks tiles =
    let stale : mark.stale ≡ next_stale chain.marks = ap (λ m. m.stale) first ∙ sym (next_stale_at chain.marks mark some) in
    subst (λ b. IsPlanOf b updates hidden plan) view
    (record {
      within = subst (λ b. LiesWithin b.w b.h (has_pixel updates)) (sym view) within;
      work = subst (λ old. IsBandsOf (λ x y. (has_pixel old x y || has_pixel updates x y) && not (hidden x y)) plan.work) stale work;
      marks = subst (λ rest. IsNextOf updates rest plan.marks) (others_of chain.marks others same) marks;
      tiles = tiles;
    })
