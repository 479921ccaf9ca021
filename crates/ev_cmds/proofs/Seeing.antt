-- What a tile sees of edges.
use Rattle.std.proofs.Common.{ℕ, ◌≡◌, ◌+◌, ◌-◌, ◌<◌, ◌≤◌, min, max, Bool, true, false, ◌&&◌, None, refl, sym, ap, ap₂, ◌∙◌, ⊎_elim, ◌⊎◌, inl, inr, arith}
use Rattle.std.proofs.lemmas.Bool.{cases_lt}
use Rattle.ev_areas.specs.Edges.{has_pixel_at, meet}
use Rattle.ev_cmds.specs.SeenEdges.{IsPatchOn, IsPartOn}
use Rattle.ev_areas.specs.declared.edges.Edges.{Edges}
use Rattle.ev_cmds.specs.declared.patch.Patch.{Patch}
use Rattle.ev_cmds.specs.Patches.{lies}
use Rattle.ev_cmds.proofs.Placing.{lies_in, lies_before, lies_after}

pub and_false : (b : Bool) → (b && false) ≡ false
and_false true = refl
and_false false = refl

-- a stretch, counted from x on
counted_from : (from to x i : ℕ) → i < 64 → lies (from - x) (min (to - x) 64) i ≡ lies from to (x + i)
counted_from from to x i tile =
    ⊎_elim
    (λ (a : x + i < from). lies_before (from - x) (min (to - x) 64) i (omega arith) ∙ sym (lies_before from to (x + i) a))
    (λ (a : from ≤ x + i). ⊎_elim
    (λ (b : x + i < to). lies_in (from - x) (min (to - x) 64) i (omega arith) (omega arith) ∙ sym (lies_in from to (x + i) a b))
    (λ (b : to ≤ x + i). lies_after (from - x) (min (to - x) 64) i (omega arith) ∙ sym (lies_after from to (x + i) b))
    (cases_lt (x + i) to))
    (cases_lt (x + i) from)

-- what is seen, by its edges
pub seen_places : (e : Edges) (x y i j : ℕ) → i < 64 → j < 64 → (lies (e.left - x) (min (e.right - x) 64) i && lies (e.top - y) (min (e.bottom - y) 64) j) ≡ has_pixel_at e (x + i) (y + j)
seen_places e x y i j wide tall = ap₂ ◌&&◌ (counted_from e.left e.right x i wide) (counted_from e.top e.bottom y j tall)

pub some_part : (e : Edges) (x y : ℕ) (p : Patch) → p.left ≡ e.left - x → p.right ≡ min (e.right - x) 64 → p.top ≡ e.top - y → p.bottom ≡ min (e.bottom - y) 64 → p.left < p.right → p.top < p.bottom → IsPatchOn e x y p
some_part e x y p a b c d wide tall = record {
  patch = record { wide = wide; right = omega arith; tall = tall; bottom = omega arith };
  to_right = omega arith;
  to_bottom = omega arith;
  places = λ i j left down. rw (a, b, c, d) (seen_places e x y i j left down);
}

pub no_stretch : (from to at : ℕ) → to ≤ from → lies from to at ≡ false
no_stretch from to at h = ⊎_elim (λ (a : at < from). lies_before from to at a) (λ (a : from ≤ at). lies_after from to at (omega arith)) (cases_lt at from)

pub no_part : (e : Edges) (x y : ℕ) → (min (e.right - x) 64 ≤ e.left - x) ⊎ (min (e.bottom - y) 64 ≤ e.top - y) → IsPartOn e x y None
no_part e x y (inl h) i j wide tall = sym (seen_places e x y i j wide tall) ∙ ap (λ (b : Bool). b && lies (e.top - y) (min (e.bottom - y) 64) j) (no_stretch (e.left - x) (min (e.right - x) 64) i h)
no_part e x y (inr h) i j wide tall = sym (seen_places e x y i j wide tall) ∙ ap (λ (b : Bool). lies (e.left - x) (min (e.right - x) 64) i && b) (no_stretch (e.top - y) (min (e.bottom - y) 64) j h) ∙ and_false _

-- what two stretches have in common
common : (a b c d at : ℕ) → lies (max a c) (min b d) at ≡ (lies a b at && lies c d at)
common a b c d at =
    ⊎_elim
    (λ (h : at < a). lies_before (max a c) (min b d) at (omega arith) ∙ sym (ap (λ (t : Bool). t && lies c d at) (lies_before a b at h)))
    (λ (h : a ≤ at). ⊎_elim
    (λ (i : at < b). ⊎_elim
    (λ (j : at < c). lies_before (max a c) (min b d) at (omega arith) ∙ sym (ap₂ ◌&&◌ (lies_in a b at h i) (lies_before c d at j)))
    (λ (j : c ≤ at). ⊎_elim
    (λ (k : at < d). lies_in (max a c) (min b d) at (omega arith) (omega arith) ∙ sym (ap₂ ◌&&◌ (lies_in a b at h i) (lies_in c d at j k)))
    (λ (k : d ≤ at). lies_after (max a c) (min b d) at (omega arith) ∙ sym (ap₂ ◌&&◌ (lies_in a b at h i) (lies_after c d at k)))
    (cases_lt at d))
    (cases_lt at c))
    (λ (i : b ≤ at). lies_after (max a c) (min b d) at (omega arith) ∙ sym (ap (λ (t : Bool). t && lies c d at) (lies_after a b at i)))
    (cases_lt at b))
    (cases_lt at a)

regrouped : (a b c d : Bool) → ((a && b) && (c && d)) ≡ ((a && c) && (b && d))
regrouped true true c d = refl
regrouped true false true d = refl
regrouped true false false d = refl
regrouped false b c d = refl

pub meet_has : (a b : Edges) (x y : ℕ) → has_pixel_at (meet a b) x y ≡ (has_pixel_at a x y && has_pixel_at b x y)
meet_has a b x y = ap₂ ◌&&◌ (common a.left a.right b.left b.right x) (common a.top a.bottom b.top b.bottom y) ∙ regrouped (lies a.left a.right x) (lies b.left b.right x) (lies a.top a.bottom y) (lies b.top b.bottom y)
