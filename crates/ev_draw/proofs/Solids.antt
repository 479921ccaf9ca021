-- Rectangles of one colour.
use Rattle.std.proofs.Common.{ℕ, ◌≡◌, ◌+◌, ◌-◌, ◌*◌, ◌<◌, ◌≤◌, ◌⊎◌, inl, inr, false, get_or, arith, ap, ap₂, refl, ◌∙◌}
use Rattle.std.proofs.lemmas.Bool.{cases_lt}
use Rattle.ev_cmds.specs.Patches.{has_place, size_of}
use Rattle.ev_cmds.specs.declared.patch.Patch.{Patch}
use Rattle.ev_argb.specs.Argb.{Argb, clear}
use Rattle.ev_argb.specs.Tile.{Tile, PaintsRect, tile_at}
use Rattle.ev_draw.specs.Making.{Paints, rectangle, span}
use Rattle.ev_draw.proofs.Patching.{Has, has_of, no_has, repainted}

-- a place that a rectangle doesn't have
out_of : (x y w h i j : ℕ) → has_place (rectangle x y w h) i j ≡ false → (i < x) ⊎ ((x + w ≤ i) ⊎ ((j < y) ⊎ (y + h ≤ j)))
out_of x y w h i j has = elim (cases_lt i x) [
  | inl l ↦ inl l
  | inr l ↦ elim (cases_lt i (x + w)) [
    | inr r ↦ inr (inl r)
    | inl r ↦ elim (cases_lt j y) [
      | inl t ↦ inr (inr (inl t))
      | inr t ↦ elim (cases_lt j (y + h)) [
        | inr b ↦ inr (inr (inr b))
        | inl b ↦ absurd (no_has (rectangle x y w h) i j has (record { left = l; right = r; top = t; bottom = b }))
      ]
    ]
  ]
]

-- one colour on a rectangle paints it
pub rect_painted : (old new : Tile) (x y w h : ℕ) (make : Argb → Argb) (put : ℕ → ℕ → Argb → Argb) → PaintsRect old new x y w h make → ((i j : ℕ) (value : Argb) → make value ≡ put i j value) → Paints (rectangle x y w h) put (w * h) old new
rect_painted old new x y w h make put painted same =
    let here : (i j : ℕ) → tile_at new i j ≡ get_or new.pixels (j * old.w + i) clear = λ i j. ap (λ k. get_or new.pixels (j * k + i) clear) painted.width in
    record {
      width = painted.width;
      height = painted.height;
      inside = λ i j across down has.
          let at : Has (rectangle x y w h) i j = has_of (rectangle x y w h) i j has in
          here i j ∙ painted.pixels.inside i j at.left at.right at.top at.bottom ∙ same i j (tile_at old i j);
      outside = λ i j across down has. here i j ∙ painted.pixels.outside i j across (out_of x y w h i j has);
      count = (let c = painted.painted in omega arith);
    }

-- a patch is a rectangle
pub patch_painted : (p : Patch) (x y w h : ℕ) (make : ℕ → ℕ → Argb → Argb) (old new : Tile) → x ≡ p.left → y ≡ p.top → w ≡ p.right - p.left → h ≡ p.bottom - p.top → p.left ≤ p.right → p.top ≤ p.bottom
    → Paints (rectangle x y w h) make (w * h) old new → Paints p make (size_of p) old new
patch_painted p x y w h make old new left top width height across down painted =
    let right : x + w ≡ p.right = omega arith in
    let bottom : y + h ≡ p.bottom = omega arith in
    let same : rectangle x y w h ≡ p = ap₂ (λ (a b : ℕ). record { left = a; right = b; top = y; bottom = y + h }) left right ∙ ap₂ (λ (a b : ℕ). record { left = p.left; right = p.right; top = a; bottom = b }) top bottom in
    repainted (rectangle x y w h) p make make (w * h) (size_of p) old new same (ap₂ (λ (a b : ℕ). a * b) width height) (λ i j value has. refl) painted

-- a span is a rectangle of one row
pub span_painted : (x y w : ℕ) (make : ℕ → ℕ → Argb → Argb) (old new : Tile) → Paints (rectangle x y w 1) make (w * 1) old new → Paints (span x y w) make w old new
span_painted x y w make old new painted = repainted (rectangle x y w 1) (span x y w) make make (w * 1) w old new refl (omega arith) (λ i j value has. refl) painted
