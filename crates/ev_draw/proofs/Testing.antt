-- A canvas of 4 by 4 in tests.
use Rattle.std.proofs.Common.{ℕ, ◌≡◌, ◌≤◌, Bool, true, false, ◌&&◌, ◌||◌, ℤ, pos, ◌+ℤ◌, int_lt, int_le, List, [], refl, sym, ap, ◌∙◌, subst, arith}
use Rattle.std.proofs.lemmas.Int.{ints}
use Rattle.ev_argb.specs.Tile.{Tile}
use Rattle.ev_geom.specs.Area.{Area, is_within, holds}
use Rattle.ev_geom.specs.Bands.{has_pixel, IsBandsOf}
use Rattle.ev_region.specs.Count.{LiesWithin}
use Rattle.ev_model.specs.Capture.{Capture}
use Rattle.ev_cmds.specs.Cuts.{Cut, IsCutOf}
use Rattle.ev_cmds.specs.declared.tile.TileCommands.{TileCommands}
use Rattle.ev_draw.specs.DrawnTiles.{Job, tile_of}
use Rattle.ev_draw.specs.Making.{IsDrawn}
use Rattle.ev_draw.specs.SmallPlanes.{IsSmallPlane}

and_false : (b : Bool) → (b && false) ≡ false
and_false true = refl
and_false false = refl

-- the rectangle of this many columns and rows at 0, 0
abbrev pub corner : ℕ → Area
corner side = record { x = pos 0; y = pos 0; w = pos side; h = pos side }

not_within : (side at : ℕ) → side ≤ 4 → 4 ≤ at → is_within (pos 0) (pos side) (pos at) ≡ false
not_within side at small far = let beyond : int_lt (pos at) (pos 0 +ℤ pos side) ≡ false = grind (arith, ints) in ap (λ (b : Bool). int_le (pos 0) (pos at) && b) beyond ∙ and_false (int_le (pos 0) (pos at))

pub corner_lies : (side : ℕ) (area : Area) (work : List Area) → side ≤ 4 → area ≡ corner side → IsBandsOf (λ x y. has_pixel [] x y || holds area x y) work → LiesWithin 4 4 (has_pixel work)
corner_lies side area work small is bands = record {
  right = λ x y far. bands.pixels (pos x) (pos y) ∙ ap (λ (a : Area). holds a (pos x) (pos y)) is ∙ ap (λ (b : Bool). b && is_within (pos 0) (pos side) (pos y)) (not_within side x small far);
  below = λ x y far. bands.pixels (pos x) (pos y) ∙ ap (λ (a : Area). holds a (pos x) (pos y)) is ∙ ap (λ (b : Bool). is_within (pos 0) (pos side) (pos x) && b) (not_within side y small far) ∙ and_false (is_within (pos 0) (pos side) (pos x));
}

-- a plane keeps its size
pub still_small : (work : ℤ → ℤ → Bool) (capture : Capture) (cut : Cut) (d : TileCommands) (job : Job) (plane new : Tile) → job ≡ record { cut = cut; k = 0; plane = plane } → IsCutOf work capture cut → IsSmallPlane plane
    → (IsCutOf work capture job.cut → IsDrawn work capture.looks (tile_of job d).left (tile_of job d).top job.plane new) → IsSmallPlane new
still_small work capture cut d job plane new is of small draws =
    let drawn = draws (subst (λ (c : Cut). IsCutOf work capture c) (sym (ap (λ j. j.cut) is)) of) in
    let same = ap (λ j. j.plane) is in
    record { width = drawn.width ∙ ap (λ p. p.w) same ∙ small.width; height = drawn.height ∙ ap (λ p. p.h) same ∙ small.height }
