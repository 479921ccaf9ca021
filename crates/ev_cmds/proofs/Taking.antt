-- A tile takes in a record.
use Rattle.std.proofs.Common.{ℕ, ◌≡◌, ◌+◌, ◌*◌, ◌/◌, ◌%◌, ◌<◌, ◌≤◌, Bool, true, false, not, ◌&&◌, ℤ, pos, List, [], ◌∷◌, None, Result, Ok, Err, OnOk, refl, sym, ap, ◌∙◌, subst, arith, append-nil}
use Rattle.std.specs.List.{AllByRecursion}
use Rattle.ev_argb.specs.Grid.{side_of}
use Rattle.ev_geom.specs.Area.{holds}
use Rattle.ev_geom.specs.Tiles.{tiles_along}
use Rattle.ev_model.specs.Look.{Look, look_of}
use Rattle.ev_model.specs.declared.scene.Record.{Record}
use Rattle.ev_areas.specs.Edges.{has_pixel_at}
use Rattle.ev_cmds.specs.SeenEdges.{IsPatchOn, IsPartOn}
use Rattle.ev_cmds.specs.TileJobs.{IsPlaced, IsTileOf, IsTaken, TakesIn, Clips}
use Rattle.ev_cmds.specs.Masks.{has_bit}
use Rattle.ev_cmds.specs.Opaque.{replaces}
use Rattle.ev_cmds.specs.Patches.{lies, has_place, one}
use Rattle.ev_cmds.specs.Sheets.{Shows, Sees, IsPaintable, LiesInArea, StillShows, StillFit}
use Rattle.ev_areas.specs.declared.edges.Edges.{Edges}
use Rattle.ev_cmds.specs.declared.patch.Patch.{Patch}
use Rattle.ev_cmds.specs.declared.sheet.Sheet.{Sheet}
use Rattle.ev_cmds.specs.declared.tile.TileCommands.{TileCommands}
use Rattle.ev_cmds.specs.declared.sheet.Command.{Command}
use Rattle.ev_cmds.proofs.Culling.{took}
use Rattle.ev_cmds.proofs.Fitting.{before_right}
use Rattle.ev_cmds.proofs.Seeing.{no_stretch}

-- what follows from two clauses on a success
pub on_ok_both : {T E : Type 0} {P Q R : Type 0} (r : Result T E) → (P → Q → R) → OnOk r P → OnOk r Q → OnOk r R
on_ok_both (Ok x) f p q = f p q
on_ok_both (Err e) f p q = tt

same_truth : (a b : Bool) → (a ≡ true → b ≡ true) → (b ≡ true → a ≡ true) → a ≡ b
same_truth true true f g = refl
same_truth true false f g = sym (f refl)
same_truth false true f g = g refl
same_truth false false f g = refl

and_false : (b : Bool) → (b && false) ≡ false
and_false true = refl
and_false false = refl

and_true : (b : Bool) → (b && true) ≡ b
and_true true = refl
and_true false = refl

-- in the work region, the edges have the pixels of the area
seen_area : (work : ℤ → ℤ → Bool) (w h : ℕ) (r : Record) (seen : Edges) (x y : ℕ) → Clips work w h r.area seen → work (pos x) (pos y) ≡ true → has_pixel_at seen x y ≡ holds r.area (pos x) (pos y)
seen_area work w h r seen x y clips inside = same_truth (has_pixel_at seen x y) (holds r.area (pos x) (pos y)) (clips.held x y) (clips.whole x y inside)

sees : (work : ℤ → ℤ → Bool) (w h : ℕ) (r : Record) (seen : Edges) (left top : ℕ) (area : Patch) → Clips work w h r.area seen → IsPatchOn seen left top area → Sees work r.area left top area
sees work w h r seen left top area clips part = record { places = λ x y wide tall inside. part.places x y wide tall ∙ seen_area work w h r seen (left + x) (top + y) clips inside }

in_area : (work : ℤ → ℤ → Bool) (w h : ℕ) (r : Record) (seen : Edges) (job : TileCommands) (area : Patch) → w ≤ 4096 → h ≤ 4096 → Clips work w h r.area seen → IsPlaced w h job → IsPatchOn seen job.left job.top area
    → LiesInArea job.left job.top (side_of w (job.tile % tiles_along w)) (side_of h (job.tile / tiles_along w)) r.area area
in_area work w h r seen job area wide tall clips placed part =
    let patch = part.patch in
    let across : area.right ≤ side_of w (job.tile % tiles_along w) = edge w (job.tile % tiles_along w) job.left area.right seen.right placed.left patch.right part.to_right clips.right in
    let down : area.bottom ≤ side_of h (job.tile / tiles_along w) = edge h (job.tile / tiles_along w) job.top area.bottom seen.bottom placed.top patch.bottom part.to_bottom clips.bottom in
    record {
      column = omega (arith, part.to_right, clips.right);
      row = omega (arith, part.to_bottom, clips.bottom);
      right = across;
      bottom = down;
      held = λ x y here. clips.held (job.left + x) (job.top + y) (sym (part.places x y (within x y here).0 (within x y here).1) ∙ here);
    }
  where
    edge : (limit k from right end : ℕ) → from ≡ k * 64 → right ≤ 64 → from + right ≤ end → end ≤ limit → right ≤ side_of limit k
    edge limit k from right end a b c d = omega (arith, a, b, c, d)

    within : (x y : ℕ) → has_place area x y ≡ true → (x < 64) × (y < 64)
    within x y here = let before = before_right area x y here in (omega (arith, before, part.patch.right), omega (arith, before, part.patch.bottom))

-- a record of which the tile sees nothing changes nothing
unseen : (work : ℤ → ℤ → Bool) (r : Record) (looks : List Look) (left top : ℕ) (job : Sheet) → IsPaintable (look_of r) → AllByRecursion IsPaintable looks
    → ((x y : ℕ) → x < 64 → y < 64 → work (pos (left + x)) (pos (top + y)) ≡ true → holds r.area (pos (left + x)) (pos (top + y)) ≡ false)
    → Shows work looks left top job.bare job.commands.items → Shows work (look_of r ∷ looks) left top job.bare job.commands.items
unseen work r looks left top sheet paintable all none shows =
    subst (λ (cs : List Command). Shows work (look_of r ∷ looks) left top sheet.bare cs) (append-nil sheet.commands.items)
    (took work r looks left top sheet.bare sheet.bare [] sheet.commands.items nothing (replaces (look_of r)) paintable all refl
    (record { places = λ x y wide tall inside. nothing_at x y ∙ sym (none x y wide tall inside) })
    (record { places = λ x y wide tall. sym (ap (λ (b : Bool). one (has_bit sheet.bare x y && b)) (nothing_at x y) ∙ ap one (and_false (has_bit sheet.bare x y))) })
    (record { places = λ x y wide tall. sym (ap (λ (b : Bool). has_bit sheet.bare x y && not (replaces (look_of r) && b)) (nothing_at x y) ∙ ap (λ (b : Bool). has_bit sheet.bare x y && not b) (and_false (replaces (look_of r))) ∙ and_true (has_bit sheet.bare x y)) })
    shows)
  where
    nothing : Patch
    nothing = record { left = 0; right = 0; top = 0; bottom = 0 }

    nothing_at : (x y : ℕ) → has_place nothing x y ≡ false
    nothing_at x y = ap (λ (b : Bool). b && lies 0 0 y) (no_stretch 0 0 x (omega arith))

pub unseen_tile : (work : ℤ → ℤ → Bool) (r : Record) (looks : List Look) (w h : ℕ) (seen : Edges) (job : TileCommands) → IsTaken work looks w h r seen
    → ((x y : ℕ) → x < 64 → y < 64 → has_pixel_at seen (job.left + x) (job.top + y) ≡ false) → IsTileOf work looks w h job → IsTileOf work (look_of r ∷ looks) w h job
unseen_tile work r looks w h seen job taken none tile = record {
  placed = tile.placed;
  shows = unseen work r looks job.left job.top job.sheet taken.paintable taken.above
      (λ x y wide tall inside. sym (seen_area work w h r seen (job.left + x) (job.top + y) taken.clips inside) ∙ none x y wide tall) tile.shows;
  fits = tile.fits;
}

pub sees_none : (r : Record) (seen : Edges) (job : TileCommands) → IsPartOn seen job.left job.top None → TakesIn r seen job job
sees_none r seen job none = record { tile = refl; more = λ work looks w h wide tall taken tile. unseen_tile work r looks w h seen job taken none tile }

pub sees_some : (r : Record) (seen : Edges) (job : TileCommands) (area : Patch) (sheet : Sheet) → IsPatchOn seen job.left job.top area
    → StillShows r area job.sheet.bare job.sheet.commands.items sheet.bare sheet.commands.items → StillFit r area job.sheet.commands.items sheet.commands.items
    → TakesIn r seen job (record job { sheet = sheet })
sees_some r seen job area sheet part shows fit = record {
  tile = refl;
  more = λ work looks w h wide tall taken tile. record {
    placed = record { left = tile.placed.left; top = tile.placed.top; within = tile.placed.within };
    shows = shows.more work looks job.left job.top taken.paintable taken.above (sees work w h r seen job.left job.top area taken.clips part) tile.shows;
    fits = fit.more job.left job.top (side_of w (job.tile % tiles_along w)) (side_of h (job.tile / tiles_along w)) taken.paintable taken.look.rect taken.look.limits
        (in_area work w h r seen job area wide tall taken.clips tile.placed part) tile.fits;
  };
}
