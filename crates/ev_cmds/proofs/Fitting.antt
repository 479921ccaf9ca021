-- Commands fit the plane and the object that they are for.
use Rattle.std.proofs.Common.{ℕ, ◌≡◌, ◌+◌, ◌-◌, ◌<◌, ◌≤◌, Bool, true, false, ◌&&◌, pos, nat_le, nat_lt, int_le, int_lt, ◌+ℤ◌, ◌≤ℤ◌, ◌<ℤ◌, List, [], ◌∷◌, ◌++◌, map, All, refl, sym, ap, ap₂, ◌∙◌, subst, arith}
use Rattle.std.specs.Prelude.{IsSome, Option}
use Rattle.std.specs.List.{AllByRecursion}
use Rattle.std.proofs.lemmas.Int.{ints}
use Rattle.std.proofs.lemmas.Bool.{and_parts, ltb-true}
use Rattle.std.proofs.lemmas.List.Elements.{All-append, All-from_recursion, recursion_from_All}
use Rattle.ev_argb.specs.Argb.{Argb}
use Rattle.ev_geom.specs.Area.{Area, holds, is_within}
use Rattle.ev_model.specs.Capture.{IsInside}
use Rattle.ev_model.specs.Limits.{IsObject}
use Rattle.ev_model.specs.Look.{look_of}
use Rattle.ev_model.specs.Paint.{sample_at}
use Rattle.ev_model.specs.declared.object.Op.{Op}
use Rattle.ev_model.specs.declared.scene.Record.{Record}
use Rattle.ev_cmds.specs.Opaque.{replaces, opaque_area}
use Rattle.ev_cmds.specs.Masks.{has_bit, AddsParts}
use Rattle.ev_cmds.specs.Patches.{has_place, one, times, IsPatch}
use Rattle.ev_cmds.specs.Sheets.{command_of, Fits, IsPaintable, IsSolid, LiesInArea, StillFit}
use Rattle.ev_cmds.specs.declared.patch.Patch.{Patch}
use Rattle.ev_cmds.specs.declared.sheet.Command.{Command}
use Rattle.ev_cmds.proofs.Placing.{lies_in}
use Rattle.ev_cmds.proofs.Culling.{covers}

-- each place of these patches lies in an area
pub record IsPartOf (area p : Patch) : Type 0 where
  pub patch : IsPatch p
  pub places : (x y : ℕ) → x < 64 → y < 64 → has_place p x y ≡ true → has_place area x y ≡ true

counted : (n : ℕ) (b : Bool) → 0 < one b + n → (b ≡ true → 0 < 1 + n) → 0 < one b + n
counted n b h f = h

each_part : (area : Patch) (ps : List Patch) → ((x y : ℕ) → x < 64 → y < 64 → 0 < times ps x y → has_place area x y ≡ true) → AllByRecursion IsPatch ps → AllByRecursion (IsPartOf area) ps
each_part area [] held all = tt
each_part area (p ∷ ps) held all = (
  record { patch = all.0; places = λ x y wide tall here. held x y wide tall (let e : one (has_place p x y) ≡ 1 = ap one here in omega arith) },
  each_part area ps (λ x y wide tall some. held x y wide tall (omega arith)) all.1,
)

second : (a b : Bool) → 0 < one (a && b) → b ≡ true
second true true h = refl
second true false h = absurd (omega arith)
second false b h = absurd (omega arith)

parts_in : (rows : List ℕ) (area : Patch) (old ps : List Patch) → AddsParts rows area old ps → old ≡ [] → AllByRecursion (IsPartOf area) ps
parts_in rows area old ps added none =
    let start : AddsParts rows area [] ps = subst (λ (qs : List Patch). AddsParts rows area qs ps) none added in
    each_part area ps
    (λ x y wide tall some. second (has_bit rows x y) (has_place area x y) (let e = start.places x y wide tall in omega arith))
    (recursion_from_All IsPatch ps (start.patches (All-from_recursion IsPatch [] tt)))

-- the pixel of a place lies in another area that the first leaves nowhere
record IsHeld (outer : Area) (x y : ℕ) : Type 0 where
  left : outer.x ≤ℤ pos x
  right : pos x <ℤ (outer.x +ℤ outer.w)
  top : outer.y ≤ℤ pos y
  bottom : pos y <ℤ (outer.y +ℤ outer.h)

is_held : (outer area : Area) (x y : ℕ) → IsInside outer area → holds area (pos x) (pos y) ≡ true → IsHeld outer x y
is_held outer area x y inside h =
    let both = and_parts (is_within area.x area.w (pos x)) (is_within area.y area.h (pos y)) h in
    let across = and_parts (int_le area.x (pos x)) (int_lt (pos x) (area.x +ℤ area.w)) both.0 in
    let down = and_parts (int_le area.y (pos y)) (int_lt (pos y) (area.y +ℤ area.h)) both.1 in
    let a : area.x ≤ℤ pos x = omega (arith, ints, across.0) in
    let b : pos x <ℤ (area.x +ℤ area.w) = omega (arith, ints, across.1) in
    let c : area.y ≤ℤ pos y = omega (arith, ints, down.0) in
    let d : pos y <ℤ (area.y +ℤ area.h) = omega (arith, ints, down.1) in
    record { left = omega (arith, ints, a, inside.left); right = omega (arith, ints, b, inside.right); top = omega (arith, ints, c, inside.top); bottom = omega (arith, ints, d, inside.bottom) }

pub corner : (p : Patch) (x y : ℕ) → p.left ≤ x → x < p.right → p.top ≤ y → y < p.bottom → has_place p x y ≡ true
corner p x y a b c d = ap₂ ◌&&◌ (lies_in p.left p.right x a b) (lies_in p.top p.bottom y c d)

-- a place lies before the right and the lower edge
pub before_right : (p : Patch) (x y : ℕ) → has_place p x y ≡ true → (x < p.right) × (y < p.bottom)
before_right p x y h =
    let both = and_parts (nat_le p.left x && nat_lt x p.right) (nat_le p.top y && nat_lt y p.bottom) h in
    (ltb-true x p.right (and_parts (nat_le p.left x) (nat_lt x p.right) both.0).1, ltb-true y p.bottom (and_parts (nat_le p.top y) (nat_lt y p.bottom) both.1).1)

some_sample : (op : Op) (color : Argb) (found : Option Argb) → IsSolid op color found → IsSome found
some_sample op color found solid = rw solid.is refl

one_fits : (r : Record) (hides : Bool) (area p : Patch) (left top w h : ℕ) → hides ≡ replaces (look_of r) → IsPaintable (look_of r) → IsInside r.object.value.rect r.area → IsObject r.object.value
    → LiesInArea left top w h r.area area → IsPartOf area p → Fits left top w h (command_of r hides p)
one_fits r hides area p left top w h is paintable inside limits lies part =
    let patch = part.patch in
    let first = part.places p.left p.top (omega (arith, patch.wide, patch.right)) (omega (arith, patch.tall, patch.bottom)) (corner p p.left p.top (omega arith) patch.wide (omega arith) patch.tall) in
    let last = part.places (p.right - 1) (p.bottom - 1) (omega (arith, patch.wide, patch.right)) (omega (arith, patch.tall, patch.bottom))
    (corner p (p.right - 1) (p.bottom - 1) (omega (arith, patch.wide)) (omega (arith, patch.wide)) (omega (arith, patch.tall)) (omega (arith, patch.tall))) in
    let end = before_right area (p.right - 1) (p.bottom - 1) last in
    let low = is_held r.object.value.rect r.area (left + p.left) (top + p.top) inside (lies.held p.left p.top first) in
    let high = is_held r.object.value.rect r.area (left + (p.right - 1)) (top + (p.bottom - 1)) inside (lies.held (p.right - 1) (p.bottom - 1) last) in
    let across : left + p.right ≡ left + (p.right - 1) + 1 = omega (arith, patch.wide) in
    let down : top + p.bottom ≡ top + (p.bottom - 1) + 1 = omega (arith, patch.tall) in
    record {
      patch = patch;
      right = omega (arith, end, lies.right);
      bottom = omega (arith, end, lies.bottom);
      column = omega (arith, patch.right, lies.column);
      row = omega (arith, patch.bottom, lies.row);
      from_left = low.left;
      to_right = rw across (omega (arith, ints, high.right));
      from_top = low.top;
      to_bottom = rw down (omega (arith, ints, high.bottom));
      limits = limits;
      full = λ replaced x y here.
          let within = before_right p x y here in
          let in_area = part.places x y (omega (arith, within, patch.right)) (omega (arith, within, patch.bottom)) here in
          let held = lies.held x y in_area in
          let opaque : holds (opaque_area (look_of r)) (pos (left + x)) (pos (top + y)) ≡ true = covers (look_of r) hides (left + x) (top + y) is ∙ ap₂ ◌&&◌ replaced held in
          some_sample r.object.value.op r.color (sample_at r.object.value (left + x) (top + y)) (paintable.solid (left + x) (top + y) opaque);
    }

all_fit : (r : Record) (hides : Bool) (area : Patch) (ps : List Patch) (left top w h : ℕ) → hides ≡ replaces (look_of r) → IsPaintable (look_of r) → IsInside r.object.value.rect r.area → IsObject r.object.value
    → LiesInArea left top w h r.area area → AllByRecursion (IsPartOf area) ps → AllByRecursion (Fits left top w h) (map (command_of r hides) ps)
all_fit r hides area [] left top w h is paintable inside limits lies parts = tt
all_fit r hides area (p ∷ ps) left top w h is paintable inside limits lies parts =
    (one_fits r hides area p left top w h is paintable inside limits lies parts.0, all_fit r hides area ps left top w h is paintable inside limits lies parts.1)

pub still_fit : (r : Record) (hides : Bool) (area : Patch) (bare : List ℕ) (old ps : List Patch) (commands new_commands : List Command) → hides ≡ replaces (look_of r) → AddsParts bare area old ps → old ≡ []
    → new_commands ≡ commands ++ map (command_of r hides) ps → StillFit r area commands new_commands
still_fit r hides area bare old ps commands new_commands is added none e = record {
  more = λ left top w h paintable inside limits lies all.
      subst (All (Fits left top w h)) (sym e)
      (All-append (Fits left top w h) commands (map (command_of r hides) ps) all
      (All-from_recursion (Fits left top w h) (map (command_of r hides) ps) (all_fit r hides area ps left top w h is paintable inside limits lies (parts_in bare area old ps added none))));
}

pub none_added : (r : Record) (area : Patch) (commands : List Command) → StillFit r area commands commands
none_added r area commands = record { more = λ left top w h paintable inside limits lies all. all }
