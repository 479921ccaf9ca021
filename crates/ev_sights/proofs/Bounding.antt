-- Records are as a redraw asks.
use Rattle.std.proofs.Common.{◌≡◌, pos, ◌<ℤ◌, Bool, true, false, ◌&&◌, not, int_lt, if◌then◌else◌, List, [], ◌∷◌, All, map, filter_map, Some, None, refl, sym, ap, ap₂, subst, arith}
use Rattle.std.proofs.lemmas.Bool.{and_parts}
use Rattle.std.proofs.lemmas.Int.{ints, clamps}
use Rattle.std.proofs.lemmas.List.Elements.{All-from_recursion, recursion_from_All}
use Rattle.std.specs.List.{fold, cons_option, AllByRecursion}
use Rattle.ev_geom.specs.Area.{Area, meet, common}
use Rattle.ev_geom.proofs.Meeting.{meet_of, none_meet_w, none_meet_h}
use Rattle.ev_model.specs.Capture.{IsInside, IsLookOn}
use Rattle.ev_model.specs.Limits.{IsObject}
use Rattle.ev_model.specs.Look.{look, looks, look_of, has_pixels}
use Rattle.ev_model.specs.Stage.{Stage, canvas}
use Rattle.ev_model.specs.Up.{cut, clip, clips, colour, over_it, is_shown, is_smart, is_drawn}
use Rattle.ev_model.specs.declared.object.Object.{Object}
use Rattle.ev_model.specs.declared.scene.Record.{Record}

not_true : (b : Bool) → not b ≡ true → b ≡ false
not_true true e = cc
not_true false e = refl

wide : (a : Area) → has_pixels a ≡ true → pos 0 <ℤ a.w
wide a some = let e = (and_parts (int_lt (pos 0) a.w) (int_lt (pos 0) a.h) some).0 in omega (arith, ints, e)

high : (a : Area) → has_pixels a ≡ true → pos 0 <ℤ a.h
high a some = let e = (and_parts (int_lt (pos 0) a.w) (int_lt (pos 0) a.h) some).1 in omega (arith, ints, e)

has_both : (a : Area) → pos 0 <ℤ a.w → pos 0 <ℤ a.h → has_pixels a ≡ true
has_both a w_some h_some =
    let w : int_lt (pos 0) a.w ≡ true = grind (arith, ints) in
    let h : int_lt (pos 0) a.h ≡ true = grind (arith, ints) in
    ap₂ ◌&&◌ w h

-- an area in which another one lies, and which has pixels
record Holds (outer area : Area) : Type 0 where
  inside : IsInside outer area
  some : has_pixels outer ≡ true

inside_itself : (a : Area) → IsInside a a
inside_itself a = record { left = omega (arith, ints); top = omega (arith, ints); right = omega (arith, ints); bottom = omega (arith, ints) }

inside_twice : (a b c : Area) → IsInside a b → IsInside b c → IsInside a c
inside_twice a b c one other = record {
  left = omega (arith, ints, one.left, other.left);
  top = omega (arith, ints, one.top, other.top);
  right = omega (arith, ints, one.right, other.right);
  bottom = omega (arith, ints, one.bottom, other.bottom);
}

-- what two rectangles have in common lies in both of them
meet_inside : (a b : Area) → has_pixels (meet a b) ≡ true → Holds a (meet a b) × IsInside b (meet a b)
meet_inside a b = go (int_lt (pos 0) (common a.x a.w b.x b.w)) (int_lt (pos 0) (common a.y a.h b.y b.h)) refl refl where
  go : (p q : Bool) → int_lt (pos 0) (common a.x a.w b.x b.w) ≡ p → int_lt (pos 0) (common a.y a.h b.y b.h) ≡ q → has_pixels (meet a b) ≡ true → Holds a (meet a b) × IsInside b (meet a b)
  go false q e f some = absurd (omega (arith, ints, wide (meet a b) some, ap (λ m. m.w) (none_meet_w a b e)))
  go true false e f some = absurd (omega (arith, ints, wide (meet a b) some, ap (λ m. m.w) (none_meet_h a b e f)))
  go true true e f some = subst (λ m. Holds a m × IsInside b m) (sym (meet_of a b e f)) (
    record {
      inside = record {
        left = omega (arith, ints, clamps);
        top = omega (arith, ints, clamps);
        right = omega (arith, ints, clamps, e);
        bottom = omega (arith, ints, clamps, f);
      };
      some = has_both a (omega (arith, ints, clamps, e)) (omega (arith, ints, clamps, f));
    },
    record {
      left = omega (arith, ints, clamps);
      top = omega (arith, ints, clamps);
      right = omega (arith, ints, clamps, e);
      bottom = omega (arith, ints, clamps, f);
    },
  )

cut_inside : (area : Area) (u : Object) → has_pixels (cut area u) ≡ true → Holds area (cut area u)
cut_inside area u = go (is_smart u) where
  go : (smart : Bool) → has_pixels (if smart then area else meet area u.rect) ≡ true → Holds area (if smart then area else meet area u.rect)
  go true some = record { inside = inside_itself area; some = some }
  go false some = (meet_inside area u.rect some).0

all_inside : (us : List Object) (area : Area) → has_pixels (fold cut area us) ≡ true → Holds area (fold cut area us)
all_inside [] area some = record { inside = inside_itself area; some = some }
all_inside (u ∷ us) area some =
    let rest = all_inside us (cut area u) some in
    let first = cut_inside area u rest.some in
    record { inside = inside_twice area (cut area u) (fold cut area (u ∷ us)) first.inside rest.inside; some = first.some }

-- what is seen of an object
look_on : (s : Stage) (o : Object) → IsObject o → (is_drawn s o && has_pixels (clip s o)) ≡ true → IsLookOn s.w s.h (record { id = o.id; area = clip s o; color = colour s o; object = o })
look_on s o limits seen =
    let parts = and_parts (is_drawn s o) (has_pixels (clip s o)) seen in
    let some = parts.1 in
    let plain : is_smart o ≡ false = not_true (is_smart o) (and_parts (not (is_smart o)) (not (clips s o)) (and_parts (not (is_smart o) && not (clips s o)) (is_shown s o) parts.0).0).0 in
    let first : cut (canvas s) o ≡ meet (canvas s) o.rect = rw plain refl in
    let rest : Holds (meet (canvas s) o.rect) (clip s o) = subst (λ area. Holds area (clip s o)) first (all_inside (over_it s.objects o) (cut (canvas s) o) some) in
    let both = meet_inside (canvas s) o.rect rest.some in
    record {
      wide = wide (clip s o) some;
      high = high (clip s o) some;
      canvas = inside_twice (canvas s) (meet (canvas s) o.rect) (clip s o) both.0.inside rest.inside;
      rect = inside_twice o.rect (meet (canvas s) o.rect) (clip s o) both.1 rest.inside;
      limits = limits;
    }

looks_on : (s : Stage) (objects : List Object) → AllByRecursion IsObject objects → AllByRecursion (IsLookOn s.w s.h) (filter_map (look s) objects)
looks_on s [] limits = tt
looks_on s (o ∷ objects) limits = go (is_drawn s o && has_pixels (clip s o)) refl (looks_on s objects limits.1) where
  go : (seen : Bool) → (is_drawn s o && has_pixels (clip s o)) ≡ seen → AllByRecursion (IsLookOn s.w s.h) (filter_map (look s) objects)
      → AllByRecursion (IsLookOn s.w s.h) (cons_option (if seen then Some (record { id = o.id; area = clip s o; color = colour s o; object = o }) else None) (filter_map (look s) objects))
  go true is rest = (look_on s o limits.0 is, rest)
  go false is rest = rest

unmapped : (s : Stage) (records : List Record) → AllByRecursion (IsLookOn s.w s.h) (map look_of records) → AllByRecursion (λ r. IsLookOn s.w s.h (look_of r)) records
unmapped s [] all = tt
unmapped s (r ∷ records) all = (all.0, unmapped s records all.1)

pub records_on : (s : Stage) (records : List Record) → All IsObject s.objects → map look_of records ≡ looks s → All (λ r. IsLookOn s.w s.h (look_of r)) records
records_on s records limits e =
    All-from_recursion (λ r. IsLookOn s.w s.h (look_of r)) records (unmapped s records
    (subst (λ ls. AllByRecursion (IsLookOn s.w s.h) ls) (sym e) (looks_on s s.objects (recursion_from_All IsObject s.objects limits))))
