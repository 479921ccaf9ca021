-- What is seen of an object has its id and lies on the canvas.
use Rattle.std.proofs.Common.{◌≡◌, ◌≤◌, pos, ◌<ℤ◌, Bool, true, false, ◌&&◌, int_lt, if◌then◌else◌, List, [], ◌∷◌, Some, None, refl, sym, ap, ap₂, subst, arith}
use Rattle.std.proofs.lemmas.Bool.{and_parts}
use Rattle.std.proofs.lemmas.Int.{ints, clamps}
use Rattle.std.proofs.lemmas.Option.{none-some, same_Some}
use Rattle.std.specs.List.{fold}
use Rattle.ev_geom.specs.Area.{Area, meet, common}
use Rattle.ev_geom.proofs.Meeting.{meet_of, none_meet_w, none_meet_h}
use Rattle.ev_model.specs.Capture.{IsInside}
use Rattle.ev_model.specs.Look.{Look, look, has_pixels}
use Rattle.ev_model.specs.Stage.{Stage, canvas, canvas_on}
use Rattle.ev_model.specs.Up.{cut, clip, colour, up, is_smart, is_drawn}
use Rattle.ev_model.specs.declared.object.Object.{Object}
use Rattle.ev_records.specs.Showing.{IsOnCanvas}

wide : (a : Area) → has_pixels a ≡ true → pos 0 <ℤ a.w
wide a some = let e = (and_parts (int_lt (pos 0) a.w) (int_lt (pos 0) a.h) some).0 in omega (arith, ints, e)

high : (a : Area) → has_pixels a ≡ true → pos 0 <ℤ a.h
high a some = let e = (and_parts (int_lt (pos 0) a.w) (int_lt (pos 0) a.h) some).1 in omega (arith, ints, e)

has_both : (a : Area) → pos 0 <ℤ a.w → pos 0 <ℤ a.h → has_pixels a ≡ true
has_both a w_some h_some =
    let w : int_lt (pos 0) a.w ≡ true = grind (arith, ints) in
    let h : int_lt (pos 0) a.h ≡ true = grind (arith, ints) in
    ap₂ ◌&&◌ w h

-- an area in which another one lies, and which has pixels
record Holds (outer area : Area) : Type 0 where
  inside : IsInside outer area
  some : has_pixels outer ≡ true

inside_itself : (a : Area) → IsInside a a
inside_itself a = record { left = omega (arith, ints); top = omega (arith, ints); right = omega (arith, ints); bottom = omega (arith, ints) }

inside_twice : (a b c : Area) → IsInside a b → IsInside b c → IsInside a c
inside_twice a b c one other = record {
  left = omega (arith, ints, one.left, other.left);
  top = omega (arith, ints, one.top, other.top);
  right = omega (arith, ints, one.right, other.right);
  bottom = omega (arith, ints, one.bottom, other.bottom);
}

-- what two rectangles have in common lies in the first of them
meet_inside : (a b : Area) → has_pixels (meet a b) ≡ true → Holds a (meet a b)
meet_inside a b = go (int_lt (pos 0) (common a.x a.w b.x b.w)) (int_lt (pos 0) (common a.y a.h b.y b.h)) refl refl where
  go : (p q : Bool) → int_lt (pos 0) (common a.x a.w b.x b.w) ≡ p → int_lt (pos 0) (common a.y a.h b.y b.h) ≡ q → has_pixels (meet a b) ≡ true → Holds a (meet a b)
  go false q e f some = absurd (omega (arith, ints, wide (meet a b) some, ap (λ m. m.w) (none_meet_w a b e)))
  go true false e f some = absurd (omega (arith, ints, wide (meet a b) some, ap (λ m. m.w) (none_meet_h a b e f)))
  go true true e f some = subst (λ m. Holds a m) (sym (meet_of a b e f)) (record {
    inside = record {
      left = omega (arith, ints, clamps);
      top = omega (arith, ints, clamps);
      right = omega (arith, ints, clamps, e);
      bottom = omega (arith, ints, clamps, f);
    };
    some = has_both a (omega (arith, ints, clamps, e)) (omega (arith, ints, clamps, f));
  })

cut_inside : (area : Area) (u : Object) → has_pixels (cut area u) ≡ true → Holds area (cut area u)
cut_inside area u = go (is_smart u) where
  go : (smart : Bool) → has_pixels (if smart then area else meet area u.rect) ≡ true → Holds area (if smart then area else meet area u.rect)
  go true some = record { inside = inside_itself area; some = some }
  go false some = meet_inside area u.rect some

all_inside : (us : List Object) (area : Area) → has_pixels (fold cut area us) ≡ true → Holds area (fold cut area us)
all_inside [] area some = record { inside = inside_itself area; some = some }
all_inside (u ∷ us) area some =
    let rest = all_inside us (cut area u) some in
    let first = cut_inside area u rest.some in
    record { inside = inside_twice area (cut area u) (fold cut area (u ∷ us)) first.inside rest.inside; some = first.some }

-- a look has the id of its object, and lies on the greatest canvas
pub record IsLookOf (o : Object) (l : Look) : Type 0 where
  pub id : l.id ≡ o.id
  pub inside : IsOnCanvas l.area

abbrev one_look : Stage → Object → Look
one_look s o = record { id = o.id; area = clip s o; color = colour s o; object = o }

pub look_of_it : (s : Stage) → s.w ≤ 4096 → s.h ≤ 4096 → (o : Object) (l : Look) → look s o ≡ Some l → IsLookOf o l
look_of_it s width height o l is = go (is_drawn s o && has_pixels (clip s o)) refl is where
  larger : IsInside (canvas_on 4096 4096) (canvas s)
  larger = record { left = omega (arith, ints); top = omega (arith, ints); right = omega (arith, ints, width); bottom = omega (arith, ints, height) }

  go : (b : Bool) → (is_drawn s o && has_pixels (clip s o)) ≡ b → (if b then Some (one_look s o) else None) ≡ Some l → IsLookOf o l
  go false seen is = absurd (none-some l is)
  go true seen is =
      let some = (and_parts (is_drawn s o) (has_pixels (clip s o)) seen).1 in
      let inside = inside_twice (canvas_on 4096 4096) (canvas s) (clip s o) larger (all_inside (up s.objects o) (canvas s) some).inside in
      subst (λ l. IsLookOf o l) (same_Some (one_look s o) l is) (record { id = refl; inside = inside })
