-- What is seen at an object when its way up was gone so far.
use Rattle.std.proofs.Common.{◌≡◌, ◌⊎◌, ◌↔◌, ℕ, zero, suc, ◌+◌, ◌<◌, ℤ, pos, ◌≤ℤ◌, int_lt, Bool, true, false, ◌&&◌, if◌then◌else◌, List, [], ◌∷◌, length, fold, Option, Some, None, refl, sym, ap, ap₂, ◌∙◌, subst, inl, inr, arith}
use Rattle.std.proofs.Math.Bool.{true≢false}
use Rattle.std.proofs.lemmas.Int.{ints}
use Rattle.std.specs.Prelude.{IsTrue}
use Rattle.std.specs.List.{list_all}
use Rattle.std.specs.Option.{option_and_then}
use Rattle.ev_argb.specs.Argb.{tint}
use Rattle.ev_geom.specs.Area.{Area, meet}
use Rattle.ev_model.specs.Chain.{chain, ends}
use Rattle.ev_model.specs.Look.{Look, has_pixels, look}
use Rattle.ev_model.specs.Stage.{Stage, canvas}
use Rattle.ev_model.specs.Up.{with_id, next, up, cut, is_smart, clips, clip, colour, is_drawn}
use Rattle.ev_model.specs.declared.object.Object.{Object}
use Rattle.ev_model.proofs.Chains.{chain_whole}
use Rattle.ev_model.proofs.Meets.{meet_sides}
use Rattle.ev_looks.specs.WaysUp.{over, way, Ends, lowered, IsOnWay, IsSight}
use Rattle.ev_looks.specs.declared.walk.Sight.{Sight}
use Rattle.ev_looks.proofs.Leaving.{chain_none}

ends_more : {A : Type 0} (n : ℕ) (next : A → Option A) (a : Option A) → ends n next a ≡ true → ends (suc n) next a ≡ true
ends_more zero next None h = refl
ends_more zero next (Some a) h = cc
ends_more (suc n) next None h = refl
ends_more (suc n) next (Some a) h = ends_more n next (next a) h

ends_next : {A : Type 0} (n : ℕ) (next : A → Option A) (a : A) → ends n next (Some a) ≡ true → ends n next (next a) ≡ true
ends_next zero next a h = cc
ends_next (suc n) next a h = ends_more n next (next a) h

chain_next : {A : Type 0} (n : ℕ) (next : A → Option A) (a : A) → ends n next (Some a) ≡ true → chain n next (Some a) ≡ a ∷ chain n next (next a)
chain_next zero next a h = cc
chain_next (suc n) next a h =
    let e : n + 1 ≡ suc n = omega arith in
    ap (λ more. a ∷ more) (sym (chain_whole n 1 next (next a) h) ∙ ap (λ m. chain m next (next a)) e)

-- one step up
module _ (objects : List Object) (at at' : Option ℕ) (id : ℕ) (u : Object) (is : at ≡ Some id) (there : with_id objects id ≡ Some u) (next_is : at' ≡ over u) (ends_at : Ends objects at) where
  found : option_and_then (with_id objects) at ≡ Some u
  found = ap (option_and_then (with_id objects)) is ∙ there

  ends_here : ends (length objects) (next objects) (Some u) ≡ true
  ends_here = sym (ap (ends (length objects) (next objects)) found) ∙ ends_at

  way_on : way objects at ≡ u ∷ way objects at'
  way_on =
      ap (chain (length objects) (next objects)) found ∙ chain_next (length objects) (next objects) u ends_here
      ∙ ap (λ at. u ∷ way objects at) (sym next_is)

  pub climb_ends : Ends objects at'
  climb_ends = subst (λ at. Ends objects at) (sym next_is) (ends_next (length objects) (next objects) u ends_here)

  pub climb_fewer : length (way objects at') < length (way objects at)
  climb_fewer = let e : length (way objects at) ≡ suc (length (way objects at')) = ap length way_on in omega (arith, e)

module _ (s : Stage) (o : Object) (at at' : Option ℕ) (id : ℕ) (u : Object) (is : at ≡ Some id) (there : with_id s.objects id ≡ Some u) (next_is : at' ≡ over u) (ends_at : Ends s.objects at)
    (sight : Sight) (on : IsOnWay s o at sight) where
  all_on : (p q r : Bool) → ((p && q) && r) ≡ (p && (q && r))
  all_on true q r = refl
  all_on false q r = refl

  pub climb_sight : (new : Sight) → new ≡ lowered sight u → IsOnWay s o at' new
  climb_sight new is_new = subst (λ sight. IsOnWay s o at' sight) (sym is_new) (record {
    area = sym (ap (fold cut sight.area) on_way) ∙ on.area;
    color = sym (ap (fold (λ color u. tint color u.color) sight.color) on_way) ∙ on.color;
    shown = all_on sight.shown u.shown (list_all (λ u. u.shown) (way s.objects at')) ∙ sym (ap (λ us. sight.shown && list_all (λ u. u.shown) us) on_way) ∙ on.shown;
  }) where
    on_way : way s.objects at ≡ u ∷ way s.objects at'
    on_way = way_on s.objects at at' id u is there next_is ends_at

-- the way begins
pub at_start : (s : Stage) (o : Object) (at : Option ℕ) (area : Area) → at ≡ over o → area ≡ cut (canvas s) o → IsOnWay s o at (record { area = area; color = o.color; shown = o.shown })
at_start s o at area over_is cut_is = subst (λ at. IsOnWay s o at (record { area = area; color = o.color; shown = o.shown })) (sym over_is)
    (subst (λ area. IsOnWay s o (over o) (record { area = area; color = o.color; shown = o.shown })) (sym cut_is) (record { area = refl; color = refl; shown = refl }))

-- the way is gone
pub at_end : (s : Stage) (o : Object) (at : Option ℕ) (sight : Sight) → IsOnWay s o at sight → option_and_then (with_id s.objects) at ≡ None → IsSight s o sight
at_end s o at sight on none = record {
  area = sym (ap (fold cut sight.area) gone) ∙ on.area;
  color = sym (ap (fold (λ color u. tint color u.color) sight.color) gone) ∙ on.color;
  shown = sym (whole sight.shown) ∙ sym (ap (λ us. sight.shown && list_all (λ u. u.shown) us) gone) ∙ on.shown;
} where
  gone : way s.objects at ≡ []
  gone = ap (chain (length s.objects) (next s.objects)) none ∙ chain_none (length s.objects) (next s.objects)

  whole : (p : Bool) → (p && true) ≡ p
  whole true = refl
  whole false = refl

-- no side is below 0
record IsFair (a : Area) : Type 0 where
  w : pos 0 ≤ℤ a.w
  h : pos 0 ≤ℤ a.h

cut_fair : (a : Area) (u : Object) → IsFair a → IsFair (cut a u)
cut_fair a u fair = go (is_smart u) where
  go : (b : Bool) → IsFair (if b then a else meet a u.rect)
  go true = fair
  go false = let sides = meet_sides a u.rect in record { w = sides.0; h = sides.1 }

all_fair : (us : List Object) (a : Area) → IsFair a → IsFair (fold cut a us)
all_fair [] a fair = fair
all_fair (u ∷ us) a fair = all_fair us (cut a u) (cut_fair a u fair)

clip_fair : (s : Stage) (o : Object) → IsFair (clip s o)
clip_fair s o = all_fair (up s.objects o) (canvas s) (record { w = omega (arith, ints); h = omega (arith, ints) })

positive : (n : ℤ) → pos 0 ≤ℤ n → (n ≡ pos 0 → ⊥) → int_lt (pos 0) n ≡ true
positive n low none = go (int_lt (pos 0) n) refl where
  go : (t : Bool) → int_lt (pos 0) n ≡ t → t ≡ true
  go true e = refl
  go false e = absurd (none (omega (arith, ints, low, e)))

-- what is seen of an object, by the sight of its whole way
module _ (s : Stage) (o : Object) (sight : Sight) (is : IsSight s o sight) (plain : is_smart o ≡ false) (clips_none : clips s o ≡ false) where
  drawn_is : is_drawn s o ≡ sight.shown
  drawn_is = rw (plain, clips_none) (sym is.shown)

  look_is : look s o ≡ (if sight.shown && has_pixels sight.area then Some (record { id = o.id; area = sight.area; color = sight.color; object = o }) else None)
  look_is =
      ap₂ (λ drawn area. if drawn && has_pixels area then Some (record { id = o.id; area = area; color = colour s o; object = o }) else None) drawn_is (sym is.area)
      ∙ ap (λ color. if sight.shown && has_pixels sight.area then Some (record { id = o.id; area = sight.area; color = color; object = o }) else None) (sym is.color)

  pub look_hidden : sight.shown ≡ false → None ≡ look s o
  look_hidden hidden = sym (look_is ∙ rw hidden refl)

  module _ (t : Bool) (empty : IsTrue t ↔ ((sight.area.w ≡ pos 0) ⊎ (sight.area.h ≡ pos 0))) where
    some_left : t ≡ false → has_pixels sight.area ≡ true
    some_left f =
        let fair : IsFair sight.area = subst (λ a. IsFair a) (sym is.area) (clip_fair s o) in
        let never : (sight.area.w ≡ pos 0) ⊎ (sight.area.h ≡ pos 0) → ⊥ = λ none. true≢false (sym (empty.1 none) ∙ f) in
        ap₂ ◌&&◌ (positive sight.area.w fair.w (λ z. never (inl z))) (positive sight.area.h fair.h (λ z. never (inr z)))

    none_left : t ≡ true → has_pixels sight.area ≡ false
    none_left f = go (empty.0 f) where
      false_by : (b : Bool) → (b && false) ≡ false
      false_by true = refl
      false_by false = refl

      go : (sight.area.w ≡ pos 0) ⊎ (sight.area.h ≡ pos 0) → has_pixels sight.area ≡ false
      go (inl z) = let w : int_lt (pos 0) sight.area.w ≡ false = grind (arith, ints) in ap (λ t. t && int_lt (pos 0) sight.area.h) w
      go (inr z) = let h : int_lt (pos 0) sight.area.h ≡ false = grind (arith, ints) in ap (λ t. int_lt (pos 0) sight.area.w && t) h ∙ false_by (int_lt (pos 0) sight.area.w)

    pub look_empty : t ≡ true → None ≡ look s o
    look_empty f = sym (look_is ∙ rw (none_left f) (never sight.shown _)) where
      never : (b : Bool) (l : Look) → (if b && false then Some l else None) ≡ None
      never true l = refl
      never false l = refl

    pub look_seen : sight.shown ≡ true → t ≡ false → Some (record { id = o.id; area = sight.area; color = sight.color; object = o }) ≡ look s o
    look_seen shown f = sym (look_is ∙ rw (shown, some_left f) refl)

-- a smart object and a clipper aren't seen
pub smart_unseen : (s : Stage) (o : Object) → is_smart o ≡ true → None ≡ look s o
smart_unseen s o smart = sym (rw smart refl)

pub clipper_unseen : (s : Stage) (o : Object) → is_smart o ≡ false → clips s o ≡ true → None ≡ look s o
clipper_unseen s o plain clipping = sym (rw (plain, clipping) refl)
