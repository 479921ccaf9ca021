-- The way up of an object, and what its objects leave to those below.
use Rattle.std.proofs.Common.{◌≡◌, ◌⊎◌, ◌↔◌, ℕ, zero, suc, ◌+◌, ◌<◌, ◌≤◌, ℤ, pos, ◌≤ℤ◌, int_lt, Bool, true, false, ◌&&◌, nat_eq, All, if◌then◌else◌, List, [], ◌∷◌, ◌++◌, length, fold, get_or, drop, filter_map, append_assoc, Option, Some, None, refl, sym, ap, ap₂, ◌∙◌, subst, inl, inr, arith}
use Rattle.std.proofs.Math.Bool.{true≢false}
use Rattle.std.proofs.lemmas.Bool.{and_parts, and_right, eqb-true}
use Rattle.std.proofs.lemmas.Int.{ints}
use Rattle.std.specs.Prelude.{IsTrue}
use Rattle.std.specs.List.{list_all, cons_option}
use Rattle.std.proofs.lemmas.List.{drop_all, append-nil}
use Rattle.std.proofs.Math.Seq.{drop-cons}
use Rattle.std.specs.Option.{option_and_then, option_to_list}
use Rattle.std.specs.HashMap.{HashMap}
use Rattle.std.specs.HashMap as hash
use Rattle.std.proofs.lemmas.Option.{none-some, same_Some}
use Rattle.std.proofs.lemmas.List.Elements.{All-get_or}
use Rattle.std.proofs.lemmas.Bool.Decides.{eqb_tells}
use Rattle.ev_argb.specs.Argb.{Argb, tint, mul}
use Rattle.ev_geom.specs.Area.{Area, meet}
use Rattle.ev_state.specs.Held.{Held}
use Rattle.ev_model.specs.Chain.{chain, ends}
use Rattle.ev_model.specs.Stage.{Stage, values, canvas}
use Rattle.ev_model.specs.Up.{with_id, next, over_it, cut, is_smart, clips, clip, colour, is_drawn}
use Rattle.ev_model.specs.Look.{Look, has_pixels, look}
use Rattle.ev_model.proofs.Chains.{chain_whole}
use Rattle.ev_model.proofs.Meets.{meet_sides}
use Rattle.ev_model.specs.declared.object.Object.{Object}
use Rattle.ev_sights.specs.declared.sights.Sight.{Sight}
use Rattle.ev_sights.specs.Sights.{over, way, Ends, tinted, is_white, IsColor, TintsAs, IsSight, bare, lowered, AreSights, IsStep, Leads, IsClimbed}
use Rattle.ev_sights.proofs.Meeting.{cut_last}

chain_none : {A : Type 0} (n : ℕ) (next : A → Option A) → chain n next None ≡ []
chain_none zero next = refl
chain_none (suc n) next = refl

ends_none : {A : Type 0} (n : ℕ) (next : A → Option A) → ends n next None ≡ true
ends_none zero next = refl
ends_none (suc n) next = refl

ends_more : {A : Type 0} (n : ℕ) (next : A → Option A) (a : Option A) → ends n next a ≡ true → ends (suc n) next a ≡ true
ends_more zero next None h = refl
ends_more zero next (Some a) h = cc
ends_more (suc n) next None h = refl
ends_more (suc n) next (Some a) h = ends_more n next (next a) h

ends_next : {A : Type 0} (n : ℕ) (next : A → Option A) (a : A) → ends n next (Some a) ≡ true → ends n next (next a) ≡ true
ends_next zero next a h = cc
ends_next (suc n) next a h = ends_more n next (next a) h

chain_next : {A : Type 0} (n : ℕ) (next : A → Option A) (a : A) → ends n next (Some a) ≡ true → chain n next (Some a) ≡ a ∷ chain n next (next a)
chain_next zero next a h = cc
chain_next (suc n) next a h =
    let e : n + 1 ≡ suc n = omega arith in
    ap (λ more. a ∷ more) (sym (chain_whole n 1 next (next a) h) ∙ ap (λ m. chain m next (next a)) e)

-- where a way ends, so does what is over its first object
ends_over : (objects : List Object) (id : ℕ) (u : Object) → Ends objects (Some id) → with_id objects id ≡ Some u → Ends objects (over u)
ends_over objects id u h there = ends_next (length objects) (next objects) u (sym (ap (ends (length objects) (next objects)) there) ∙ h)

step_of : (objects : List Object) (id : ℕ) (u : Object) → Ends objects (Some id) → with_id objects id ≡ Some u → IsStep objects id u
step_of objects id u h there = record {
  there = there;
  ends = h;
  way = ap (chain (length objects) (next objects)) there ∙ chain_next (length objects) (next objects) u (sym (ap (ends (length objects) (next objects)) there) ∙ h);
}

-- one id more, and one less
leads_push : (objects : List Object) (first : Option ℕ) (ids : List ℕ) (id : ℕ) (u : Object) → Leads objects first ids (Some id) → IsStep objects id u → Leads objects first (ids ++ id ∷ []) (over u)
leads_push objects first [] id u is step = (is, (u, step, refl))
leads_push objects first (x ∷ ids) id u (is, (v, there, rest)) step = (is, (v, there, leads_push objects (over v) ids id u rest step))

record IsLast (objects : List Object) (first : Option ℕ) (ids : List ℕ) (id : ℕ) (at : Option ℕ) : Type 0 where
  pub u : Object
  pub step : IsStep objects id u
  pub leads : Leads objects first ids (Some id)
  pub over : over u ≡ at

leads_pop : (objects : List Object) (first : Option ℕ) (ids : List ℕ) (id : ℕ) (at : Option ℕ) → Leads objects first (ids ++ id ∷ []) at → IsLast objects first ids id at
leads_pop objects first [] id at (is, (u, step, rest)) = record { u = u; step = step; leads = is; over = rest }
leads_pop objects first (x ∷ ids) id at (is, (v, there, rest)) =
    let last : IsLast objects (over v) ids id at = leads_pop objects (over v) ids id at rest in
    record { u = last.u; step = last.step; leads = (is, (v, there, last.leads)); over = last.over }

-- a way without objects
no_way : (objects : List Object) (at : Option ℕ) → option_and_then (with_id objects) at ≡ None → way objects at ≡ []
no_way objects at none = ap (chain (length objects) (next objects)) none ∙ chain_none (length objects) (next objects)

tints_none : (objects : List Object) (at : Option ℕ) → way objects at ≡ [] → TintsAs objects at None
tints_none objects at none = record {
  ends = ends_none (length objects) (next objects);
  shorter = let e : length (way objects None) ≡ 0 = ap length (chain_none (length objects) (next objects)) in omega (arith, e);
  color = λ c is. ap (tinted c) (none ∙ sym (chain_none (length objects) (next objects)));
}

bare_sight : (s : Stage) (at : Option ℕ) → option_and_then (with_id s.objects) at ≡ None → IsSight s at (bare s)
bare_sight s at none =
    let empty : way s.objects at ≡ [] = no_way s.objects at none in
    record {
      area = sym (ap (fold cut (canvas s)) empty);
      shown = sym (ap (list_all (λ u. u.shown)) empty);
      tints = tints_none s.objects at empty;
    }

-- where nothing is over the last of the ids
pub climbed_bare : (s : Stage) (first : Option ℕ) (ids : List ℕ) (at : Option ℕ) (sight : Sight) → Leads s.objects first ids at → option_and_then (with_id s.objects) at ≡ None → sight ≡ bare s → IsClimbed s first ids sight
climbed_bare s first ids at sight leads none is =
    let P : Sight → Type 0 = λ sight. IsSight s at sight in
    record { at = at; leads = leads; known = subst P (sym is) (bare_sight s at none) }

-- a product by the whole
mul_whole : (x y : ℕ) → x < 256 → y ≡ 255 → mul x y ≡ x
mul_whole x y h e = ap (mul x) e ∙ whole where
  whole : mul x 255 ≡ x
  whole = omega (arith, h)

same_color : (c d : Argb) → c.a ≡ d.a → c.r ≡ d.r → c.g ≡ d.g → c.b ≡ d.b → c ≡ d
same_color c d a r g b =
    let make : ℕ → ℕ → ℕ → ℕ → Argb = λ a r g b. record { a = a; r = r; g = g; b = b } in
    ap₂ (λ a r. make a r c.g c.b) a r ∙ ap₂ (make d.a d.r) g b

-- white changes nothing
tint_white : (c w : Argb) → IsColor c → is_white w ≡ true → tint c w ≡ c
tint_white c w is h =
    let three = and_parts _ _ h in
    let two = and_parts _ _ three.0 in
    let one = and_parts _ _ two.0 in
    same_color (tint c w) c (mul_whole c.a w.a is.a (eqb-true _ _ one.0)) (mul_whole c.r w.r is.r (eqb-true _ _ one.1)) (mul_whole c.g w.g is.g (eqb-true _ _ two.1)) (mul_whole c.b w.b is.b (eqb-true _ _ three.1))

module _ (s : Stage) (id : ℕ) (u : Object) (sight : Sight) (step : IsStep s.objects id u) (is : IsSight s (over u) sight) where
  longer : length (way s.objects (Some id)) ≡ suc (length (way s.objects (over u)))
  longer = ap length step.way

  lowered_tints : TintsAs s.objects (Some id) (lowered sight id u).tinted
  lowered_tints = go (is_white u.color) refl where
    go : (b : Bool) → is_white u.color ≡ b → TintsAs s.objects (Some id) (if b then sight.tinted else Some id)
    go true white = record {
      ends = is.tints.ends;
      shorter = omega (arith, longer, is.tints.shorter);
      color = λ c bytes. ap (tinted c) step.way ∙ ap (λ c. tinted c (way s.objects (over u))) (tint_white c u.color bytes white) ∙ is.tints.color c bytes;
    }
    go false white = record { ends = step.ends; shorter = omega arith; color = λ c bytes. refl }

  -- the sight from one object further down
  lowered_sight : IsSight s (Some id) (lowered sight id u)
  lowered_sight = record {
    area = ap (λ area. cut area u) is.area ∙ sym (cut_last (way s.objects (over u)) (canvas s) u) ∙ sym (ap (fold cut (canvas s)) step.way);
    shown = ap (λ t. u.shown && t) is.shown ∙ sym (ap (list_all (λ u. u.shown)) step.way);
    tints = lowered_tints;
  }

-- one step down
module _ (s : Stage) (first : Option ℕ) (ids rest : List ℕ) (id : ℕ) (sight : Sight) (popped : ids ≡ rest ++ id ∷ []) (climbed : IsClimbed s first ids sight) where
  last : IsLast s.objects first rest id climbed.at
  last = let P : List ℕ → Type 0 = λ ids. Leads s.objects first ids climbed.at in leads_pop s.objects first rest id climbed.at (subst P popped climbed.leads)

  pub never_none : None ≡ with_id s.objects id → ⊥
  never_none none = none-some last.u (none ∙ last.step.there)

  module _ (u : Object) (new : Sight) (there : with_id s.objects id ≡ Some u) (is : new ≡ lowered sight id u) where
    pub down_sight : IsSight s (Some id) new
    down_sight =
        let same : last.u ≡ u = same_Some _ _ (sym last.step.there ∙ there) in
        let P : Object → Type 0 = λ u. IsStep s.objects id u in
        let Q : Object → Type 0 = λ u. over u ≡ climbed.at in
        let R : Option ℕ → Type 0 = λ at. IsSight s at sight in
        let T : Sight → Type 0 = λ sight. IsSight s (Some id) sight in
        subst T (sym is) (lowered_sight s id u sight (subst P same last.step) (subst R (sym (subst Q same last.over)) climbed.known))

    pub down_climbed : IsClimbed s first rest new
    down_climbed = record { at = Some id; leads = last.leads; known = down_sight }

-- one sight more
pub more_sights : {S : Type 0} (s : Stage) (known new : HashMap ℕ Sight S) (id : ℕ) (sight : Sight) → AreSights s known → IsSight s (Some id) sight → hash.Updates nat_eq known new id (Some sight) → AreSights s new
more_sights s known new id sight are is updates q found there =
    elim (eqb_tells id q) [
      | inl same ↦ (
          let e : sight ≡ found = same_Some _ _ (sym (updates.0 q ∙ rw same.0 refl) ∙ there) in
          let P : Sight → Type 0 = λ sight. IsSight s (Some id) sight in
          let Q : ℕ → Type 0 = λ id. IsSight s (Some id) found in
          subst Q same.1 (subst P e is))
      | inr differ ↦ are q found (sym (updates.0 q ∙ rw differ.0 refl) ∙ there)
    ]

-- one step up
module _ (objects : List Object) (at at' : Option ℕ) (id : ℕ) (u : Object) (is : at ≡ Some id) (there : with_id objects id ≡ Some u) (next_is : at' ≡ over u) (ends_at : Ends objects at) where
  at_id : Ends objects (Some id)
  at_id = let P : Option ℕ → Type 0 = λ at. Ends objects at in subst P is ends_at

  climb_step : IsStep objects id u
  climb_step = step_of objects id u at_id there

  pub climb_leads : (first : Option ℕ) (ids new : List ℕ) → Leads objects first ids at → new ≡ ids ++ id ∷ [] → Leads objects first new at'
  climb_leads first ids new leads pushed =
      let P : Option ℕ → Type 0 = λ at. Leads objects first ids at in
      let Q : Option ℕ → Type 0 = λ at. Leads objects first (ids ++ id ∷ []) at in
      let R : List ℕ → Type 0 = λ ids. Leads objects first ids at' in
      subst R (sym pushed) (subst Q (sym next_is) (leads_push objects first ids id u (subst P is leads) climb_step))

  pub climb_ends : Ends objects at'
  climb_ends = let P : Option ℕ → Type 0 = λ at. Ends objects at in subst P (sym next_is) (ends_over objects id u at_id there)

  longer_by_one : length (way objects at) ≡ suc (length (way objects at'))
  longer_by_one = ap (λ at. length (way objects at)) is ∙ ap length climb_step.way ∙ ap (λ at. suc (length (way objects at))) (sym next_is)

  pub climb_fewer : length (way objects at') < length (way objects at)
  climb_fewer = let e = longer_by_one in omega (arith, e)

  module _ (later : Option ℕ) (tints : TintsAs objects at' later) where
    pub fewer_from : length (way objects later) < length (way objects at)
    fewer_from = let e = longer_by_one in omega (arith, e, tints.shorter)

    pub tinted_from : (color new all : Argb) → new ≡ tint color u.color → IsColor new → tinted color (way objects at) ≡ all → tinted new (way objects later) ≡ all
    tinted_from color new all by bytes so_far =
        sym (tints.color new bytes) ∙ ap₂ (λ new at. tinted new (way objects at)) by next_is ∙ sym (ap (tinted color) (ap (way objects) is ∙ climb_step.way)) ∙ so_far

pub climb_known : (s : Stage) (first : Option ℕ) (ids : List ℕ) (at : Option ℕ) (id : ℕ) (sight : Sight) → at ≡ Some id → Leads s.objects first ids at → IsSight s (Some id) sight → IsClimbed s first ids sight
climb_known s first ids at id sight is leads known = let P : Option ℕ → Type 0 = λ at. Leads s.objects first ids at in record { at = Some id; leads = subst P is leads; known = known }

positive : (n : ℤ) → pos 0 ≤ℤ n → (n ≡ pos 0 → ⊥) → int_lt (pos 0) n ≡ true
positive n low none = go (int_lt (pos 0) n) refl where
  go : (t : Bool) → int_lt (pos 0) n ≡ t → t ≡ true
  go true e = refl
  go false e = absurd (none (omega (arith, ints, low, e)))

-- what two rectangles have in common has pixels where it isn't empty, and else none
pub some_left : (a b m : Area) (t : Bool) → m ≡ meet a b → (IsTrue t ↔ ((m.w ≡ pos 0) ⊎ (m.h ≡ pos 0))) → t ≡ false → has_pixels m ≡ true
some_left a b m t e is f =
    let sides = subst (λ m. (pos 0 ≤ℤ m.w) × (pos 0 ≤ℤ m.h)) (sym e) (meet_sides a b) in
    let never : (m.w ≡ pos 0) ⊎ (m.h ≡ pos 0) → ⊥ = λ none. true≢false (sym (is.1 none) ∙ f) in
    ap₂ ◌&&◌ (positive m.w sides.0 (λ z. never (inl z))) (positive m.h sides.1 (λ z. never (inr z)))

pub none_left : (a b m : Area) (t : Bool) → m ≡ meet a b → (IsTrue t ↔ ((m.w ≡ pos 0) ⊎ (m.h ≡ pos 0))) → t ≡ true → has_pixels m ≡ false
none_left a b m t e is f = go (is.0 f) where
  go : (m.w ≡ pos 0) ⊎ (m.h ≡ pos 0) → has_pixels m ≡ false
  go (inl z) = let w : int_lt (pos 0) m.w ≡ false = grind (arith, ints) in ap (λ t. t && int_lt (pos 0) m.h) w
  go (inr z) = let h : int_lt (pos 0) m.h ≡ false = grind (arith, ints) in ap (λ t. int_lt (pos 0) m.w && t) h ∙ and_right (int_lt (pos 0) m.w) false refl

-- what is seen of an object that is not smart and clips nobody, by the sight from what is over it on
module _ (s : Stage) (o : Object) (at : Option ℕ) (sight : Sight) (area : Area) (plain : is_smart o ≡ false) (clips_none : clips s o ≡ false) (over_is : at ≡ over o) (is_at : IsSight s at sight) (meets : area ≡ meet sight.area o.rect) where
  is : IsSight s (over o) sight
  is = let P : Option ℕ → Type 0 = λ at. IsSight s at sight in subst P over_is is_at

  clip_is : clip s o ≡ area
  clip_is = cut_last (over_it s.objects o) (canvas s) o ∙ ap (λ area. cut area o) (sym is.area) ∙ rw plain (sym meets)

  drawn_is : is_drawn s o ≡ (o.shown && sight.shown)
  drawn_is = rw (plain, clips_none) (ap (λ t. o.shown && t) (sym is.shown))

  look_is : look s o ≡ (if (o.shown && sight.shown) && has_pixels area then Some (record { id = o.id; area = area; color = colour s o; object = o }) else None)
  look_is =
      let f : Bool → Area → Option Look = λ drawn area. if drawn && has_pixels area then Some (record { id = o.id; area = area; color = colour s o; object = o }) else None in
      ap₂ f drawn_is clip_is

  pub look_seen : (color : Argb) → o.shown ≡ true → sight.shown ≡ true → has_pixels area ≡ true → IsColor o.color → color ≡ tinted o.color (way s.objects sight.tinted) → Some (record { id = o.id; area = area; color = color; object = o }) ≡ look s o
  look_seen color own others some bytes tints =
      let all : color ≡ colour s o = tints ∙ sym (is.tints.color o.color bytes) in
      let g : Argb → Option Look = λ color. Some (record { id = o.id; area = area; color = color; object = o }) in
      ap g all ∙ sym (look_is ∙ rw (own, others, some) refl)

  pub unseen_hidden : o.shown ≡ false → None ≡ look s o
  unseen_hidden own = sym (look_is ∙ rw own refl)

  pub unseen_over : o.shown ≡ true → sight.shown ≡ false → None ≡ look s o
  unseen_over own others = sym (look_is ∙ rw (own, others) refl)

  pub unseen_empty : o.shown ≡ true → sight.shown ≡ true → has_pixels area ≡ false → None ≡ look s o
  unseen_empty own others none = sym (look_is ∙ rw (own, others, none) refl)

-- of the items, what is of all values
of_items : (P : Object → Type 0) (items : List (Held Object)) → All P (values items) → All (λ s. P s.value) items
of_items P [] all = λ k d h. absurd (omega (arith, h))
of_items P (s ∷ items) all = first (all 0 s.value (omega arith)) (of_items P items (λ k d h. all (suc k) d (omega (arith, h)))) where
  first : P s.value → All (λ s. P s.value) items → All (λ s. P s.value) (s ∷ items)
  first one rest zero d h = one
  first one rest (suc k) d h = rest k d (omega (arith, h))

pub of_item : (P : Object → Type 0) (objects items : List (Held Object)) (i : ℕ) (item : Held Object) → items ≡ objects → i < length items → item ≡ get_or items i item → All P (values objects) → P item.value
of_item P objects items i item same h is all =
    let Q : Held Object → Type 0 = λ s. P s.value in
    let R : List (Held Object) → Type 0 = λ items. All Q items in
    subst Q (sym is) (All-get_or Q items i item h (subst R (sym same) (of_items P objects all)))

-- one more of what is there
one_more : {A : Type 0} (so_far now rest all : List A) (x : Option A) → now ≡ so_far ++ option_to_list x → so_far ++ cons_option x rest ≡ all → now ++ rest ≡ all
one_more so_far now rest all None e f = ap (λ xs. xs ++ rest) e ∙ append_assoc so_far [] rest ∙ f
one_more so_far now rest all (Some x) e f = ap (λ xs. xs ++ rest) e ∙ append_assoc so_far (x ∷ []) rest ∙ f

-- what is seen of one more object of a list
pub one_more_seen : {B : Type 0} (see : Object → Option B) (items : List (Held Object)) (i : ℕ) (item : Held Object) (so_far now all : List B) → i < length items → item ≡ get_or items i item
    → now ≡ so_far ++ option_to_list (see item.value) → so_far ++ filter_map see (values (drop i items)) ≡ all → now ++ filter_map see (values (drop (i + 1) items)) ≡ all
one_more_seen see items i item so_far now all h is e f =
    let next : drop i items ≡ item ∷ drop (suc i) items = drop-cons items i item h ∙ ap (λ x. x ∷ drop (suc i) items) (sym is) in
    let k : i + 1 ≡ suc i = omega arith in
    one_more so_far now (filter_map see (values (drop (i + 1) items))) all (see item.value) e
    (ap (λ k. so_far ++ cons_option (see item.value) (filter_map see (values (drop k items)))) k ∙ sym (ap (λ rest. so_far ++ filter_map see (values rest)) next) ∙ f)

-- all objects of the list were seen
pub all_seen : {B : Type 0} (see : Object → Option B) (items objects : List (Held Object)) (i : ℕ) (so_far : List B) → length items ≤ i → items ≡ objects → so_far ++ filter_map see (values (drop i items)) ≡ filter_map see (values items)
    → so_far ≡ filter_map see (values objects)
all_seen see items objects i so_far past same e =
    sym (append-nil so_far) ∙ ap (λ rest. so_far ++ filter_map see (values rest)) (sym (drop_all i items past)) ∙ e ∙ ap (λ items. filter_map see (values items)) same
