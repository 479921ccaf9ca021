-- In the order of painting the members of each object stand in their own order.
use Rattle.std.proofs.Common.{◌≡◌, ◌≢◌, ℕ, zero, suc, ◌+◌, ◌-◌, ◌<◌, Bool, true, false, ◌==◌, List, [], ◌∷◌, ◌++◌, length, filter, flat_map, Option, Some, None, inl, inr, refl, sym, subst, ap, ap₂, ◌∙◌, arith}
use Rattle.std.proofs.lemmas.Bool.Decides.{eqb_tells}
use Rattle.std.proofs.lemmas.List.{append-nil}
use Rattle.std.proofs.lemmas.List.Elements.{filter-append}
use Rattle.std.proofs.lemmas.Option.{none-some, same_Some}
use Rattle.std.proofs.Math.Bool.{true≢false}
use Rattle.std.specs.Option.{option_eq}
use Rattle.ev_model.specs.Order.{in_order}
use Rattle.ev_links.specs.Ties.{Has, IsDistinct, IsWay}
use Rattle.ev_links.proofs.Ways.{no_return, one_way}
use Rattle.ev_scene.proofs.Nesting as nest

nothing_in : (xs : List ℕ) → ((x : ℕ) → ¬ Has x xs) → xs ≡ []
nothing_in [] none = refl
nothing_in (x ∷ xs) none = absurd (none x (inl refl))

same_over : (a b : Option ℕ) → a ≡ b → option_eq ◌==◌ a b ≡ true
same_over None b e = ap (option_eq ◌==◌ None) (sym e)
same_over (Some a) None e = absurd (none-some a (sym e))
same_over (Some a) (Some b) e = elim (eqb_tells a b) [ inl same ↦ same.0 | inr differ ↦ absurd (differ.1 (same_Some a b e)) ]

other_over : (a b : Option ℕ) → a ≢ b → option_eq ◌==◌ a b ≡ false
other_over None None away = absurd (away refl)
other_over None (Some b) away = refl
other_over (Some a) None away = refl
other_over (Some a) (Some b) away = elim (eqb_tells a b) [ inl same ↦ absurd (away (ap Some same.1)) | inr differ ↦ differ.0 ]

pub is_over : (a b : Option ℕ) → option_eq ◌==◌ a b ≡ true → a ≡ b
is_over None None e = refl
is_over None (Some b) e = absurd (true≢false (sym e))
is_over (Some a) None e = absurd (true≢false (sym e))
is_over (Some a) (Some b) e = elim (eqb_tells a b) [ inl same ↦ ap Some same.1 | inr differ ↦ absurd (true≢false (sym e ∙ differ.0)) ]

-- Siblings are those that lead to the same id, or nowhere. All ways end, and no sibling stands twice.
module _ (siblings : Option ℕ → List ℕ) (over : ℕ → Option ℕ) (is_there : ℕ → Bool)
    (known : (q to : ℕ) → over q ≡ Some to → is_there to ≡ true)
    (stands : (x : ℕ) → is_there x ≡ true → Has x (siblings (over x)))
    (members : (x : ℕ) (parent : Option ℕ) → nest.IsParent is_there parent → Has x (siblings parent) → (over x ≡ parent) × (is_there x ≡ true))
    (along : (x : ℕ) → (way : List ℕ) × IsWay over x way)
    (once : (parent : Option ℕ) → IsDistinct (siblings parent)) where
  -- those of some ids that lead to a parent
  abbrev pub picked : Option ℕ → List ℕ → List ℕ
  picked parent ids = filter (λ x. option_eq ◌==◌ (over x) parent) ids

  abbrev after : ℕ → ℕ → List ℕ
  after n id = id ∷ in_order n siblings (Some id)

  pub none_picked : (parent : Option ℕ) (ids : List ℕ) → ((y : ℕ) → Has y ids → over y ≢ parent) → picked parent ids ≡ []
  none_picked parent [] none = refl
  none_picked parent (y ∷ ids) none = rw (other_over (over y) parent (none y (inl refl))) (none_picked parent ids (λ z h. none z (inr h)))

  picked_append : (parent : Option ℕ) (xs ys : List ℕ) → picked parent (xs ++ ys) ≡ picked parent xs ++ picked parent ys
  picked_append parent xs ys = filter-append (λ x. option_eq ◌==◌ (over x) parent) xs ys

  leads_on : (x q : ℕ) → over x ≡ Some q → (along x).0 ≡ q ∷ (along q).0
  leads_on x q e = one_way over x (along x).0 (q ∷ (along q).0) (along x).1 (e, (along q).1)

  parent_there : (x : ℕ) (parent : Option ℕ) → over x ≡ parent → nest.IsParent is_there parent
  parent_there x None e = tt
  parent_there x (Some q) e = known x q e

  -- what is listed below an id passes it
  passes : (n y at : ℕ) → is_there at ≡ true → Has y (in_order n siblings (Some at)) → Has at (along y).0
  passes n y at there h = nest.on_the_way siblings over is_there known stands members n y at (along y).0 there (along y).1 h

  -- below a sibling stands no sibling
  none_below : (n at : ℕ) (parent : Option ℕ) → is_there at ≡ true → over at ≡ parent → picked parent (in_order n siblings (Some at)) ≡ []
  none_below n at parent there e = none_picked parent (in_order n siblings (Some at)) (λ y h same.
      let on : Has at (along y).0 = passes n y at there h in
      let is : y ≡ at = nest.alone over y y at (along y).0 (along y).1 (same ∙ sym e) (inl refl) (inr on) in
      no_return over y (along y).0 (along y).1 (subst (λ q. Has q (along y).0) (sym is) on))

  -- siblings with all below them
  own_block : (n : ℕ) (parent : Option ℕ) (ys : List ℕ) → ((y : ℕ) → Has y ys → (over y ≡ parent) × (is_there y ≡ true)) → picked parent (flat_map (after n) ys) ≡ ys
  own_block n parent [] own = refl
  own_block n parent (y ∷ ys) own =
      let its = own y (inl refl) in
      rw (same_over (over y) parent its.0)
      (ap (λ rest. y ∷ rest)
      (picked_append parent (in_order n siblings (Some y)) (flat_map (after n) ys)
      ∙ ap₂ ◌++◌ (none_below n y parent its.1 its.0) (own_block n parent ys (λ z h. own z (inr h)))))

  -- below an id that q does not pass, nothing leads to q
  away : (n q at : ℕ) → is_there at ≡ true → ¬ Has at (q ∷ (along q).0) → picked (Some q) (in_order n siblings (Some at)) ≡ []
  away n q at there off = none_picked (Some q) (in_order n siblings (Some at)) (λ y h e. off (subst (Has at) (leads_on y q e) (passes n y at there h)))

  module _ (n q : ℕ) where
    abbrev block : ℕ → List ℕ
    block y = picked (Some q) (in_order n siblings (Some y))

    nothing_there : (ys : List ℕ) → ((y : ℕ) → Has y ys → over y ≢ Some q) → ((y : ℕ) → Has y ys → block y ≡ []) → picked (Some q) (flat_map (after n) ys) ≡ []
    nothing_there [] other none = refl
    nothing_there (y ∷ ys) other none =
        rw (other_over (over y) (Some q) (other y (inl refl)))
        (picked_append (Some q) (in_order n siblings (Some y)) (flat_map (after n) ys)
        ∙ ap₂ ◌++◌ (none y (inl refl)) (nothing_there ys (λ z h. other z (inr h)) (λ z h. none z (inr h))))

    -- where only one of some ids has members of q below it
    only_one : (at : ℕ) (ys : List ℕ) → IsDistinct ys → Has at ys → ((y : ℕ) → Has y ys → over y ≢ Some q) → ((y : ℕ) → Has y ys → y ≢ at → block y ≡ []) → picked (Some q) (flat_map (after n) ys) ≡ block at
    only_one at [] d h other none = absurd h
    only_one at (y ∷ ys) d h other none =
        rw (other_over (over y) (Some q) (other y (inl refl)))
        (picked_append (Some q) (in_order n siblings (Some y)) (flat_map (after n) ys)
        ∙ elim h [
          | inl here ↦
              ap (λ rest. block y ++ rest) (nothing_there ys (λ z h. other z (inr h)) (λ z k. none z (inr k) (λ is. d.0 (subst (λ n. Has n ys) (is ∙ sym here) k))))
              ∙ append-nil (block y) ∙ ap block here
          | inr later ↦
              ap (λ first. first ++ picked (Some q) (flat_map (after n) ys)) (none y (inl refl) (λ is. d.0 (subst (λ n. Has n ys) (sym is) later)))
              ∙ only_one at ys d.1 later (λ z h. other z (inr h)) (λ z h. none z (inr h))
        ])

  -- what leads on from an id that q passes, q passes as well
  passed_on : (q at w : ℕ) → Has at (q ∷ (along q).0) → over at ≡ Some w → Has w (along q).0
  passed_on q at w on e =
      elim on [
        | inl here ↦ nest.starts over q w (along q).0 (along q).1 (ap over here ∙ e)
        | inr later ↦ nest.leads_along over q at w (along q).0 (along q).1 later e
      ]

  -- one level further out
  outward : (n q at : ℕ) → is_there at ≡ true → Has at (q ∷ (along q).0) → picked (Some q) (in_order (suc n) siblings (over at)) ≡ picked (Some q) (in_order n siblings (Some at))
  outward n q at there on =
      only_one n q at (siblings (over at)) (once (over at)) (stands at there)
      (λ y h e. no_return over q (along q).0 (along q).1 (passed_on q at q on (sym (beside y h).0 ∙ e)))
      (λ y h other. away n q y (beside y h).1 (λ k. other (nest.alone over q y at (along q).0 (along q).1 (beside y h).0 k on)))
    where
      beside : (y : ℕ) → Has y (siblings (over at)) → (over y ≡ over at) × (is_there y ≡ true)
      beside y h = members y (over at) (parent_there at (over at) refl) h

  climb : (q m n at : ℕ) (way all : List ℕ) → is_there at ≡ true → Has at (q ∷ (along q).0) → IsWay over at way → n ≡ suc m + length way → picked (Some q) (in_order m siblings (Some at)) ≡ all
      → picked (Some q) (in_order n siblings None) ≡ all
  climb q m n at [] all there on p e is =
      let size : n ≡ suc m = omega (arith, e) in
      ap (λ n. picked (Some q) (in_order n siblings None)) size ∙ subst (λ parent. picked (Some q) (in_order (suc m) siblings parent) ≡ all) p (outward m q at there on ∙ is)
  climb q m n at (w ∷ way) all there on p e is =
      let size : n ≡ suc (suc m) + length way = omega (arith, e) in
      climb q (suc m) n w way all (known at w p.0) (inr (passed_on q at w on p.0)) p.1 size
      (subst (λ parent. picked (Some q) (in_order (suc m) siblings parent) ≡ all) p.0 (outward m q at there on ∙ is))

  -- where the order has more levels than any way is long, those that lead to a parent stand in it as they stand among themselves
  module _ (n : ℕ) (few : (x : ℕ) → is_there x ≡ true → length (along x).0 < n) where
    own_order : (q : ℕ) → is_there q ≡ true → (m : ℕ) → n ≡ suc m + length (along q).0 → picked (Some q) (in_order m siblings (Some q)) ≡ siblings (Some q)
    own_order q there zero e = sym (nothing_in (siblings (Some q)) (λ y h.
        let its = members y (Some q) there h in
        let long : length (along y).0 ≡ suc (length (along q).0) = ap length (leads_on y q its.0) in
        let less : length (along y).0 < n = few y its.1 in
        omega (arith, e, long, less)))
    own_order q there (suc m) e = own_block m (Some q) (siblings (Some q)) (λ y h. members y (Some q) there h)

    pub members_in_order : (parent : Option ℕ) → nest.IsParent is_there parent → picked parent (in_order n siblings None) ≡ siblings parent
    members_in_order None there = go n refl where
      go : (m : ℕ) → m ≡ n → picked None (in_order m siblings None) ≡ siblings None
      go zero e = sym (nothing_in (siblings None) (λ y h. let less : length (along y).0 < n = few y (members y None tt h).1 in omega (arith, e, less)))
      go (suc m) e = own_block m None (siblings None) (λ y h. members y None tt h)
    members_in_order (Some q) there =
        let less : length (along q).0 < n = few q there in
        let size : n ≡ suc (n - suc (length (along q).0)) + length (along q).0 = omega (arith, less) in
        climb q (n - suc (length (along q).0)) n q (along q).0 (siblings (Some q)) there (inl refl) (along q).1 size (own_order q there (n - suc (length (along q).0)) size)

  -- other lists that are the same for all that is there, and other numbers of levels, give the same order
  module _ (others : Option ℕ → List ℕ) (same : (parent : Option ℕ) → nest.IsParent is_there parent → others parent ≡ siblings parent) where
    flat_same : (f g : ℕ → List ℕ) (ys : List ℕ) → ((y : ℕ) → Has y ys → f y ≡ g y) → flat_map f ys ≡ flat_map g ys
    flat_same f g [] each = refl
    flat_same f g (y ∷ ys) each = ap₂ ◌++◌ (each y (inl refl)) (flat_same f g ys (λ z h. each z (inr h)))

    -- as many ids as this stand on the way of each one that leads to the parent
    abbrev IsDeep : ℕ → Option ℕ → Type 0
    IsDeep depth parent = (x : ℕ) → over x ≡ parent → length (along x).0 ≡ depth

    none_deeper : (depth : ℕ) (parent : Option ℕ) → nest.IsParent is_there parent → IsDeep depth parent → ((x : ℕ) → is_there x ≡ true → length (along x).0 < depth) → siblings parent ≡ []
    none_deeper depth parent there deep few = nothing_in (siblings parent) (λ y h.
        let its = members y parent there h in
        let long : length (along y).0 ≡ depth = deep y its.0 in
        let low : length (along y).0 < depth = few y its.1 in
        omega (arith, long, low))

    levels : (n m depth : ℕ) (parent : Option ℕ) → nest.IsParent is_there parent → IsDeep depth parent → ((x : ℕ) → is_there x ≡ true → length (along x).0 < n + depth) → ((x : ℕ) → is_there x ≡ true → length (along x).0 < m + depth)
        → in_order n others parent ≡ in_order m siblings parent
    levels zero zero depth parent there deep few less = refl
    levels zero (suc m) depth parent there deep few less = sym (ap (flat_map (after m)) (none_deeper depth parent there deep (λ x is. let low = few x is in omega (arith, low))))
    levels (suc n) zero depth parent there deep few less = ap (flat_map (λ id. id ∷ in_order n others (Some id))) (same parent there ∙ none_deeper depth parent there deep (λ x is. let low = less x is in omega (arith, low)))
    levels (suc n) (suc m) depth parent there deep few less =
        ap (flat_map (λ id. id ∷ in_order n others (Some id))) (same parent there)
        ∙ flat_same (λ id. id ∷ in_order n others (Some id)) (after m) (siblings parent) (λ y h.
        let its = members y parent there h in
        ap (λ rest. y ∷ rest) (levels n m (suc depth) (Some y) its.1 (λ x e. ap length (leads_on x y e) ∙ ap suc (deep y its.0))
        (λ x is. let low = few x is in omega (arith, low)) (λ x is. let low = less x is in omega (arith, low))))

    pub same_order : (n m : ℕ) → ((x : ℕ) → is_there x ≡ true → length (along x).0 < n) → ((x : ℕ) → is_there x ≡ true → length (along x).0 < m) → in_order n others None ≡ in_order m siblings None
    same_order n m few less =
        levels n m 0 None tt (λ x e. ap length (one_way over x (along x).0 [] (along x).1 e)) (λ x is. let low = few x is in omega (arith, low)) (λ x is. let low = less x is in omega (arith, low))
