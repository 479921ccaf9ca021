-- What stands in the order of painting, by the ways from each id to what it stands in.
use Rattle.std.proofs.Common.{◌≡◌, ◌≢◌, ℕ, zero, suc, ◌+◌, ◌<◌, ◌≤◌, Bool, true, false, List, [], ◌∷◌, ◌++◌, length, get_or, flat_map, Option, Some, None, ◌⊎◌, inl, inr, refl, sym, subst, ap, ◌∙◌, arith}
use Rattle.std.proofs.lemmas.Bool.Decides.{eqb_tells}
use Rattle.std.proofs.lemmas.Option.{none-some, same_Some}
use Rattle.std.proofs.Math.Bool.{true≢false}
use Rattle.std.specs.Prelude.{AllPairs}
use Rattle.ev_model.specs.Order.{in_order}
use Rattle.ev_links.specs.Ties.{Has, has, IsDistinct, IsWay}
use Rattle.ev_links.proofs.Ways.{has-Has, not_Has, no_return}

-- ---- numbers of a list

Has_front : (x : ℕ) (xs ys : List ℕ) → Has x xs → Has x (xs ++ ys)
Has_front x [] ys h = absurd h
Has_front x (one ∷ xs) ys h = elim h [ inl here ↦ inl here | inr later ↦ inr (Has_front x xs ys later) ]

Has_back : (x : ℕ) (xs ys : List ℕ) → Has x ys → Has x (xs ++ ys)
Has_back x [] ys h = h
Has_back x (one ∷ xs) ys h = inr (Has_back x xs ys h)

Has_either : (x : ℕ) (xs ys : List ℕ) → Has x (xs ++ ys) → Has x xs ⊎ Has x ys
Has_either x [] ys h = inr h
Has_either x (one ∷ xs) ys h =
    elim h [
      | inl here ↦ inl (inl here)
      | inr later ↦ elim (Has_either x xs ys later) [ inl front ↦ inl (inr front) | inr back ↦ inr back ]
    ]

Has_flat : (f : ℕ → List ℕ) (ys : List ℕ) (y x : ℕ) → Has y ys → Has x (f y) → Has x (flat_map f ys)
Has_flat f [] y x h k = absurd h
Has_flat f (one ∷ ys) y x h k =
    elim h [
      | inl here ↦ Has_front x (f one) (flat_map f ys) (subst (λ n. Has x (f n)) (sym here) k)
      | inr later ↦ Has_back x (f one) (flat_map f ys) (Has_flat f ys y x later k)
    ]

flat_Has : (f : ℕ → List ℕ) (ys : List ℕ) (x : ℕ) → Has x (flat_map f ys) → (y : ℕ) × (Has y ys × Has x (f y))
flat_Has f [] x h = absurd h
flat_Has f (one ∷ ys) x h =
    elim (Has_either x (f one) (flat_map f ys) h) [
      | inl front ↦ (one, (inl refl, front))
      | inr back ↦ let rest = flat_Has f ys x back in (rest.0, (inr rest.1.0, rest.1.1))
    ]

-- what the test for a number of a list tells
pub Has-has : (xs : List ℕ) (id : ℕ) → has xs id ≡ true → Has id xs
Has-has [] id e = absurd (true≢false (sym e))
Has-has (x ∷ xs) id e = elim (eqb_tells x id) [ inl same ↦ inl same.1 | inr differ ↦ inr (Has-has xs id (rw differ.0 at e)) ]

pub has_not : (xs : List ℕ) (id : ℕ) → ¬ Has id xs → has xs id ≡ false
has_not xs id away = go (has xs id) refl where
  go : (b : Bool) → has xs id ≡ b → b ≡ false
  go true e = absurd (away (Has-has xs id e))
  go false e = refl

pub has_same : (xs ys : List ℕ) (a b : ℕ) → (Has a xs → Has b ys) → (Has b ys → Has a xs) → has xs a ≡ has ys b
has_same xs ys a b on back = go (has xs a) refl where
  go : (t : Bool) → has xs a ≡ t → t ≡ has ys b
  go true e = sym (has-Has ys b (on (Has-has xs a e)))
  go false e = sym (has_not ys b (λ h. not_Has xs a e (back h)))

-- ---- lists without repeats

distinct_append : (xs ys : List ℕ) → IsDistinct xs → IsDistinct ys → ((x : ℕ) → Has x xs → ¬ Has x ys) → IsDistinct (xs ++ ys)
distinct_append [] ys d e apart = e
distinct_append (one ∷ xs) ys d e apart = (
  (λ h. elim (Has_either one xs ys h) [ inl front ↦ d.0 front | inr back ↦ apart one (inl refl) back ]),
  distinct_append xs ys d.1 e (λ x h. apart x (inr h)),
)

distinct_flat : (f : ℕ → List ℕ) (ys : List ℕ) → IsDistinct ys → ((y : ℕ) → Has y ys → IsDistinct (f y)) → ((y z x : ℕ) → Has y ys → Has z ys → Has x (f y) → Has x (f z) → y ≡ z) → IsDistinct (flat_map f ys)
distinct_flat f [] d each apart = tt
distinct_flat f (one ∷ ys) d each apart =
    distinct_append (f one) (flat_map f ys) (each one (inl refl)) (distinct_flat f ys d.1 (λ y h. each y (inr h)) (λ y z x h k. apart y z x (inr h) (inr k)))
    (λ x front back.
    let found = flat_Has f ys x back in
    d.0 (subst (λ n. Has n ys) (sym (apart one found.0 x (inl refl) (inr found.1.0) front found.1.1)) found.1.0))

pub Has_at : (xs : List ℕ) (k d : ℕ) → k < length xs → Has (get_or xs k d) xs
Has_at [] k d h = absurd (omega (arith, h))
Has_at (x ∷ xs) zero d h = inl refl
Has_at (x ∷ xs) (suc k) d h = inr (Has_at xs k d (omega (arith, h)))

pub all_differ : (xs : List ℕ) → IsDistinct xs → AllPairs (λ a b. a ≢ b) xs
all_differ [] distinct i j d less few = absurd (omega (arith, few))
all_differ (x ∷ xs) distinct i zero d less few = absurd (omega (arith, less))
all_differ (x ∷ xs) distinct zero (suc j) d less few = λ same. distinct.0 (subst (λ n. Has n xs) (sym same) (Has_at xs j d (omega (arith, few))))
all_differ (x ∷ xs) distinct (suc i) (suc j) d less few = all_differ xs distinct.1 i j d (omega (arith, less)) (omega (arith, few))

-- ---- ways

-- what an id on a way leads to stands on the way
pub starts : (over : ℕ → Option ℕ) (x q : ℕ) (way : List ℕ) → IsWay over x way → over x ≡ Some q → Has q way
starts over x q [] p e = absurd (none-some q (sym p ∙ e))
starts over x q (w ∷ way) p e = inl (same_Some w q (sym p.0 ∙ e))

pub leads_along : (over : ℕ → Option ℕ) (x y q : ℕ) (way : List ℕ) → IsWay over x way → Has y way → over y ≡ Some q → Has q way
leads_along over x y q [] p h e = absurd h
leads_along over x y q (w ∷ way) p h e =
    elim h [
      | inl here ↦ inr (starts over w q way p.1 (ap over here ∙ e))
      | inr later ↦ inr (leads_along over w y q way p.1 later e)
    ]

-- something leads to each id on a way
pub led : (over : ℕ → Option ℕ) (x q : ℕ) (way : List ℕ) → IsWay over x way → Has q way → (y : ℕ) × (over y ≡ Some q)
led over x q [] p h = absurd h
led over x q (w ∷ way) p h = elim h [ inl here ↦ (x, p.0 ∙ ap Some here) | inr later ↦ led over w q way p.1 later ]

-- two that lead to the same have the same way
restart : (over : ℕ → Option ℕ) (x y : ℕ) (way : List ℕ) → over y ≡ over x → IsWay over x way → IsWay over y way
restart over x y [] same p = same ∙ p
restart over x y (w ∷ way) same p = (same ∙ p.0, p.1)

-- so they don't stand both on one way
pub alone : (over : ℕ → Option ℕ) (x y z : ℕ) (way : List ℕ) → IsWay over x way → over y ≡ over z → Has y (x ∷ way) → Has z (x ∷ way) → y ≡ z
alone over x y z [] p same h k = elim h [ inl first ↦ elim k [ inl second ↦ sym first ∙ second | inr later ↦ absurd later ] | inr before ↦ absurd before ]
alone over x y z (w ∷ way) p same h k =
    elim h [
      | inl first ↦ elim k [
        | inl second ↦ sym first ∙ second
        | inr later ↦ absurd (no_return over z (w ∷ way) (restart over x z (w ∷ way) (sym same ∙ ap over (sym first)) p) later)
      ]
      | inr before ↦ elim k [
        | inl second ↦ absurd (no_return over y (w ∷ way) (restart over x y (w ∷ way) (same ∙ ap over (sym second)) p) before)
        | inr later ↦ alone over w y z way p.1 same before later
      ]
    ]

-- ---- the order

module _ (siblings : Option ℕ → List ℕ) where
  abbrev after : ℕ → ℕ → List ℕ
  after n id = id ∷ in_order n siblings (Some id)

  first_in : (n x : ℕ) (parent : Option ℕ) → Has x (siblings parent) → Has x (in_order (suc n) siblings parent)
  first_in n x parent h = Has_flat (after n) (siblings parent) x x h (inl refl)

  deeper_in : (n x y : ℕ) (parent : Option ℕ) → Has y (siblings parent) → Has x (in_order n siblings (Some y)) → Has x (in_order (suc n) siblings parent)
  deeper_in n x y parent h k = Has_flat (after n) (siblings parent) y x h (inr k)

  -- with more levels all stays
  pub more_levels : (m n x : ℕ) (parent : Option ℕ) → m ≤ n → Has x (in_order m siblings parent) → Has x (in_order n siblings parent)
  more_levels zero n x parent few h = absurd h
  more_levels (suc m) zero x parent few h = absurd (omega (arith, few))
  more_levels (suc m) (suc n) x parent few h =
      let found = flat_Has (after m) (siblings parent) x h in
      Has_flat (after n) (siblings parent) found.0 x found.1.0
      (elim found.1.1 [ inl here ↦ inl here | inr later ↦ inr (more_levels m n x (Some found.0) (omega (arith, few)) later) ])

-- nothing, or the id of something that is there
abbrev pub IsParent : (ℕ → Bool) → Option ℕ → Type 0
IsParent is_there None = Unit {0}
IsParent is_there (Some id) = is_there id ≡ true

-- Siblings are those that lead to the same id, or nowhere.
module _ (siblings : Option ℕ → List ℕ) (over : ℕ → Option ℕ) (is_there : ℕ → Bool)
    (known : (q to : ℕ) → over q ≡ Some to → is_there to ≡ true)
    (stands : (x : ℕ) → is_there x ≡ true → Has x (siblings (over x)))
    (members : (x : ℕ) (parent : Option ℕ) → IsParent is_there parent → Has x (siblings parent) → (over x ≡ parent) × (is_there x ≡ true)) where
  -- one level further out
  outward : (m x at : ℕ) (parent : Option ℕ) → over at ≡ parent → is_there at ≡ true → Has x (in_order m siblings (Some at)) → Has x (in_order (suc m) siblings parent)
  outward m x at parent e there h = subst (λ q. Has x (in_order (suc m) siblings q)) e (deeper_in siblings m x at (over at) (stands at there) h)

  at_once : (x : ℕ) (parent : Option ℕ) → over x ≡ parent → is_there x ≡ true → Has x (in_order (suc zero) siblings parent)
  at_once x parent e there = subst (λ q. Has x (in_order (suc zero) siblings q)) e (first_in siblings zero x (over x) (stands x there))

  to_root : (m n x at : ℕ) (way : List ℕ) → IsWay over at way → is_there at ≡ true → m + length way < n → Has x (in_order m siblings (Some at)) → Has x (in_order n siblings None)
  to_root m n x at [] p there few h = more_levels siblings (suc m) n x None (omega (arith, few)) (outward m x at None p there h)
  to_root m n x at (w ∷ way) p there few h = to_root (suc m) n x w way p.1 (known at w p.0) (omega (arith, few)) (outward m x at (Some w) p.0 there h)

  to_some : (m n x q at : ℕ) (way : List ℕ) → IsWay over at way → is_there at ≡ true → Has q way → m + length way ≤ n → Has x (in_order m siblings (Some at)) → Has x (in_order n siblings (Some q))
  to_some m n x q at [] p there h few k = absurd h
  to_some m n x q at (w ∷ way) p there h few k =
      let up : Has x (in_order (suc m) siblings (Some w)) = outward m x at (Some w) p.0 there k in
      elim h [
        | inl here ↦ subst (λ q. Has x (in_order n siblings (Some q))) here (more_levels siblings (suc m) n x (Some w) (omega (arith, few)) up)
        | inr later ↦ to_some (suc m) n x q w way p.1 (known at w p.0) later (omega (arith, few)) up
      ]

  -- what is there stands in the whole order, where that has more levels than its way is long
  pub reached : (n x : ℕ) (way : List ℕ) → IsWay over x way → is_there x ≡ true → length way < n → Has x (in_order n siblings None)
  reached n x [] p there few = more_levels siblings (suc zero) n x None (omega (arith, few)) (at_once x None p there)
  reached n x (w ∷ way) p there few = to_root (suc zero) n x w way p.1 (known x w p.0) (omega (arith, few)) (at_once x (Some w) p.0 there)

  -- and in the order of each id on its way
  pub reached_in : (n x q : ℕ) (way : List ℕ) → IsWay over x way → is_there x ≡ true → Has q way → length way ≤ n → Has x (in_order n siblings (Some q))
  reached_in n x q [] p there h few = absurd h
  reached_in n x q (w ∷ way) p there h few =
      let first : Has x (in_order (suc zero) siblings (Some w)) = at_once x (Some w) p.0 there in
      elim h [
        | inl here ↦ subst (λ q. Has x (in_order n siblings (Some q))) here (more_levels siblings (suc zero) n x (Some w) (omega (arith, few)) first)
        | inr later ↦ to_some (suc zero) n x q w way p.1 (known x w p.0) later (omega (arith, few)) first
      ]

  -- no other id has it in its order
  pub on_the_way : (n x q : ℕ) (way : List ℕ) → is_there q ≡ true → IsWay over x way → Has x (in_order n siblings (Some q)) → Has q way
  on_the_way zero x q way there p h = absurd h
  on_the_way (suc n) x q way there p h =
      let found = flat_Has (after siblings n) (siblings (Some q)) x h in
      let at = members found.0 (Some q) there found.1.0 in
      elim found.1.1 [
        | inl here ↦ starts over x q way p (sym (ap over here) ∙ at.0)
        | inr later ↦ leads_along over x found.0 q way p (on_the_way n x found.0 way at.1 p later) at.0
      ]

  -- all in the order is there
  pub all_there : (n x : ℕ) (parent : Option ℕ) → IsParent is_there parent → Has x (in_order n siblings parent) → is_there x ≡ true
  all_there zero x parent is h = absurd h
  all_there (suc n) x parent is h =
      let found = flat_Has (after siblings n) (siblings parent) x h in
      let at = members found.0 parent is found.1.0 in
      elim found.1.1 [ inl here ↦ ap is_there (sym here) ∙ at.1 | inr later ↦ all_there n x (Some found.0) at.1 later ]

  -- where all ways end and no sibling stands twice, nothing stands twice in the order
  module _ (along : (x : ℕ) → (way : List ℕ) × IsWay over x way) (once : (parent : Option ℕ) → IsDistinct (siblings parent)) where
    own_way : (n y x : ℕ) → is_there y ≡ true → Has x (after siblings n y) → Has y (x ∷ (along x).0)
    own_way n y x there h = elim h [ inl here ↦ inl (sym here) | inr later ↦ inr (on_the_way n x y (along x).0 there (along x).1 later) ]

    pub stands_once : (n : ℕ) (parent : Option ℕ) → IsParent is_there parent → IsDistinct (in_order n siblings parent)
    stands_once zero parent is = tt
    stands_once (suc n) parent is =
        distinct_flat (after siblings n) (siblings parent) (once parent)
        (λ y h.
        let at = members y parent is h in
        (λ k. no_return over y (along y).0 (along y).1 (on_the_way n y y (along y).0 at.1 (along y).1 k), stands_once n (Some y) at.1))
        (λ y z x h k front back.
        let at = members y parent is h in
        let also = members z parent is k in
        alone over x y z (along x).0 (along x).1 (at.0 ∙ sym also.0) (own_way n y x at.1 front) (own_way n z x also.1 back))
