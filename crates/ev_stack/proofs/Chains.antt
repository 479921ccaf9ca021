-- What edits of the links make of the list.
use Rattle.std.proofs.Common.{◌≡◌, ◌≢◌, ℕ, ℤ, ◌+◌, true, List, Option, Some, None, is_some, if◌then◌else◌, ◌==◌, length, refl, sym, subst, ◌∙◌, ap, arith}
use Rattle.std.proofs.lemmas.Bool.Decides.{nat_tests, eqb_tells}
use Rattle.std.proofs.Common.{inl, inr}
use Rattle.std.specs.Prelude.{nat_eq}
use Rattle.std.specs.Option.{option_map}
use Rattle.std.specs.HashMap.{get, hash_map_len}
use Rattle.ev_stack.specs.declared.chain.Chain.{Chain}
use Rattle.ev_stack.specs.LayerOrder.{layer_in, is_in, IsApart, without}
use Rattle.ev_stack.specs.Links.{next_in, put_after, IsPlace, above_of, below_of, layer_of, is_place, order_of, IsChain, IsSound}
use Rattle.ev_stack.proofs.Lists.{next_in_other, next_in-without, previous_in-without, next_in-put_after, previous_in-put_after, IsApart-without, IsDistinct-without, apart_without, length-without, layer_in-without, IsApart-put_after, IsDistinct-put_after, length-put_after, layer_in-put_after, layer_in-put_after_new, in_apart, place_is_in, next_is_there, walk_along}

-- the walk along the links of a list meets the list
pub order_of-IsChain : (chain : Chain) (order : List (ℕ × ℤ)) → IsChain chain order → order_of chain ≡ order
unfolding order_of
order_of-IsChain chain order is =
    walk_along (above_of chain) (layer_of chain) 0 order (hash_map_len chain.nodes) (λ q at. is.above q) is.layers is.apart is.distinct is.apart is.fits

pub IsSound-IsChain : (chain : Chain) (order : List (ℕ × ℤ)) → IsChain chain order → IsSound chain
IsSound-IsChain chain order is = subst (IsChain chain) (sym (order_of-IsChain chain order is)) is

is_some-option_map : {A B : Type 0} (f : A → B) (o : Option A) → is_some (option_map f o) ≡ is_some o
is_some-option_map f None = refl
is_some-option_map f (Some x) = refl

-- an object of the list has a node
pub is_there : (chain : Chain) (order : List (ℕ × ℤ)) (id : ℕ) → IsChain chain order → is_in order id ≡ true → is_some (layer_of chain id) ≡ true
is_there chain order id is there = go (layer_in order id) refl there
  where
    go : (found : Option ℤ) → layer_in order id ≡ found → is_some found ≡ true → is_some (layer_of chain id) ≡ true
    go None e there = cc
    go (Some layer) e there = ap is_some (is.layers id layer e)

-- what has a node is a place of the chain
pub is_place-there : (chain : Chain) (id : ℕ) → is_some (layer_of chain id) ≡ true → is_place chain id ≡ true
is_place-there chain id there =
    let node : is_some (get nat_eq chain.nodes id) ≡ true = sym (is_some-option_map (λ node. node.layer) (get nat_eq chain.nodes id)) ∙ there in
    elim (eqb_tells id 0) [ inl same ↦ rw same.0 refl | inr differ ↦ rw (differ.0, node) refl ]

-- the end and the objects of the list are places of the chain
pub is_place-IsPlace : (chain : Chain) (order : List (ℕ × ℤ)) (id : ℕ) → IsChain chain order → IsPlace 0 order id → is_place chain id ≡ true
is_place-IsPlace chain order id is at =
    elim (eqb_tells id 0) [
      | inl same ↦ rw same.0 refl
      | inr differ ↦ is_place-there chain id (is_there chain order id is (place_is_in 0 order id at (λ e. differ.1 (sym e))))
    ]

pub is_place-next_in : (chain : Chain) (order : List (ℕ × ℤ)) (id : ℕ) → IsChain chain order → is_place chain (next_in 0 order id) ≡ true
is_place-next_in chain order id is =
    elim (eqb_tells (next_in 0 order id) 0) [
      | inl same ↦ rw same.0 refl
      | inr differ ↦ is_place-there chain (next_in 0 order id) (is_there chain order (next_in 0 order id) is (next_is_there 0 order id differ.1))
    ]

-- links and layers after an object is taken out
pub unlinked : (old new : Chain) (order : List (ℕ × ℤ)) (id : ℕ) → IsChain old order → is_in order id ≡ true
    → ((q : ℕ) → above_of new q ≡ (if q == id then 0 else if q == below_of old id then above_of old id else above_of old q))
    → ((q : ℕ) → below_of new q ≡ (if q == id then 0 else if q == above_of old id then below_of old id else below_of old q))
    → ((q : ℕ) → layer_of new q ≡ layer_of old q) → hash_map_len new.nodes ≡ hash_map_len old.nodes
    → IsChain new (without order id)
unlinked old new order id is there above below layers len =
    let object : id ≢ 0 = in_apart order id 0 there is.apart in
    record {
      above = λ q. above q ∙ (rw (is.below id, is.above id, is.above q) (sym (next_in-without 0 order id q there is.apart is.distinct object)));
      below = λ q. below q ∙ (rw (is.above id, is.below id, is.below q) (sym (previous_in-without 0 order id q there is.apart is.distinct object object)));
      layers = λ q layer found.
          let other : q ≢ id = in_apart (without order id) q id (ap is_some found) (apart_without order id is.distinct) in
          layers q ∙ is.layers q layer (sym (layer_in-without order id q other) ∙ found);
      distinct = IsDistinct-without order id is.distinct;
      apart = IsApart-without order id 0 is.apart;
      fits = let shorter = length-without order id there in omega (arith, is.fits, shorter, len);
    }

-- two writes at different places may change their order
swapped : (q a b x y : ℕ) → a ≢ b → (if q == a then b else if q == b then x else y) ≡ (if q == b then x else if q == a then b else y)
swapped q a b x y differ = grind (arith, nat_tests)

-- the layer of an object written again
pub same_layer : (chain : Chain) (id q : ℕ) (layer : ℤ) → layer_of chain id ≡ Some layer → (if q == id then Some layer else layer_of chain q) ≡ layer_of chain q
same_layer chain id q layer its =
    elim (eqb_tells q id) [
      | inl same ↦ rw same.0 (sym (subst (λ n. layer_of chain n ≡ Some layer) (sym same.1) its))
      | inr differ ↦ rw differ.0 refl
    ]

-- links and layers after an object is put after a place
pub linked : (old new : Chain) (order : List (ℕ × ℤ)) (id place : ℕ) (layer : ℤ) → IsChain old order → IsPlace 0 order place → IsApart id order → id ≢ 0
    → hash_map_len old.nodes ≡ length order + 1
    → ((q : ℕ) → above_of new q ≡ (if q == place then id else if q == id then above_of old place else above_of old q))
    → ((q : ℕ) → below_of new q ≡ (if q == above_of old place then id else if q == id then place else below_of old q))
    → ((q : ℕ) → layer_of new q ≡ (if q == id then Some layer else layer_of old q)) → hash_map_len new.nodes ≡ hash_map_len old.nodes
    → IsChain new (put_after 0 order place (id, layer))
linked old new order id place layer is at fresh object room above below layers len = record {
  above = λ q. above q ∙ (rw (is.above place, is.above q) (sym (next_in-put_after 0 order place (id, layer) q at fresh object)));
  below = λ q.
      let apart = next_in_other 0 order place id fresh object in
      below q ∙ swapped q (above_of old place) id place (below_of old q) (rw (is.above place) apart)
      ∙ (rw (is.above place, is.below q) (sym (previous_in-put_after 0 order place (id, layer) q at is.distinct is.apart fresh object object)));
  layers = λ q l found.
      layers q
      ∙ elim (eqb_tells q id) as (λ _. (if q == id then Some layer else layer_of old q) ≡ Some l) [
        | inl same ↦
            rw same.0
            (sym (layer_in-put_after_new 0 order place (id, layer) at fresh) ∙ subst (λ n. layer_in (put_after 0 order place (id, layer)) n ≡ Some l) same.1 found)
        | inr differ ↦ rw differ.0 (is.layers q l (sym (layer_in-put_after 0 order place (id, layer) q (λ e. differ.1 (sym e))) ∙ found))
      ];
  distinct = IsDistinct-put_after 0 order place (id, layer) is.distinct fresh;
  apart = IsApart-put_after 0 order place (id, layer) 0 is.apart object;
  fits = let longer = length-put_after 0 order place (id, layer) in omega (arith, room, longer, len);
}
