-- Whole edits: an object taken out, put back, added or forgotten.
use Rattle.std.proofs.Common.{◌≡◌, ◌≢◌, ℕ, ℤ, ◌≤◌, ◌<◌, ◌+◌, true, List, [], ◌∷◌, Option, Some, None, inl, inr, is_some, Result, Ok, Err, OnErr, if◌then◌else◌, ◌==◌, length, vec_capacity, refl, sym, subst, ◌∙◌, ap, suc, eq-eqb, arith}
use Rattle.std.proofs.lemmas.Bool.Decides.{eqb_tells}
use Rattle.std.specs.HashMap.{hash_map_len}
use Rattle.ev_stack.specs.declared.chain.Chain.{Chain}
use Rattle.ev_stack.specs.declared.stack.Stack.{Stack}
use Rattle.ev_stack.specs.LayerOrder.{layer_in, is_in, IsApart, IsLayered, without}
use Rattle.ev_stack.specs.Links.{previous_in, put_after, IsPlace, above_of, below_of, layer_of, order_of, IsChain, IsSound}
use Rattle.ev_stack.specs.Tops.{tops_of, with_top, without_top, in_layer}
use Rattle.ev_stack.specs.Stacks.{IsStack, IsLoose}
use Rattle.ev_stack.proofs.Lists.{neq-eqb, next_in_absent, previous_in_absent, apart_without, length-without, length-put_after_place, layer_in-without, layer_in-put_after, layer_in-put_after_new, in_apart, layer_in_absent}
use Rattle.ev_stack.proofs.Layering.{IsLayered-without}
use Rattle.ev_stack.proofs.Chains.{order_of-IsChain, IsSound-IsChain, is_there}
use Rattle.ev_stack.proofs.Tops.{tops_of-put_after, tops_of-without, IsLayered-tops_of, length-tops_of}

-- the index of a stack
pub tops_layered : (stack : Stack) → stack.layers.tops.items ≡ tops_of (order_of stack.chain) → IsLayered (order_of stack.chain) → IsLayered stack.layers.tops.items
tops_layered stack tops layered = rw tops (IsLayered-tops_of (order_of stack.chain) layered)

pub tops_fit : (stack : Stack) → IsStack stack → length stack.layers.tops.items ≤ hash_map_len stack.chain.nodes
tops_fit stack is =
    let fewer = length-tops_of (order_of stack.chain) in
    let count = is.count in
    rw is.tops (omega (arith, fewer, count))

pub tops_room : (stack : Stack) (id : ℕ) → IsLoose stack id → length stack.layers.tops.items < vec_capacity stack.layers.tops
tops_room stack id loose =
    let fewer = length-tops_of (order_of stack.chain) in
    let room = loose.room in
    let same = ap length loose.tops in
    omega (arith, fewer, room, same)

-- an object taken out of the order and of the index
pub taken_out : (old new : Stack) (id : ℕ) (layer : ℤ) (below : ℕ) (instead : Option ℕ) → IsStack old → layer_in (order_of old.chain) id ≡ Some layer
    → IsSound new.chain → order_of new.chain ≡ without (order_of old.chain) id → ((q : ℕ) → layer_of new.chain q ≡ layer_of old.chain q)
    → hash_map_len new.chain.nodes ≡ hash_map_len old.chain.nodes → below ≡ below_of old.chain id → instead ≡ in_layer (layer_of new.chain) below layer
    → new.layers.tops.items ≡ without_top old.layers.tops.items id layer instead → vec_capacity old.layers.tops ≤ vec_capacity new.layers.tops → IsLoose new id
taken_out old new id layer below instead stack its sound order layers len lower other tops room = record {
  sound = sound;
  object = in_apart (order_of old.chain) id 0 there stack.sound.apart;
  apart = rw order (apart_without (order_of old.chain) id stack.sound.distinct);
  node = rw (layers id) (is_there old.chain (order_of old.chain) id stack.sound there);
  whole = λ q away. layers q ∙ stack.whole q ∙ rw order (sym (layer_in-without (order_of old.chain) id q away));
  count = let count = stack.count in rw order (omega (arith, shorter, count, len));
  layered = rw order (IsLayered-without (order_of old.chain) id stack.layered);
  tops = tops ∙ rw (other, lower, layers (below_of old.chain id), stack.sound.below id, stack.tops, order) (sym out);
  room = let least = stack.room in rw order (omega (arith, shorter, least, room));
}
  where
    there : is_in (order_of old.chain) id ≡ true
    there = ap is_some its

    shorter : suc (length (without (order_of old.chain) id)) ≡ length (order_of old.chain)
    shorter = length-without (order_of old.chain) id there

    none : layer_of old.chain 0 ≡ None
    none = stack.whole 0 ∙ layer_in_absent (order_of old.chain) 0 stack.sound.apart

    out : tops_of (without (order_of old.chain) id) ≡ without_top (tops_of (order_of old.chain)) id layer (in_layer (layer_of old.chain) (previous_in 0 (order_of old.chain) id) layer)
    out = tops_of-without (layer_of old.chain) 0 (order_of old.chain) id layer its stack.sound.distinct stack.layered none stack.sound.layers

-- an object put in the order and in the index
pub put_back : (old new : Stack) (id place : ℕ) (layer : ℤ) → IsLoose old id → IsPlace 0 (order_of old.chain) place → IsLayered (put_after 0 (order_of old.chain) place (id, layer))
    → IsSound new.chain → order_of new.chain ≡ put_after 0 (order_of old.chain) place (id, layer) → ((q : ℕ) → layer_of new.chain q ≡ (if q == id then Some layer else layer_of old.chain q))
    → hash_map_len new.chain.nodes ≡ hash_map_len old.chain.nodes → new.layers.tops.items ≡ with_top old.layers.tops.items id layer place
    → vec_capacity old.layers.tops ≤ vec_capacity new.layers.tops → IsStack new
put_back old new id place layer loose at layered sound order layers len tops room = record {
  sound = sound;
  whole = λ q. layers q ∙ rw order (elim (eqb_tells q id) [
    | inl here ↦ rw here.0 (sym (ap (layer_in (put_after 0 (order_of old.chain) place (id, layer))) here.1 ∙ layer_in-put_after_new 0 (order_of old.chain) place (id, layer) at loose.apart))
    | inr away ↦ rw away.0 (loose.whole q away.1 ∙ sym (layer_in-put_after 0 (order_of old.chain) place (id, layer) q (λ e. away.1 (sym e))))
  ]);
  count = let count = loose.count in rw order (omega (arith, longer, count, len));
  layered = rw order layered;
  tops = tops ∙ rw (loose.tops, order) (sym (tops_of-put_after 0 (order_of old.chain) place id layer at loose.sound.apart loose.sound.distinct layered));
  room = let least = loose.room in rw order (omega (arith, longer, least, room));
}
  where
    longer : length (put_after 0 (order_of old.chain) place (id, layer)) ≡ suc (length (order_of old.chain))
    longer = length-put_after_place 0 (order_of old.chain) place (id, layer) at

-- no link leads to or from an object that was taken out
pub loose_alone : (old : Stack) (id : ℕ) → IsLoose old id → (above_of old.chain id ≡ 0) × (below_of old.chain id ≡ 0)
loose_alone old id loose = (
  loose.sound.above id ∙ next_in_absent 0 (order_of old.chain) id loose.apart loose.object,
  loose.sound.below id ∙ previous_in_absent 0 (order_of old.chain) id loose.apart loose.object,
)

-- the node of an object that was taken out is removed
pub forgotten : (old new : Stack) (id : ℕ) → IsLoose old id → ((q : ℕ) → above_of new.chain q ≡ above_of old.chain q) → ((q : ℕ) → below_of new.chain q ≡ below_of old.chain q)
    → ((q : ℕ) → layer_of new.chain q ≡ (if q == id then None else layer_of old.chain q)) → hash_map_len old.chain.nodes ≡ hash_map_len new.chain.nodes + 1
    → new.layers.tops.items ≡ old.layers.tops.items → vec_capacity new.layers.tops ≡ vec_capacity old.layers.tops → IsStack new × (order_of new.chain ≡ order_of old.chain)
forgotten old new id loose above below gone fewer tops room = (
  record {
    sound = IsSound-IsChain new.chain (order_of old.chain) chain;
    whole = λ q. gone q ∙ rw same (elim (eqb_tells q id) [
      | inl here ↦ rw here.0 (sym (layer_in_absent (order_of old.chain) q (subst (λ n. IsApart n (order_of old.chain)) (sym here.1) loose.apart)))
      | inr away ↦ rw away.0 (loose.whole q away.1)
    ]);
    count = let count = loose.count in rw same (omega (arith, count, fewer));
    layered = rw same loose.layered;
    tops = rw same (tops ∙ loose.tops);
    room = let least = loose.room in rw same (omega (arith, least, room));
  },
  same,
)
  where
    chain : IsChain new.chain (order_of old.chain)
    chain = record {
      above = λ q. above q ∙ loose.sound.above q;
      below = λ q. below q ∙ loose.sound.below q;
      layers = λ q layer found.
          let away : q ≢ id = in_apart (order_of old.chain) q id (ap is_some found) loose.apart in
          gone q ∙ rw (neq-eqb q id away) (loose.sound.layers q layer found);
      distinct = loose.sound.distinct;
      apart = loose.sound.apart;
      fits = let count = loose.count in omega (arith, count, fewer);
    }

    same : order_of new.chain ≡ order_of old.chain
    same = order_of-IsChain new.chain (order_of old.chain) chain

-- who isn't in the list is apart from it
apart_absent : (xs : List (ℕ × ℤ)) (id : ℕ) → layer_in xs id ≡ None → IsApart id xs
apart_absent [] id none = tt
apart_absent (one ∷ rest) id none =
    elim (eqb_tells one.0 id) [
      | inl here ↦ absurd (let found : Some one.1 ≡ None = rw here.0 at none in cc)
      | inr away ↦ (away.1, apart_absent rest id (rw away.0 at none))
    ]

-- a new node that no link leads to
pub admitted : (old new : Stack) (id : ℕ) (layer : ℤ) → IsStack old → layer_in (order_of old.chain) id ≡ None → id ≢ 0
    → ((q : ℕ) → above_of new.chain q ≡ above_of old.chain q) → ((q : ℕ) → below_of new.chain q ≡ below_of old.chain q)
    → ((q : ℕ) → layer_of new.chain q ≡ (if q == id then Some layer else layer_of old.chain q)) → hash_map_len new.chain.nodes ≡ hash_map_len old.chain.nodes + 1
    → new.layers.tops.items ≡ old.layers.tops.items → hash_map_len old.chain.nodes + 1 ≤ vec_capacity new.layers.tops → IsLoose new id × (order_of new.chain ≡ order_of old.chain)
admitted old new id layer stack fresh object above below layers len tops room = (
  record {
    sound = IsSound-IsChain new.chain (order_of old.chain) chain;
    object = object;
    apart = rw same (apart_absent (order_of old.chain) id fresh);
    node = rw (layers id, eq-eqb id id refl) refl;
    whole = λ q away. layers q ∙ rw (neq-eqb q id away, same) (stack.whole q);
    count = let count = stack.count in rw same (omega (arith, count, len));
    layered = rw same stack.layered;
    tops = rw same (tops ∙ stack.tops);
    room = let count = stack.count in rw same (omega (arith, count, room));
  },
  same,
)
  where
    chain : IsChain new.chain (order_of old.chain)
    chain = record {
      above = λ q. above q ∙ stack.sound.above q;
      below = λ q. below q ∙ stack.sound.below q;
      layers = λ q l found.
          let away : q ≢ id = λ e. (let none = ap (layer_in (order_of old.chain)) e ∙ fresh in cc) in
          layers q ∙ rw (neq-eqb q id away) (stack.sound.layers q l found);
      distinct = stack.sound.distinct;
      apart = stack.sound.apart;
      fits = let most = stack.sound.fits in omega (arith, most, len);
    }

    same : order_of new.chain ≡ order_of old.chain
    same = order_of-IsChain new.chain (order_of old.chain) chain

-- nothing changed but the room
pub unchanged : (old new : Stack) → IsStack old → ((q : ℕ) → above_of new.chain q ≡ above_of old.chain q) → ((q : ℕ) → below_of new.chain q ≡ below_of old.chain q)
    → ((q : ℕ) → layer_of new.chain q ≡ layer_of old.chain q) → hash_map_len new.chain.nodes ≡ hash_map_len old.chain.nodes
    → new.layers.tops.items ≡ old.layers.tops.items → vec_capacity old.layers.tops ≤ vec_capacity new.layers.tops → IsStack new × (order_of new.chain ≡ order_of old.chain)
unchanged old new stack above below layers len tops room = (
  record {
    sound = IsSound-IsChain new.chain (order_of old.chain) chain;
    whole = λ q. rw same (layers q ∙ stack.whole q);
    count = rw same (len ∙ stack.count);
    layered = rw same stack.layered;
    tops = rw same (tops ∙ stack.tops);
    room = let least = stack.room in rw same (omega (arith, least, room));
  },
  same,
)
  where
    chain : IsChain new.chain (order_of old.chain)
    chain = record {
      above = λ q. above q ∙ stack.sound.above q;
      below = λ q. below q ∙ stack.sound.below q;
      layers = λ q l found. layers q ∙ stack.sound.layers q l found;
      distinct = stack.sound.distinct;
      apart = stack.sound.apart;
      fits = let most = stack.sound.fits in omega (arith, most, len);
    }

    same : order_of new.chain ≡ order_of old.chain
    same = order_of-IsChain new.chain (order_of old.chain) chain

-- another object is still a place when one is taken out
pub still_there : (xs : List (ℕ × ℤ)) (id other : ℕ) (layer : ℤ) → layer_in xs other ≡ Some layer → id ≢ other → layer_in (without xs id) other ≡ Some layer
still_there xs id other layer its away = layer_in-without xs id other (λ e. away (sym e)) ∙ its

-- no objects
pub empty_chain : (chain : Chain) → chain.nodes.entries ≡ [] → chain.bottom ≡ 0 → chain.top ≡ 0 → IsChain chain []
empty_chain chain none bottom top = record {
  above = λ id. elim (eqb_tells id 0) [ inl here ↦ rw (here.0, bottom) refl | inr away ↦ rw (away.0, none) refl ];
  below = λ id. elim (eqb_tells id 0) [ inl here ↦ rw (here.0, top) refl | inr away ↦ rw (away.0, none) refl ];
  layers = λ id layer found. cc;
  distinct = tt;
  apart = tt;
  fits = omega arith;
}

pub on_err : {T E P : Type 0} (r : Result T E) → P → OnErr r P
on_err (Ok value) p = tt
on_err (Err error) p = p
