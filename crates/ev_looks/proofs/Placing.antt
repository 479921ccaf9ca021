-- Objects in places are found by their ids.
use Rattle.std.proofs.Common.{◌≡◌, ℕ, zero, suc, Bool, true, false, ◌||◌, ◌==◌, if◌then◌else◌, is_some, List, [], ◌∷◌, map, Option, Some, None, option_map, inl, inr, refl, sym, ap, ◌∙◌, arith}
use Rattle.std.specs.List.{list_any}
use Rattle.std.specs.Option.{option_and_then, option_map_or}
use Rattle.std.proofs.Math.Bool.{true≢false}
use Rattle.std.proofs.lemmas.Bool.{eqb-true}
use Rattle.std.proofs.lemmas.Bool.Decides.{eqb_tells, nat_tests}
use Rattle.std.proofs.lemmas.Option.{none-some, same_Some}
use Rattle.ev_state.specs.Held.{Held}
use Rattle.ev_model.specs.Up.{with_id, is_clipped_by}
use Rattle.ev_model.specs.declared.object.Object.{Object}
use Rattle.ev_slots.specs.Seats.{HavePlaces}
use Rattle.ev_slots.specs.Slots.{of_id, seat}
use Rattle.ev_links.specs.Ties.{Ties}
use Rattle.ev_track.specs.Tracks.{Tracks, slots_in, state_in}
use Rattle.ev_looks.specs.Grounds.{AreTied}
use Rattle.ev_looks.specs.PlacedStates.{state_at, objects_in, states_now, AreApart}
use Rattle.ev_looks.proofs.Leaving.{own_id}

-- an object stands in a place
pub record IsIn (states : List (Option (Held Object))) (o : Object) : Type 0 where
  pub place : ℕ
  pub state : Held Object
  pub at : state_at states place ≡ Some state
  pub is : state.value ≡ o

-- what is found stands in a place
pub found_in : (states : List (Option (Held Object))) (id : ℕ) (o : Object) → with_id (objects_in states) id ≡ Some o → IsIn states o
found_in [] id o is = absurd (none-some o is)
found_in (None ∷ states) id o is = let rest = found_in states id o is in record { place = suc rest.place; state = rest.state; at = rest.at; is = rest.is }
found_in (Some s ∷ states) id o is = go (s.value.id == id) is (found_in states id o) where
  go : (b : Bool) → (if b then Some s.value else with_id (objects_in states) id) ≡ Some o → (with_id (objects_in states) id ≡ Some o → IsIn states o) → IsIn (Some s ∷ states) o
  go true is later = record { place = zero; state = s; at = refl; is = same_Some s.value o is }
  go false is later = let rest = later is in record { place = suc rest.place; state = rest.state; at = rest.at; is = rest.is }

rest_apart : (x : Option (Held Object)) (states : List (Option (Held Object))) → AreApart (x ∷ states) → AreApart states
rest_apart x states apart i j s r a b same = let e : suc i ≡ suc j = apart (suc i) (suc j) s r a b same in omega (arith, e)

-- what stands in a place is found
pub finds : (states : List (Option (Held Object))) → AreApart states → (place : ℕ) (s : Held Object) → state_at states place ≡ Some s → with_id (objects_in states) s.value.id ≡ Some s.value
finds [] apart place s at = absurd (none-some s at)
finds (None ∷ states) apart zero s at = absurd (none-some s at)
finds (None ∷ states) apart (suc place) s at = finds states (rest_apart None states apart) place s at
finds (Some r ∷ states) apart zero s at = elim (eqb_tells r.value.id s.value.id) [
  | inl same ↦ rw same.0 (ap (λ (s : Held Object). Some s.value) (same_Some r s at))
  | inr differ ↦ absurd (differ.1 (ap (λ (s : Held Object). s.value.id) (same_Some r s at)))
]
finds (Some r ∷ states) apart (suc place) s at = elim (eqb_tells r.value.id s.value.id) [
  | inl same ↦ let e : zero ≡ suc place = apart zero (suc place) r s refl at same.1 in absurd (omega (arith, e))
  | inr differ ↦ rw differ.0 (finds states (rest_apart (Some r) states apart) place s at)
]

-- lists with the same in each place have the same objects
pub same_objects : (xs ys : List (Option (Held Object))) → ((place : ℕ) → state_at xs place ≡ state_at ys place) → objects_in xs ≡ objects_in ys
same_objects [] [] same = refl
same_objects [] (None ∷ ys) same = same_objects [] ys (λ place. same (suc place))
same_objects [] (Some s ∷ ys) same = absurd (none-some s (same 0))
same_objects (None ∷ xs) [] same = same_objects xs [] (λ place. same (suc place))
same_objects (Some s ∷ xs) [] same = absurd (none-some s (sym (same 0)))
same_objects (None ∷ xs) (None ∷ ys) same = same_objects xs ys (λ place. same (suc place))
same_objects (None ∷ xs) (Some r ∷ ys) same = absurd (none-some r (same 0))
same_objects (Some s ∷ xs) (None ∷ ys) same = absurd (none-some s (sym (same 0)))
same_objects (Some s ∷ xs) (Some r ∷ ys) same = ap (λ (s : Held Object). s.value ∷ objects_in xs) (same_Some s r (same 0)) ∙ ap (λ os. r.value ∷ os) (same_objects xs ys (λ place. same (suc place)))

-- what stands in a place now
pub at_now : (slots : List (Option (Held Object))) (seats : List (Option ℕ)) (place : ℕ) → state_at (map (λ id. option_and_then (of_id slots) id) seats) place ≡ state_in slots seats place
at_now slots [] place = refl
at_now slots (id ∷ seats) zero = refl
at_now slots (id ∷ seats) (suc place) = at_now slots seats place

-- a state stands at its id, which sits in a place
pub record IsSat (t : Tracks Object) (place : ℕ) (s : Held Object) : Type 0 where
  pub sits : seat t.seats place ≡ Some s.value.id
  pub there : of_id t.slots s.value.id ≡ Some s

module _ (t : Tracks Object) (ties : Ties) (laws : HavePlaces (slots_in t)) (tied : AreTied t ties) where
  pub sat : (place : ℕ) (s : Held Object) → state_at (states_now t) place ≡ Some s → IsSat t place s
  sat place s is = go (seat t.seats place) refl (sym (at_now t.slots t.seats place) ∙ is) where
    go : (id : Option ℕ) → seat t.seats place ≡ id → option_and_then (of_id t.slots) id ≡ Some s → IsSat t place s
    go None sits none = absurd (none-some s none)
    go (Some id) sits there = let own = tied.own id s there in record { sits = sits ∙ ap Some (sym own); there = ap (of_id t.slots) own ∙ there }

  pub now_apart : AreApart (states_now t)
  now_apart i j s r a b same = laws.one i j s.value.id (sat i s a).sits ((sat j r b).sits ∙ ap Some (sym same))

  -- the state of an id stands in its place
  pub at_seat : (place id : ℕ) → seat t.seats place ≡ Some id → state_at (states_now t) place ≡ of_id t.slots id
  at_seat place id sits = at_now t.slots t.seats place ∙ ap (option_and_then (of_id t.slots)) sits

  -- the object of an id is that of its state
  pub with_now : (id : ℕ) → with_id (objects_in (states_now t)) id ≡ option_map (λ (s : Held Object). s.value) (of_id t.slots id)
  with_now id = go (of_id t.slots id) refl where
    some : (s : Held Object) → of_id t.slots id ≡ Some s → with_id (objects_in (states_now t)) id ≡ Some s.value
    some s there =
        let place = laws.seated id (ap is_some there) in
        ap (with_id (objects_in (states_now t))) (sym (tied.own id s there)) ∙ finds (states_now t) now_apart place.0 s (at_seat place.0 id place.1 ∙ there)

    never : (o : Object) → of_id t.slots id ≡ None → with_id (objects_in (states_now t)) id ≡ Some o → ⊥
    never o none is =
        let f = found_in (states_now t) id o is in
        let own : f.state.value.id ≡ id = ap (λ (o : Object). o.id) f.is ∙ own_id (objects_in (states_now t)) id o is in
        none-some f.state (sym none ∙ ap (of_id t.slots) (sym own) ∙ (sat f.place f.state f.at).there)

    nothing : (o : Option Object) → of_id t.slots id ≡ None → with_id (objects_in (states_now t)) id ≡ o → with_id (objects_in (states_now t)) id ≡ None
    nothing None none is = is
    nothing (Some o) none is = absurd (never o none is)

    go : (x : Option (Held Object)) → of_id t.slots id ≡ x → with_id (objects_in (states_now t)) id ≡ option_map (λ (s : Held Object). s.value) x
    go (Some s) there = some s there
    go None none = nothing (with_id (objects_in (states_now t)) id) none refl

-- what passes a test stands in a place
pub record Passes (test : Object → Bool) (states : List (Option (Held Object))) : Type 0 where
  pub place : ℕ
  pub state : Held Object
  pub at : state_at states place ≡ Some state
  pub holds : test state.value ≡ true

pub passing : (test : Object → Bool) (states : List (Option (Held Object))) → list_any test (objects_in states) ≡ true → Passes test states
passing test [] some = absurd (true≢false (sym some))
passing test (None ∷ states) some = let rest = passing test states some in record { place = suc rest.place; state = rest.state; at = rest.at; holds = rest.holds }
passing test (Some s ∷ states) some = go (test s.value) refl some (passing test states) where
  go : (b : Bool) → test s.value ≡ b → (b || list_any test (objects_in states)) ≡ true → (list_any test (objects_in states) ≡ true → Passes test states) → Passes test (Some s ∷ states)
  go true is some later = record { place = zero; state = s; at = refl; holds = is }
  go false is some later = let rest = later some in record { place = suc rest.place; state = rest.state; at = rest.at; holds = rest.holds }

pub passes : (test : Object → Bool) (states : List (Option (Held Object))) (place : ℕ) (s : Held Object) → state_at states place ≡ Some s → test s.value ≡ true → list_any test (objects_in states) ≡ true
passes test [] place s at is = absurd (none-some s at)
passes test (None ∷ states) zero s at is = absurd (none-some s at)
passes test (None ∷ states) (suc place) s at is = passes test states place s at is
passes test (Some r ∷ states) zero s at is = rw (ap (λ (s : Held Object). test s.value) (same_Some r s at) ∙ is) refl
passes test (Some r ∷ states) (suc place) s at is = rw (passes test states place s at is) (or_true (test r.value)) where
  or_true : (b : Bool) → (b || true) ≡ true
  or_true true = refl
  or_true false = refl

-- who has a clipper
pub clipper_is : (id : ℕ) (o : Object) → is_clipped_by id o ≡ true → o.clipper ≡ Some id
clipper_is id o is = go o.clipper is where
  go : (c : Option ℕ) → option_map_or (λ clipper. clipper == id) c false ≡ true → c ≡ Some id
  go None none = absurd (true≢false (sym none))
  go (Some c) is = ap Some (eqb-true c id is)

pub is_clipper : (id : ℕ) (o : Object) → o.clipper ≡ Some id → is_clipped_by id o ≡ true
is_clipper id o is = ap (λ c. option_map_or (λ clipper. clipper == id) c false) is ∙ itself id where
  itself : (n : ℕ) → (n == n) ≡ true
  itself n = grind (arith, nat_tests)
