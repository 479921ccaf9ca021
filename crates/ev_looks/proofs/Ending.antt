-- Each way up comes to an end, since it does so by the ties.
use Rattle.std.proofs.Common.{◌≡◌, ℕ, zero, suc, ◌<◌, ◌≤◌, true, false, ◌==◌, List, [], ◌∷◌, length, map, cond, Option, Some, None, is_some, refl, sym, subst, ap, ◌∙◌, arith}
use Rattle.std.proofs.lemmas.Bool.Decides.{nat_tests}
use Rattle.std.proofs.lemmas.List.{length-map}
use Rattle.std.proofs.Math.Bool.{true≢false}
use Rattle.std.specs.Prelude.{nat_eq}
use Rattle.std.specs.Option.{option_map, option_and_then, option_or}
use Rattle.std.specs.Map.{lookup}
use Rattle.ev_links.specs.Ties.{Tie, Ties, next_at, IsWay, IsSound}
use Rattle.ev_links.proofs.Fits.{way_within}
use Rattle.ev_links.proofs.Sound.{next_there}
use Rattle.std.specs.FinMap.{get}
use Rattle.ev_state.specs.Held.{Held}
use Rattle.ev_model.specs.Chain.{ends}
use Rattle.ev_model.specs.Up.{with_id, next}
use Rattle.ev_model.specs.declared.object.Object.{Object}
use Rattle.ev_slots.specs.Seats.{HavePlaces}
use Rattle.ev_slots.specs.Slots.{of_id}
use Rattle.ev_track.specs.Tracks.{Tracks, slots_in}
use Rattle.ev_looks.specs.Grounds.{tie_of, AreTied}
use Rattle.ev_looks.specs.PlacedStates.{objects_in, states_now, HaveEnds}
use Rattle.ev_looks.proofs.Leaving.{own_id}
use Rattle.ev_looks.proofs.Placing.{with_now}

abbrev entry : Object → ℕ × Object
entry o = (o.id, o)

lookup_with_id : (objects : List Object) (id : ℕ) → lookup (nat_eq id) (map entry objects) ≡ with_id objects id
lookup_with_id [] id = refl
lookup_with_id (o ∷ objects) id =
    let same : nat_eq id o.id ≡ (o.id == id) = grind (arith, nat_tests) in
    rw same (elim (o.id == id) as (λ b. cond b (Some o) (lookup (nat_eq id) (map entry objects)) ≡ cond b (Some o) (with_id objects id)) [
      | true ↦ refl
      | false ↦ lookup_with_id objects id
    ])

is_some_map : {A B : Type 0} (f : A → B) (o : Option A) → is_some (option_map f o) ≡ is_some o
is_some_map f None = refl
is_some_map f (Some x) = refl

ends_none : {A : Type 0} (n : ℕ) (step : A → Option A) → ends n step None ≡ true
ends_none zero step = refl
ends_none (suc n) step = refl

module _ (objects : List Object) (ties : ℕ → Option Tie) (same : (id : ℕ) → ties id ≡ option_map tie_of (with_id objects id)) (sound : IsSound ties) where
  leads : (o : Object) → with_id objects o.id ≡ Some o → next_at ties o.id ≡ option_or o.clipper o.parent
  leads o there = ap (option_and_then (λ (tie : Tie). option_or tie.clipper tie.parent)) (same o.id ∙ ap (option_map tie_of) there)

  known : (q to : ℕ) → next_at ties q ≡ Some to → is_some (with_id objects to) ≡ true
  known q to is = sym (is_some_map tie_of (with_id objects to)) ∙ ap is_some (sym (same to)) ∙ next_there ties sound q to is

  further : (n later : ℕ) (found : Option Object) → with_id objects later ≡ found → is_some found ≡ true
      → ((u : Object) → with_id objects u.id ≡ Some u → u.id ≡ later → ends n (next objects) (next objects u) ≡ true) → ends (suc n) (next objects) found ≡ true
  further n later None e some along = absurd (true≢false (sym some))
  further n later (Some u) e some along = let own : u.id ≡ later = own_id objects later u e in along u (ap (with_id objects) own ∙ e) own

  follows : (n : ℕ) (o : Object) (way : List ℕ) → with_id objects o.id ≡ Some o → IsWay (next_at ties) o.id way → length way ≤ n → ends n (next objects) (next objects o) ≡ true
  follows n o [] there p few = ap (ends n (next objects)) (ap (option_and_then (with_id objects)) (sym (leads o there) ∙ p)) ∙ ends_none n (next objects)
  follows zero o (later ∷ rest) there p few = absurd (omega arith)
  follows (suc n) o (later ∷ rest) there p few =
      ap (ends (suc n) (next objects)) (ap (option_and_then (with_id objects)) (sym (leads o there) ∙ p.0))
      ∙ further n later (with_id objects later) refl (known o.id later p.0) (λ u h own. follows n u rest h (subst (λ n. IsWay (next_at ties) n rest) (sym own) p.1) (omega (arith, few)))

  -- there are more objects than a way has
  shorter : (o : Object) (way : List ℕ) → with_id objects o.id ≡ Some o → IsWay (next_at ties) o.id way → length way < length objects
  shorter o way there p =
      subst (λ n. length way < n) (length-map objects entry)
      (way_within (map entry objects) (next_at ties) o.id way (ap is_some (lookup_with_id objects o.id ∙ there)) (λ q to e. ap is_some (lookup_with_id objects to) ∙ known q to e) p)

  pub ways_end : HaveEnds objects
  ways_end o there = let way = sound.ends o.id in let few = shorter o way.0 there way.1 in follows (length objects) o way.0 there way.1 (omega (arith, few))

-- the objects that stand now, and their ties
module _ (t : Tracks Object) (ties : Ties) (laws : HavePlaces (slots_in t)) (tied : AreTied t ties) (sound : IsSound (get ties)) where
  pub ties_of_now : (id : ℕ) → get ties id ≡ option_map tie_of (with_id (objects_in (states_now t)) id)
  ties_of_now id = tied.tied id ∙ twice (of_id t.slots id) ∙ ap (option_map tie_of) (sym (with_now t ties laws tied id)) where
    twice : (x : Option (Held Object)) → option_map (λ (s : Held Object). tie_of s.value) x ≡ option_map tie_of (option_map (λ (s : Held Object). s.value) x)
    twice None = refl
    twice (Some s) = refl

  pub now_ended : HaveEnds (objects_in (states_now t))
  now_ended = ways_end (objects_in (states_now t)) (get ties) ties_of_now sound

  -- what stands over an object is there
  pub over_there : (u : Object) (id : ℕ) → with_id (objects_in (states_now t)) u.id ≡ Some u → option_or u.clipper u.parent ≡ Some id → is_some (with_id (objects_in (states_now t)) id) ≡ true
  over_there u id there is =
      let next : next_at (get ties) u.id ≡ Some id = ap (option_and_then (λ (tie : Tie). option_or tie.clipper tie.parent)) (ties_of_now u.id ∙ ap (option_map tie_of) there) ∙ is in
      sym (some_map (with_id (objects_in (states_now t)) id)) ∙ ap is_some (sym (ties_of_now id)) ∙ next_there (get ties) sound u.id id next
    where
      some_map : (x : Option Object) → is_some (option_map tie_of x) ≡ is_some x
      some_map None = refl
      some_map (Some x) = refl
