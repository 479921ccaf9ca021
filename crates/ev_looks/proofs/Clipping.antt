-- Who clips another, by the ties.
use Rattle.std.proofs.Common.{◌≡◌, ℕ, ◌<◌, nat_lt, Bool, true, false, is_some, List, [], ◌∷◌, length, Option, Some, None, option_map, inl, refl, sym, ap, ◌∙◌, arith}
use Rattle.std.specs.List.{list_any}
use Rattle.std.specs.FinMap.{get}
use Rattle.std.specs.Option.{option_and_then}
use Rattle.std.proofs.lemmas.Bool.Decides.{nat_tests}
use Rattle.std.proofs.lemmas.Option.{none-some}
use Rattle.ev_state.specs.Held.{Held}
use Rattle.ev_model.specs.Up.{is_clipped_by}
use Rattle.ev_model.specs.declared.object.Object.{Object}
use Rattle.ev_slots.specs.Seats.{HavePlaces}
use Rattle.ev_slots.specs.Slots.{of_id}
use Rattle.ev_links.specs.Ties.{Tie, Ties, clipper_at, Counts, Has}
use Rattle.ev_track.specs.Tracks.{Tracks, slots_in}
use Rattle.ev_looks.specs.Grounds.{tie_of, AreTied}
use Rattle.ev_looks.specs.PlacedStates.{objects_in, states_now}
use Rattle.ev_looks.proofs.Placing.{sat, at_seat, passing, passes, clipper_is, is_clipper}

module _ (t : Tracks Object) (ties : Ties) (laws : HavePlaces (slots_in t)) (tied : AreTied t ties) where
  tie_at : {A : Type 0} (part : Tie → Option A) (id : ℕ) (s : Held Object) → of_id t.slots id ≡ Some s → option_and_then part (get ties id) ≡ part (tie_of s.value)
  tie_at part id s there = ap (option_and_then part) (tied.tied id ∙ ap (option_map (λ (s : Held Object). tie_of s.value)) there)

  -- an object with a clipper has it by the ties
  tied_clipper : (id : ℕ) → list_any (is_clipped_by id) (objects_in (states_now t)) ≡ true → (other : ℕ) × (clipper_at (get ties) other ≡ Some id)
  tied_clipper id some =
      let p = passing (is_clipped_by id) (states_now t) some in
      let seated = sat t ties laws tied p.place p.state p.at in
      (p.state.value.id, tie_at (λ (tie : Tie). tie.clipper) p.state.value.id p.state seated.there ∙ clipper_is id p.state.value p.holds)

  -- who has a clipper by the ties is an object that has it
  has_clipper : (id other : ℕ) → clipper_at (get ties) other ≡ Some id → list_any (is_clipped_by id) (objects_in (states_now t)) ≡ true
  has_clipper id other is = go (of_id t.slots other) refl where
    go : (x : Option (Held Object)) → of_id t.slots other ≡ x → list_any (is_clipped_by id) (objects_in (states_now t)) ≡ true
    go None none = absurd (none-some id (sym (ap (option_and_then (λ (tie : Tie). tie.clipper)) (tied.tied other ∙ ap (option_map (λ (s : Held Object). tie_of s.value)) none)) ∙ is))
    go (Some s) there =
        let place = laws.seated other (ap is_some there) in
        passes (is_clipped_by id) (states_now t) place.0 s (at_seat t ties laws tied place.0 other place.1 ∙ there)
        (is_clipper id s.value (sym (tie_at (λ (tie : Tie). tie.clipper) other s there) ∙ is))

  module _ (id n : ℕ) (counts : Counts (clipper_at (get ties)) id n) where
    -- who clips some
    some_clipped : 0 < n → list_any (is_clipped_by id) (objects_in (states_now t)) ≡ true
    some_clipped more = go counts.ids refl where
      go : (ids : List ℕ) → counts.ids ≡ ids → list_any (is_clipped_by id) (objects_in (states_now t)) ≡ true
      go [] is = let none : n ≡ 0 = sym counts.count ∙ ap length is in absurd (omega (arith, none, more))
      go (other ∷ ids) is = has_clipper id other (counts.clipped other (subst_has other is)) where
        subst_has : (other : ℕ) → counts.ids ≡ other ∷ ids → Has other counts.ids
        subst_has other is = rw is (inl refl)

    -- who clips none
    none_clipped : n ≡ 0 → list_any (is_clipped_by id) (objects_in (states_now t)) ≡ false
    none_clipped none = go (list_any (is_clipped_by id) (objects_in (states_now t))) refl where
      never : (ids : List ℕ) (other : ℕ) → length ids ≡ 0 → Has other ids → ⊥
      never [] other none h = h
      never (x ∷ ids) other none h = absurd (omega (arith, none))

      go : (b : Bool) → list_any (is_clipped_by id) (objects_in (states_now t)) ≡ b → b ≡ false
      go false is = refl
      go true is = let other = tied_clipper id is in absurd (never counts.ids other.0 (counts.count ∙ none) (counts.all other.0 other.1))

    pub clips_by : nat_lt 0 n ≡ list_any (is_clipped_by id) (objects_in (states_now t))
    clips_by = go (nat_lt 0 n) refl where
      go : (b : Bool) → nat_lt 0 n ≡ b → b ≡ list_any (is_clipped_by id) (objects_in (states_now t))
      go true e = sym (some_clipped (grind (arith, nat_tests)))
      go false e = sym (none_clipped (grind (arith, nat_tests)))
