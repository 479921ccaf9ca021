-- What is changed in one place is marked there.
use Rattle.std.proofs.Common.{◌≡◌, ◌≢◌, ℕ, ◌+◌, Bool, true, false, ◌<◌, ◌==◌, if◌then◌else◌, is_some, List, [], ◌∷◌, ◌++◌, length, OnSome, Option, Some, None, inl, inr, refl, sym, ap, ◌∙◌, subst, arith}
use Rattle.std.specs.Option.{option_and_then}
use Rattle.std.proofs.Math.Bool.{true≢false}
use Rattle.std.proofs.lemmas.Bool.Decides.{eqb_tells, nat_tests}
use Rattle.std.proofs.lemmas.Option.{none-some}
use Rattle.ev_state.specs.Held.{Held}
use Rattle.ev_slots.specs.Slots.{Slots, of_id, put, seat}
use Rattle.ev_slots.specs.Seats.{HavePlaces, IsSeated, SitsDown, StandsUp}
use Rattle.ev_slots.proofs.Places.{of_id_put, of_id_end, past_end}
use Rattle.ev_track.specs.Marked.{is_marked}
use Rattle.ev_track.specs.Tracks.{state_in, IsTracked}

-- a place was marked
abbrev pub IsMarkedAt : List Bool → List Bool → ℕ → Type 0
IsMarkedAt old new place = (other : ℕ) → is_marked new other ≡ (if other == place then true else is_marked old other)

module _ {T : Type 0} (s : Slots (Held T)) (was : List (Option (Held T))) (marks : List Bool) (tracked : IsTracked s.slots s.seats was marks)
    (marks' : List Bool) (place : ℕ) (marked : IsMarkedAt marks marks' place) (len : length marks' ≡ length marks) where
  changed : (slots' : List (Option (Held T))) (seats' : List (Option ℕ)) → ((q id : ℕ) → seat seats' q ≡ Some id → q < length marks)
      → ((q : ℕ) → q ≢ place → state_in slots' seats' q ≡ state_in s.slots s.seats q) → IsTracked slots' seats' was marks'
  changed slots' seats' seated elsewhere = record {
    seated = λ q id sits. subst (λ n. q < n) (sym len) (seated q id sits);
    same = λ q bare. elim (eqb_tells q place) [
      | inl here ↦ absurd (true≢false (sym (marked q ∙ ap (λ b. if b then true else is_marked marks q) here.0) ∙ bare))
      | inr differ ↦ elsewhere q differ.1 ∙ tracked.same q (sym (marked q ∙ ap (λ b. if b then true else is_marked marks q) differ.0) ∙ bare)
    ];
  }

  -- nothing else
  pub only_marked : IsTracked s.slots s.seats was marks'
  only_marked = changed s.slots s.seats tracked.seated (λ q apart. refl)

  module _ (laws : HavePlaces s) (id : ℕ) (sits : seat s.seats place ≡ Some id) where
    -- something else for the id of this place is seen nowhere else
    seen_there : (y : Option (Held T)) (q : ℕ) (at : Option ℕ) → q ≢ place → seat s.seats q ≡ at → option_and_then (of_id (put s.slots id y)) at ≡ option_and_then (of_id s.slots) at
    seen_there y q None apart is = refl
    seen_there y q (Some other) apart is = go (of_id s.slots id) refl where
      differs : other ≢ id
      differs same = apart (laws.one q place id (is ∙ ap Some same) sits)

      go : (x : Option (Held T)) → of_id s.slots id ≡ x → of_id (put s.slots id y) other ≡ of_id s.slots other
      go None none = absurd (true≢false (sym (laws.there place id sits) ∙ ap is_some none))
      go (Some x) there = of_id_put s.slots id other x y there ∙ elim (eqb_tells other id) [ inl here ↦ absurd (differs here.1) | inr differ ↦ rw differ.0 refl ]

    pub written : (w : Held T) → IsTracked (put s.slots id (Some w)) s.seats was marks'
    written w = changed (put s.slots id (Some w)) s.seats tracked.seated (λ q apart. seen_there (Some w) q (seat s.seats q) apart refl)

    pub taken : (slots' : List (Option (Held T))) (seats' : List (Option ℕ)) → slots' ≡ put s.slots id None → StandsUp s.seats seats' id → IsTracked slots' seats' was marks'
    taken slots' seats' is stands = changed slots' seats' (λ q other at. seated q other (q == place) refl at) elsewhere where
      here : stands.place ≡ place
      here = laws.one stands.place place id stands.sat sits

      seat_at : (q : ℕ) → seat seats' q ≡ (if q == place then None else seat s.seats q)
      seat_at = subst (λ place. IsSeated s.seats seats' place None) here stands.seated

      seated : (q other : ℕ) (b : Bool) → (q == place) ≡ b → seat seats' q ≡ Some other → q < length marks
      seated q other true is at = absurd (none-some other (sym (seat_at q ∙ ap (λ b. if b then None else seat s.seats q) is) ∙ at))
      seated q other false is at = tracked.seated q other (sym (seat_at q ∙ ap (λ b. if b then None else seat s.seats q) is) ∙ at)

      elsewhere : (q : ℕ) → q ≢ place → state_in slots' seats' q ≡ state_in s.slots s.seats q
      elsewhere q apart =
          elim (eqb_tells q place) [
            | inl same ↦ absurd (apart same.1)
            | inr differ ↦
                ap (λ at. option_and_then (of_id slots') at) (seat_at q ∙ ap (λ b. if b then None else seat s.seats q) differ.0)
                ∙ ap (λ slots. option_and_then (of_id slots) (seat s.seats q)) is ∙ seen_there None q (seat s.seats q) apart refl
          ]

    pub taken_where_there : (result : Option (Held T)) (slots' : List (Option (Held T))) (seats' : List (Option ℕ)) → result ≡ of_id s.slots id
        → OnSome result (slots' ≡ put s.slots id None) → OnSome result (StandsUp s.seats seats' id) → IsTracked slots' seats' was marks'
    taken_where_there None slots' seats' is gone left = absurd (true≢false (sym (laws.there place id sits) ∙ ap is_some (sym is)))
    taken_where_there (Some x) slots' seats' is gone left = taken slots' seats' gone left

  -- one more state, for the next id
  pub pushed : HavePlaces s → place < length marks → (x : Held T) (slots' : List (Option (Held T))) (seats' : List (Option ℕ)) → slots' ≡ s.slots ++ Some x ∷ []
      → (id : ℕ) → IsSeated s.seats seats' place (Some id) → IsTracked slots' seats' was marks'
  pushed laws inside x slots' seats' is id sits = changed slots' seats' (λ q other at. seated q other (q == place) refl at) elsewhere where
    seated : (q other : ℕ) (b : Bool) → (q == place) ≡ b → seat seats' q ≡ Some other → q < length marks
    seated q other true same at = elim (eqb_tells q place) [ inl here ↦ subst (λ q. q < length marks) (sym here.1) inside | inr differ ↦ absurd (true≢false (sym same ∙ differ.0)) ]
    seated q other false same at = tracked.seated q other (sym (sits q ∙ ap (λ b. if b then Some id else seat s.seats q) same) ∙ at)

    seen : (at : Option ℕ) (q : ℕ) → seat s.seats q ≡ at → option_and_then (of_id (s.slots ++ Some x ∷ [])) at ≡ option_and_then (of_id s.slots) at
    seen None q at = refl
    seen (Some other) q at =
        of_id_end s.slots other (Some x)
        ∙ elim (eqb_tells other (length s.slots + 1)) [
          | inl here ↦ absurd (true≢false (sym (laws.there q other at) ∙ ap is_some (ap (of_id s.slots) here.1 ∙ past_end s.slots)))
          | inr differ ↦ rw differ.0 refl
        ]

    elsewhere : (q : ℕ) → q ≢ place → state_in slots' seats' q ≡ state_in s.slots s.seats q
    elsewhere q apart =
        elim (eqb_tells q place) [
          | inl same ↦ absurd (apart same.1)
          | inr differ ↦
              ap (λ at. option_and_then (of_id slots') at) (sits q ∙ ap (λ b. if b then Some id else seat s.seats q) differ.0)
              ∙ ap (λ slots. option_and_then (of_id slots) (seat s.seats q)) is ∙ seen (seat s.seats q) q refl
        ]

-- the place in which an id has sat down
pub sits_at : {T : Type 0} (s' : Slots (Held T)) (old : List (Option ℕ)) (id place : ℕ) → HavePlaces s' → SitsDown old s'.seats id → seat s'.seats place ≡ Some id
    → IsSeated old s'.seats place (Some id)
sits_at s' old id place laws down sits = subst (λ place. IsSeated old s'.seats place (Some id)) (laws.one down.place place id (down.seated down.place ∙ ap (λ b. if b then Some id else seat old down.place) (itself down.place)) sits) down.seated where
  itself : (n : ℕ) → (n == n) ≡ true
  itself n = grind (arith, nat_tests)
