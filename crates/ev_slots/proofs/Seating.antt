-- Ids and the places in which they sit, as they are kept.
use Rattle.std.proofs.Common.{◌≡◌, ◌≢◌, ℕ, zero, suc, Bool, true, false, ◌<◌, ◌≤◌, ◌==◌, is_some, length, if◌then◌else◌, List, [], ◌∷◌, Option, Some, None, inl, inr, refl, sym, ap, ◌∙◌, arith}
use Rattle.std.specs.List.{slice_index_or, slice_set}
use Rattle.std.specs.Option.{option_and_then}
use Rattle.std.proofs.Math.Bool.{true≢false}
use Rattle.std.proofs.lemmas.Bool.Decides.{eqb_tells}
use Rattle.std.proofs.lemmas.Option.{none-some, same_Some}
use Rattle.ev_slots.specs.Slots.{seat}
use Rattle.ev_slots.specs.Seats.{HavePlaces, SitsDown, StandsUp}
use Rattle.ev_slots.specs.KeptPlaces.{id_in, thing_in, thing_of, up_to, seats_of, IsKept, Enters}
use Rattle.ev_slots.specs.declared.slots.Entry.{Entry}
use Rattle.ev_slots.proofs.Keeping.{stands}

module _ {T : Type 0} where
  abbrev at : List (Option (Entry T)) → ℕ → Option (Entry T)
  at entries place = slice_index_or entries place None

  pub seat_of : (entries : List (Option (Entry T))) (place : ℕ) → seat (seats_of entries) place ≡ id_in (at entries place)
  seat_of [] place = refl
  seat_of (entry ∷ entries) zero = refl
  seat_of (entry ∷ entries) (suc place) = seat_of entries place

  chosen : (b : Bool) (x y : Option (Entry T)) (i j : Option ℕ) → id_in x ≡ i → j ≡ id_in y → id_in (if b then x else y) ≡ (if b then i else j)
  chosen true x y i j one other = one
  chosen false x y i j one other = sym other

  pub sits_down : (old new : List (Option (Entry T))) (p p' : ℕ → Option ℕ) (taken taken' id : ℕ) (thing : T)
      → Enters p (at old) taken id thing p' (at new) taken' → SitsDown (seats_of old) (seats_of new) id
  sits_down old new p p' taken taken' id thing enters = record {
    place = enters.place;
    free = seat_of old enters.place ∙ ap id_in enters.free;
    seated = λ q. seat_of new q ∙ ap id_in (enters.has q)
        ∙ chosen (q == enters.place) (Some (record { id = id; thing = thing })) (at old q) (Some id) (seat (seats_of old) q) refl (seat_of old q);
  }

  pub stands_up : (old new : List (Option (Entry T))) (id place : ℕ) (x : Entry T) → at old place ≡ Some x → x.id ≡ id
      → at new place ≡ None → ((other : ℕ) → other ≢ place → at new other ≡ at old other) → StandsUp (seats_of old) (seats_of new) id
  stands_up old new id place x there own gone others = record {
    place = place;
    sat = seat_of old place ∙ ap id_in there ∙ ap Some own;
    seated = λ q. seat_of new q
        ∙ elim (eqb_tells q place) [
          | inl here ↦ rw here.0 (ap id_in (ap (at new) here.1 ∙ gone))
          | inr differ ↦ rw differ.0 (ap id_in (others q differ.1) ∙ sym (seat_of old q))
        ];
  }

  within : (entries : List (Option (Entry T))) (place : ℕ) (x : Entry T) → at entries place ≡ Some x → place < length entries
  within [] place x there = absurd (none-some x there)
  within (entry ∷ entries) zero x there = omega arith
  within (entry ∷ entries) (suc place) x there = let rest = within entries place x there in omega (arith, rest)

  module _ (given : ℕ) (p : ℕ → Option ℕ) (entries : List (Option (Entry T))) (taken : ℕ) (kept : IsKept given p (at entries) taken) where
    -- the entry of an id that sits in a place
    entry_in : (place id : ℕ) (P : Type 0) → seat (seats_of entries) place ≡ Some id → ((x : Entry T) → at entries place ≡ Some x → p id ≡ Some place → P) → P
    entry_in place id P sits goes = go (at entries place) refl (sym (seat_of entries place) ∙ sits) where
      go : (entry : Option (Entry T)) → at entries place ≡ entry → id_in entry ≡ Some id → P
      go None is own = absurd (none-some id own)
      go (Some x) is own = goes x is (ap p (sym (same_Some x.id id own)) ∙ kept.back place x is)

    pub leads_as : (place id : ℕ) → (p id ≡ Some place → seat (seats_of entries) place ≡ Some id) × (seat (seats_of entries) place ≡ Some id → p id ≡ Some place)
    leads_as place id =
        (λ leads. seat_of entries place ∙ kept.leads id place leads, λ sits. entry_in place id (p id ≡ Some place) sits (λ x there leads. leads))

    pub have_places : (places room : ℕ) → length entries ≤ places
        → HavePlaces (record { slots = up_to (thing_of p (at entries)) given; seats = seats_of entries; places = places; room = room })
    have_places places room few = record {
      there = λ place id sits.
          entry_in place id _ sits (λ x there leads. ap is_some (stands given p (at entries) taken kept id ∙ ap (λ q. thing_in (option_and_then (at entries) q)) leads ∙ ap thing_in there));
      seated = λ id some. go id (p id) refl (ap is_some (sym (stands given p (at entries) taken kept id)) ∙ some);
      one = λ i j id at_i at_j. same_Some i j (sym ((leads_as i id).1 at_i) ∙ (leads_as j id).1 at_j);
      inside = λ place id sits. entry_in place id _ sits (λ x there leads. let low = within entries place x there in omega (arith, low, few));
    } where
      go : (id : ℕ) (q : Option ℕ) → p id ≡ q → is_some (thing_of p (at entries) id) ≡ true → (place : ℕ) × (seat (seats_of entries) place ≡ Some id)
      go id None leads some = absurd (true≢false (sym some ∙ ap (λ q. is_some (thing_in (option_and_then (at entries) q))) leads))
      go id (Some place) leads some = (place, (leads_as place id).0 leads)

  -- another thing of the same id
  pub seats_stay : (entries : List (Option (Entry T))) (place : ℕ) (x y : Entry T) → at entries place ≡ Some x → y.id ≡ x.id
      → seats_of (slice_set entries place (Some y)) ≡ seats_of entries
  seats_stay [] place x y there own = refl
  seats_stay (None ∷ entries) zero x y there own = absurd (none-some x there)
  seats_stay (Some z ∷ entries) zero x y there own = ap (λ id. Some id ∷ seats_of entries) (own ∙ sym (ap (λ (e : Entry T). e.id) (same_Some z x there)))
  seats_stay (entry ∷ entries) (suc place) x y there own = ap (λ ids. id_in entry ∷ ids) (seats_stay entries place x y there own)
