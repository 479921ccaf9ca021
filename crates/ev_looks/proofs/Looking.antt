-- Places that are looked at, one after another.
use Rattle.std.proofs.Common.{◌≡◌, ◌≢◌, ◌⊎◌, ℕ, ◌+◌, ◌≤◌, ◌<◌, List, length, Option, Some, None, Result, Ok, Err, OnOk, OnErr, inl, inr, refl, sym, ap, ◌∙◌, subst, arith}
use Rattle.std.specs.Option.{option_and_then}
use Rattle.std.proofs.lemmas.Bool.Decides.{eqb_tells}
use Rattle.std.proofs.lemmas.List.{get_or-set_other, get_or-set_same, length-set, get_or_past}
use Rattle.std.proofs.lemmas.Option.{none-some}
use Rattle.ev_state.specs.Held.{Held}
use Rattle.ev_model.specs.Look.{Look, look_of}
use Rattle.ev_model.specs.declared.object.Object.{Object}
use Rattle.ev_model.specs.declared.scene.Record.{Record}
use Rattle.ev_slots.specs.Slots.{of_id, seat}
use Rattle.ev_records.specs.Cells.{look_in, MayStand}
use Rattle.ev_records.specs.Showing.{Showing, nothing, showing, put}
use Rattle.ev_track.specs.Tracks.{slots_in}
use Rattle.ev_looks.specs.Grounds.{IsGround, stage_on}
use Rattle.ev_looks.specs.PlacedStates.{state_at, states_now, seen}
use Rattle.ev_looks.specs.Refreshes.{IsRight, LooksAt, IsRightOf, clipper_in, IsLookedAt}
use Rattle.ev_looks.specs.Seated.{AreSeated}
use Rattle.ev_looks.specs.declared.walk.Ground.{Ground}
use Rattle.ev_looks.proofs.Bounding.{IsLookOf, look_of_it}
use Rattle.ev_looks.proofs.Placing.{sat, at_now}
use Rattle.ev_looks.proofs.Seating.{may_stand, seated_put}

module _ (g : Ground) where
  pub not_looked : (all : List Showing) → AreSeated (slots_in g.objects.now) all → LooksAt g all all
  not_looked all seated = record { len = refl; was = λ place. refl; now = λ place. inr refl; seated = seated }

  pub stays_right : (a b : List Showing) → LooksAt g a b → (place : ℕ) → IsRight g a place → IsRight g b place
  stays_right a b looks place right = elim (looks.now place) [ inl now ↦ now | inr same ↦ same ∙ right ]

  pub looked_twice : (a b c : List Showing) → LooksAt g a b → LooksAt g b c → LooksAt g a c
  looked_twice a b c one other = record {
    len = other.len ∙ one.len;
    was = λ place. other.was place ∙ one.was place;
    now = λ place. elim (other.now place) [
      | inl right ↦ inl right
      | inr same ↦ elim (one.now place) [ inl right ↦ inl (same ∙ right) | inr before ↦ inr (same ∙ before) ]
    ];
    seated = other.seated;
  }

  pub stays_right_of : (a b : List Showing) → LooksAt g a b → (id : Option ℕ) → IsRightOf g a id → IsRightOf g b id
  stays_right_of a b looks id right one place is sits = stays_right a b looks place (right one place is sits)

  pub stays_looked : (a b : List Showing) → LooksAt g a b → (place : ℕ) → IsLookedAt g a place → IsLookedAt g b place
  stays_looked a b looks place at = record {
    own = stays_right a b looks place at.own;
    clippers = elim at.clippers [
      | inl same ↦ inl same
      | inr both ↦ inr (stays_right_of a b looks _ both.0, stays_right_of a b looks _ both.1)
    ];
  }

  module _ (ground : IsGround g) where
    -- past the places that are taken nothing is seen
    pub right_past : (all : List Showing) → g.objects.now.places ≤ length all → (place : ℕ) → length all ≤ place → IsRight g all place
    right_past all enough place past =
        ap (λ (one : Showing). one.now) (get_or_past all place nothing past)
        ∙ sym (ap (seen (stage_on g)) (at_now g.objects.now.slots g.objects.now.seats place ∙ ap (option_and_then (of_id g.objects.now.slots)) (vacant (seat g.objects.now.seats place) refl)))
      where
        vacant : (id : Option ℕ) → seat g.objects.now.seats place ≡ id → seat g.objects.now.seats place ≡ None
        vacant None is = is
        vacant (Some id) is = let low = ground.laws.inside place id is in absurd (omega (arith, low, enough, past))

    -- what is seen of what stands in a place, and who sits there
    seen_of : (place : ℕ) (l : Look) → seen (stage_on g) (state_at (states_now g.objects.now) place) ≡ Some l
        → (s : Held Object) × ((seat g.objects.now.seats place ≡ Some s.value.id) × IsLookOf s.value l)
    seen_of place l is = go (state_at (states_now g.objects.now) place) refl is where
      go : (state : Option (Held Object)) → state_at (states_now g.objects.now) place ≡ state → seen (stage_on g) state ≡ Some l
          → (s : Held Object) × ((seat g.objects.now.seats place ≡ Some s.value.id) × IsLookOf s.value l)
      go None at none = absurd (none-some l none)
      go (Some s) at is = (s, ((sat g.objects.now g.links.now ground.laws ground.tied place s at).sits, look_of_it (stage_on g) ground.width ground.height s.value l is))

    sits_there : (place : ℕ) (l : Look) → seen (stage_on g) (state_at (states_now g.objects.now) place) ≡ Some l → seat g.objects.now.seats place ≡ Some l.id
    sits_there place l is = let s = seen_of place l is in s.1.0 ∙ ap Some (sym s.1.1.id)

    module _ (all : List Showing) (seated : AreSeated (slots_in g.objects.now) all) (place : ℕ) where
      pub may_be_put : (one : Option Record) → look_in one ≡ seen (stage_on g) (state_at (states_now g.objects.now) place) → MayStand all place one
      may_be_put None is = tt
      may_be_put (Some r) is =
          let s = seen_of place (look_of r) (sym is) in
          may_stand (slots_in g.objects.now) all ground.laws seated place (look_of r) (sits_there place (look_of r) (sym is)) s.1.1.inside

      module _ (low : place < length all) (one : Option Look) (is : one ≡ seen (stage_on g) (state_at (states_now g.objects.now) place)) where
        here : showing (put all place one) place ≡ record { was = (showing all place).was; now = one }
        here = get_or-set_same all place (record { was = (showing all place).was; now = one }) nothing low

        elsewhere : (i : ℕ) → i ≢ place → showing (put all place one) i ≡ showing all i
        elsewhere i apart = get_or-set_other all place i (record { was = (showing all place).was; now = one }) nothing apart

        pub right_put : IsRight g (put all place one) place
        right_put = ap (λ (one : Showing). one.now) here ∙ is

        pub looked_put : LooksAt g all (put all place one)
        looked_put = record {
          len = length-set all place (record { was = (showing all place).was; now = one });
          was = λ i. elim (eqb_tells i place) [
            | inl same ↦ ap (λ i. (showing (put all place one) i).was) same.1 ∙ ap (λ (one : Showing). one.was) here ∙ sym (ap (λ i. (showing all i).was) same.1)
            | inr differ ↦ ap (λ (one : Showing). one.was) (elsewhere i differ.1)
          ];
          now = λ i. elim (eqb_tells i place) [
            | inl same ↦ inl (subst (λ i. IsRight g (put all place one) i) (sym same.1) right_put)
            | inr differ ↦ inr (ap (λ (one : Showing). one.now) (elsewhere i differ.1))
          ];
          seated = seated_put (slots_in g.objects.now) all ground.laws seated place low one (λ l there. sits_there place l (sym is ∙ there));
        }

        -- a record was put, or no memory was found for it
        pub put_looks : {T E : Type 0} (result : Result T E) (new : List Showing) → OnOk result (new ≡ put all place one) → OnErr result (new ≡ all) → LooksAt g all new
        put_looks (Ok done) new ok err = subst (λ new. LooksAt g all new) (sym ok) looked_put
        put_looks (Err cause) new ok err = subst (λ new. LooksAt g all new) (sym err) (not_looked all seated)

        pub put_right : {T E : Type 0} (result : Result T E) (new : List Showing) → OnOk result (new ≡ put all place one) → OnOk result (IsRight g new place)
        put_right (Ok done) new ok = subst (λ new. IsRight g new place) (sym ok) right_put
        put_right (Err cause) new ok = tt

  -- the place of an id
  pub right_of_none : (all : List Showing) → IsRightOf g all None
  right_of_none all one place is sits = absurd (none-some one is)

  pub right_of_nowhere : (all : List Showing) (id : ℕ) → ((place : ℕ) → seat g.objects.now.seats place ≡ Some id → ⊥) → IsRightOf g all (Some id)
  right_of_nowhere all id none one place is sits = absurd (none place (sits ∙ sym is))

  pub right_of_place : (all : List Showing) (id place : ℕ) → ((q : ℕ) → seat g.objects.now.seats q ≡ Some id → q ≡ place) → IsRight g all place → IsRightOf g all (Some id)
  right_of_place all id place alone right one q is sits = subst (λ q. IsRight g all q) (sym (alone q (sits ∙ sym is))) right

  -- a place was looked at, and its clippers where they differ
  pub looked_alone : (all : List Showing) (place : ℕ) → IsRight g all place → clipper_in (state_at g.objects.now.was place) ≡ clipper_in (state_at (states_now g.objects.now) place) → IsLookedAt g all place
  looked_alone all place right same = record { own = right; clippers = inl same }

  -- what was done before a call stays done
  pub done_stays : (P : ℕ → Type 0) (a b : List Showing) → LooksAt g a b → (n : ℕ) → ((p : ℕ) → p < n → P p ⊎ IsLookedAt g a p) → (p : ℕ) → p < n → P p ⊎ IsLookedAt g b p
  done_stays P a b looks n done p low = elim (done p low) [ inl still ↦ inl still | inr at ↦ inr (stays_looked a b looks p at) ]

  -- one place more is right
  pub right_more : (a b : List Showing) → LooksAt g a b → (place : ℕ) → ((p : ℕ) → p < place → IsRight g a p) → IsRight g b place → (p : ℕ) → p < place + 1 → IsRight g b p
  right_more a b looks place done here p low = elim (eqb_tells p place) [
    | inl same ↦ subst (λ p. IsRight g b p) (sym same.1) here
    | inr differ ↦ stays_right a b looks p (done p (let apart = differ.1 in omega (arith, low, apart)))
  ]
