-- What is shown once the places that have to be were looked at.
use Rattle.std.proofs.Common.{◌≡◌, ◌⊎◌, ℕ, ◌≤◌, ◌<◌, Bool, true, false, is_some, List, length, Option, Some, None, option_map, Result, Ok, Err, OnOk, inl, inr, refl, sym, ap, ◌∙◌}
use Rattle.std.specs.List.{list_any}
use Rattle.std.specs.FinMap.{get}
use Rattle.std.specs.Option.{option_or}
use Rattle.std.proofs.Math.Bool.{true≢false}
use Rattle.std.proofs.lemmas.Bool.Decides.{leb_tells}
use Rattle.std.proofs.lemmas.Option.{none-some}
use Rattle.ev_state.specs.Held.{Held}
use Rattle.ev_model.specs.Look.{look}
use Rattle.ev_model.specs.Stage.{Stage}
use Rattle.ev_model.specs.Up.{with_id, clips, is_clipped_by}
use Rattle.ev_model.specs.declared.object.Object.{Object}
use Rattle.ev_slots.specs.Seats.{HavePlaces}
use Rattle.ev_slots.specs.Slots.{seat}
use Rattle.ev_links.specs.Ties.{Ties, IsSound}
use Rattle.ev_records.specs.Showing.{Showing, showing}
use Rattle.ev_track.specs.Tracks.{Tracks, slots_in}
use Rattle.ev_looks.specs.Grounds.{AreTied, IsGround, stage_on}
use Rattle.ev_looks.specs.PlacedStates.{state_at, objects_in, states_now, stage_in, seen, ShowLooks, AreApart, HaveEnds}
use Rattle.ev_looks.specs.Reached.{left_by, LeaveSame}
use Rattle.ev_looks.specs.Refreshes.{IsStill, IsShallow, IsRight, LooksAt, clipper_in, IsRightOf, IsLookedAt}
use Rattle.ev_looks.specs.declared.walk.Ground.{Ground}
use Rattle.ev_looks.proofs.Ending.{now_ended, over_there}
use Rattle.ev_looks.proofs.Leaving.{own_id, looks_same}
use Rattle.ev_looks.proofs.Placing.{IsIn, found_in, finds, sat, now_apart, Passes, passing, passes, clipper_is, is_clipper}

module _ (t : Tracks Object) (ties : Ties) (laws : HavePlaces (slots_in t)) (tied : AreTied t ties) (sound : IsSound (get ties)) where
  module _ (apart : AreApart t.was) (shallow : (place : ℕ) → IsStill t place ⊎ IsShallow t place) where
    -- what an object that stands now left before, where another one stands below it
    left_before : (u : Object) (id : ℕ) → with_id (objects_in (states_now t)) u.id ≡ Some u → option_or u.clipper u.parent ≡ Some id
        → (v : Object) → with_id (objects_in (states_now t)) id ≡ Some v → option_map left_by (with_id (objects_in t.was) id) ≡ Some (left_by v)
    left_before u id there is v found = go (shallow f.place) where
      f : IsIn (states_now t) v
      f = found_in (states_now t) id v found

      own : f.state.value.id ≡ id
      own = ap (λ (o : Object). o.id) f.is ∙ own_id (objects_in (states_now t)) id v found

      before : (s : Held Object) → state_at t.was f.place ≡ Some s → s.value.id ≡ f.state.value.id → with_id (objects_in t.was) id ≡ Some s.value
      before s stood same = ap (with_id (objects_in t.was)) (sym (same ∙ own)) ∙ finds t.was apart f.place s stood

      go : IsStill t f.place ⊎ IsShallow t f.place → option_map left_by (with_id (objects_in t.was) id) ≡ Some (left_by v)
      go (inl still) = ap (option_map left_by) (before f.state (sym still ∙ f.at) refl) ∙ ap (λ o. Some (left_by o)) f.is
      go (inr shallow) = elim (shallow f.state f.at) [
        | inl same ↦ ap (option_map left_by) (before same.was same.stood same.id) ∙ ap Some same.left ∙ ap (λ o. Some (left_by o)) f.is
        | inr none ↦ absurd (none u there (is ∙ ap Some (sym own)))
      ]

    leave_same : LeaveSame (objects_in t.was) (objects_in (states_now t))
    leave_same u id there is = go (with_id (objects_in (states_now t)) id) refl (over_there t ties laws tied sound u id there is) where
      go : (x : Option Object) → with_id (objects_in (states_now t)) id ≡ x → is_some (with_id (objects_in (states_now t)) id) ≡ true
          → option_map left_by (with_id (objects_in t.was) id) ≡ option_map left_by (with_id (objects_in (states_now t)) id)
      go None none some = absurd (true≢false (sym some ∙ ap is_some none))
      go (Some v) found some = left_before u id there is v found ∙ sym (ap (option_map left_by) found)

module _ (g : Ground) (ground : IsGround g) (apart : AreApart g.objects.now.was) (ended : HaveEnds (objects_in g.objects.now.was)) where
  abbrev t : Tracks Object
  t = g.objects.now

  abbrev before : Stage
  before = stage_in g.w g.h t.was

  module _ (all : List Showing) (looked : (place : ℕ) → IsStill t place ⊎ IsLookedAt g all place) (place : ℕ) (s : Held Object) (at : state_at (states_now t) place ≡ Some s) where
    -- who has it as its clipper in one of two scenes, but not in the other, was looked at
    looked_for : (r : ℕ) (x : Held Object) → x.value.clipper ≡ Some s.value.id → (state_at t.was r ≡ Some x) ⊎ (state_at (states_now t) r ≡ Some x)
        → (clipper_in (state_at t.was r) ≡ clipper_in (state_at (states_now t) r)) ⊎ IsRight g all place
    looked_for r x is stands = elim (looked r) [
      | inl still ↦ inl (ap clipper_in (sym still))
      | inr at ↦ elim at.clippers [ inl same ↦ inl same | inr both ↦ inr (right both stands) ]
    ] where
      sits : seat t.seats place ≡ Some s.value.id
      sits = (sat t g.links.now ground.laws ground.tied place s at).sits

      right : IsRightOf g all (clipper_in (state_at t.was r)) × IsRightOf g all (clipper_in (state_at (states_now t) r))
          → (state_at t.was r ≡ Some x) ⊎ (state_at (states_now t) r ≡ Some x) → IsRight g all place
      right both (inl was) = both.0 s.value.id place (ap clipper_in was ∙ is) sits
      right both (inr now) = both.1 s.value.id place (ap clipper_in now ∙ is) sits

    -- a state with this clipper
    with_clipper : (states : List (Option (Held Object))) (r : ℕ) → clipper_in (state_at states r) ≡ Some s.value.id → list_any (is_clipped_by s.value.id) (objects_in states) ≡ true
    with_clipper states r is = go (state_at states r) refl is where
      go : (x : Option (Held Object)) → state_at states r ≡ x → clipper_in x ≡ Some s.value.id → list_any (is_clipped_by s.value.id) (objects_in states) ≡ true
      go None at none = absurd (none-some s.value.id none)
      go (Some x) at is = passes (is_clipped_by s.value.id) states r x at (is_clipper s.value.id x.value is)

    -- whether it clips another is the same, or its place was looked at
    clips_stay : (clips before s.value ≡ clips (stage_on g) s.value) ⊎ IsRight g all place
    clips_stay = go (clips before s.value) (clips (stage_on g) s.value) refl refl where
      from_was : Passes (is_clipped_by s.value.id) t.was → clips (stage_on g) s.value ≡ false → IsRight g all place
      from_was p none =
          let is = clipper_is s.value.id p.state.value p.holds in
          elim (looked_for p.place p.state is (inl p.at)) [
            | inl same ↦ absurd (true≢false (sym (with_clipper (states_now t) p.place (sym same ∙ ap clipper_in p.at ∙ is)) ∙ none))
            | inr right ↦ right
          ]

      from_now : Passes (is_clipped_by s.value.id) (states_now t) → clips before s.value ≡ false → IsRight g all place
      from_now p none =
          let is = clipper_is s.value.id p.state.value p.holds in
          elim (looked_for p.place p.state is (inr p.at)) [
            | inl same ↦ absurd (true≢false (sym (with_clipper t.was p.place (same ∙ ap clipper_in p.at ∙ is)) ∙ none))
            | inr right ↦ right
          ]

      go : (b c : Bool) → clips before s.value ≡ b → clips (stage_on g) s.value ≡ c → (clips before s.value ≡ clips (stage_on g) s.value) ⊎ IsRight g all place
      go true true e f = inl (e ∙ sym f)
      go false false e f = inl (e ∙ sym f)
      go true false e f = inr (from_was (passing (is_clipped_by s.value.id) t.was e) f)
      go false true e f = inr (from_now (passing (is_clipped_by s.value.id) (states_now t) f) e)

    module _ (shallow : (place : ℕ) → IsStill t place ⊎ IsShallow t place) (stood : state_at t.was place ≡ Some s) where
      -- what is seen of an object that stood there already
      look_stays : (look before s.value ≡ look (stage_on g) s.value) ⊎ IsRight g all place
      look_stays = elim clips_stay [
        | inr right ↦ inr right
        | inl same ↦
            let there : with_id (objects_in (states_now t)) s.value.id ≡ Some s.value = finds (states_now t) (now_apart t g.links.now ground.laws ground.tied) place s at in
            inl (looks_same before (stage_on g) s.value (record {
              width = refl;
              height = refl;
              there = there;
              left = leave_same t g.links.now ground.laws ground.tied ground.sound apart shallow;
              ended = ended s.value (finds t.was apart place s stood);
              ends = now_ended t g.links.now ground.laws ground.tied ground.sound s.value there;
              clips = same;
            }))
      ]

  -- each place shows what is seen
  pub all_right : (old new : List Showing) → ShowLooks g.w g.h t.was old → LooksAt g old new → ((place : ℕ) → IsStill t place ⊎ IsLookedAt g new place)
      → ((place : ℕ) → IsStill t place ⊎ IsShallow t place) → (place : ℕ) → IsRight g new place
  all_right old new shows looks looked shallow place = elim (looked place) [
    | inr at ↦ at.own
    | inl still ↦ elim (looks.now place) [ inl right ↦ right | inr same ↦ kept still same (state_at (states_now t) place) refl ]
  ] where
    kept : IsStill t place → (showing new place).now ≡ (showing old place).now → (x : Option (Held Object)) → state_at (states_now t) place ≡ x → IsRight g new place
    kept still same None none = same ∙ shows place ∙ ap (seen before) (sym still ∙ none) ∙ sym (ap (seen (stage_on g)) none)
    kept still same (Some s) at =
        let stood : state_at t.was place ≡ Some s = sym still ∙ at in
        elim (look_stays new looked place s at shallow stood) [
          | inr right ↦ right
          | inl stays ↦ same ∙ shows place ∙ ap (seen before) stood ∙ stays ∙ sym (ap (seen (stage_on g)) at)
        ]

  -- so it is after a call that found memory, where less than all was looked at
  pub all_right_where_done : {T E : Type 0} (result : Result T E) (old new : List Showing) → ShowLooks g.w g.h t.was old → LooksAt g old new
      → OnOk result ((place : ℕ) → place < length old → IsStill t place ⊎ IsLookedAt g new place) → ((place : ℕ) → place < length old → IsStill t place ⊎ IsShallow t place)
      → ((place : ℕ) → length old ≤ place → IsStill t place) → OnOk result ((place : ℕ) → IsRight g new place)
  all_right_where_done (Err cause) old new shows looks looked shallow past = tt
  all_right_where_done (Ok done) old new shows looks looked shallow past = all_right old new shows looks (everywhere looked) (everywhere shallow) where
    everywhere : {P : ℕ → Type 0} → ((place : ℕ) → place < length old → IsStill t place ⊎ P place) → (place : ℕ) → IsStill t place ⊎ P place
    everywhere below place = elim (leb_tells (length old) place) [ inl high ↦ inl (past place high.1) | inr low ↦ below place low.1 ]
