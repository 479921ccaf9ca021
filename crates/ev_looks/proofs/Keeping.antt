-- Kept looks stay those of their objects.
use Rattle.std.proofs.Common.{◌≡◌, ℕ, zero, suc, ◌≤◌, true, false, List, [], ◌∷◌, map, length, Option, Some, None, inl, inr, refl, sym, ap, ap₂, ◌∙◌, subst, arith}
use Rattle.std.specs.Option.{option_and_then}
use Rattle.std.proofs.Math.Bool.{true≢false}
use Rattle.std.proofs.lemmas.List.{length-map}
use Rattle.std.proofs.lemmas.Option.{none-some}
use Rattle.ev_state.specs.Held.{Held}
use Rattle.ev_model.specs.Look.{Look}
use Rattle.ev_model.specs.Up.{with_id}
use Rattle.ev_model.specs.declared.object.Object.{Object}
use Rattle.ev_slots.specs.Seats.{HavePlaces}
use Rattle.ev_slots.specs.Slots.{Slots, of_id, seat}
use Rattle.ev_records.specs.Showing.{Showing, nothing, showing, settled, Shows}
use Rattle.ev_track.specs.Tracks.{Tracks, slots_in, now_in, was_in}
use Rattle.ev_looks.specs.KeptLooks.{Shown, AreLooksOf}
use Rattle.ev_looks.specs.PlacedStates.{state_at, objects_in, states_now, stage_in, seen, ShowLooks, AreApart, HaveEnds}
use Rattle.ev_looks.specs.Refreshes.{IsStill}
use Rattle.ev_looks.specs.Seated.{AreSeated, KeepsSeats}
use Rattle.ev_looks.proofs.Placing.{at_now, same_objects}
use Rattle.ev_looks.proofs.Seating.{now_of, still_seated}

-- no objects, and no looks
pub none_kept : (t : Tracks Object) → t.was ≡ [] → AreLooksOf (record { all = []; w = 0; h = 0; stale = false }) t
none_kept t none = record {
  seated = record {
    given = λ place l shows. absurd (never l shows);
    seated = λ place l shows there. absurd (never l shows);
  };
  within = λ place past. ap (λ was. state_at was place) none;
  apart = λ i j s r a b same. absurd (none-some s (sym (ap (λ was. state_at was i) none) ∙ a));
  ended = λ u there. absurd (none-some u (sym (ap (λ was. with_id (objects_in was) u.id) none) ∙ there));
  looks = λ fresh place. sym (ap (λ was. seen (stage_in 0 0 was) (state_at was place)) none);
} where
  never : (l : Look) → Shows nothing l → ⊥
  never l (inl is) = none-some l is
  never l (inr is) = none-some l is

-- lists that show the same in each place
pub same_seated : {T : Type 0} (s : Slots T) (old new : List Showing) → ((place : ℕ) → showing new place ≡ showing old place) → AreSeated s old → AreSeated s new
same_seated s old new same are = record {
  given = λ place l shows. are.given place l (subst (λ one. Shows one l) (same place) shows);
  seated = λ place l shows there. are.seated place l (subst (λ one. Shows one l) (same place) shows) there;
}

module _ (k : Shown) (t : Tracks Object) (are : AreLooksOf k t) where
  -- more places, and nothing else
  pub kept_grown : (new : List Showing) → ((place : ℕ) → showing new place ≡ showing k.all place) → length k.all ≤ length new → AreLooksOf (record { all = new; w = k.w; h = k.h; stale = k.stale }) t
  kept_grown new same more = record {
    seated = same_seated (slots_in t) k.all new same are.seated;
    within = λ place past. are.within place (omega (arith, past, more));
    apart = are.apart;
    ended = are.ended;
    looks = λ fresh place. ap (λ (one : Showing). one.now) (same place) ∙ are.looks fresh place;
  }

  -- looks that may be wrong
  pub kept_stale : (new : List Showing) → AreSeated (slots_in t) new → length k.all ≤ length new → AreLooksOf (record { all = new; w = k.w; h = k.h; stale = true }) t
  kept_stale new seated more = record {
    seated = seated;
    within = λ place past. are.within place (omega (arith, past, more));
    apart = are.apart;
    ended = are.ended;
    looks = λ fresh. absurd (true≢false fresh);
  }

  -- a start was accepted
  pub kept_settled : AreLooksOf (record { all = map settled k.all; w = k.w; h = k.h; stale = k.stale }) t
  kept_settled = record {
    seated = record {
      given = λ place l shows. are.seated.given place l (inr (now_of k.all place l shows));
      seated = λ place l shows there. are.seated.seated place l (inr (now_of k.all place l shows)) there;
    };
    within = λ place past. are.within place (let e = length-map k.all settled in omega (arith, past, e));
    apart = are.apart;
    ended = are.ended;
    looks = λ fresh place. now_stays k.all place ∙ are.looks fresh place;
  } where
    now_stays : (all : List Showing) (place : ℕ) → (showing (map settled all) place).now ≡ (showing all place).now
    now_stays [] place = refl
    now_stays (one ∷ all) zero = refl
    now_stays (one ∷ all) (suc place) = now_stays all place

  -- an edit of the objects keeps what stood in their places, and no id sits where it didn't sit
  pub kept_on : (t' : Tracks Object) → HavePlaces (slots_in t) → HavePlaces (slots_in t') → KeepsSeats (slots_in t) (slots_in t') → t'.was ≡ t.was → AreLooksOf k t'
  kept_on t' laws laws' keeps same = record {
    seated = still_seated (slots_in t) (slots_in t') k.all laws laws' keeps are.seated;
    within = λ place past. ap (λ was. state_at was place) same ∙ are.within place past;
    apart = subst (λ was. AreApart was) (sym same) are.apart;
    ended = subst (λ was. HaveEnds (objects_in was)) (sym same) are.ended;
    looks = λ fresh. subst (λ was. ShowLooks k.w k.h was k.all) (sym same) (are.looks fresh);
  }

-- all was looked at, and the changes were settled
module _ (all : List Showing) (w h : ℕ) (t t' : Tracks Object) (slots : t'.slots ≡ t.slots) (seats : t'.seats ≡ t.seats) (places : t'.places ≡ t.places) (room : t'.room ≡ t.room)
    (same : (place : ℕ) → was_in t' place ≡ now_in t' place) where
  slots_same : slots_in t' ≡ slots_in t
  slots_same =
      let make : List (Option (Held Object)) → List (Option ℕ) → ℕ → ℕ → Slots (Held Object) = λ slots seats places room. record { slots = slots; seats = seats; places = places; room = room } in
      ap₂ (λ slots seats. make slots seats t'.places t'.room) slots seats ∙ ap₂ (make t.slots t.seats) places room

  pub states_same : states_now t' ≡ states_now t
  states_same = ap₂ (λ slots seats. map (λ id. option_and_then (of_id slots) id) seats) slots seats

  was_same : (place : ℕ) → state_at t'.was place ≡ state_at (states_now t) place
  was_same place = same place ∙ sym (at_now t'.slots t'.seats place) ∙ ap (λ states. state_at states place) states_same

  pub kept_fresh : HavePlaces (slots_in t') → AreSeated (slots_in t) all → t'.places ≤ length all → AreApart (states_now t) → HaveEnds (objects_in (states_now t)) → ShowLooks w h (states_now t) all
      → AreLooksOf (record { all = all; w = w; h = h; stale = false }) t'
  kept_fresh laws seated enough apart ended shows = record {
    seated = subst (λ s. AreSeated s all) (sym slots_same) seated;
    within = λ place past. same place ∙ ap (option_and_then (of_id t'.slots)) (vacant place past (seat t'.seats place) refl);
    apart = λ i j s r a b. apart i j s r (sym (was_same i) ∙ a) (sym (was_same j) ∙ b);
    ended = subst (λ objects. HaveEnds objects) (sym objects_same) ended;
    looks = λ fresh place. shows place ∙ ap₂ (λ objects state. seen (record { w = w; h = h; objects = objects }) state) (sym objects_same) (sym (was_same place));
  } where
    objects_same : objects_in t'.was ≡ objects_in (states_now t)
    objects_same = same_objects t'.was (states_now t) was_same

    vacant : (place : ℕ) → length all ≤ place → (id : Option ℕ) → seat t'.seats place ≡ id → seat t'.seats place ≡ None
    vacant place past None is = is
    vacant place past (Some id) is = let low = laws.inside place id is in absurd (omega (arith, low, enough, past))

-- looks on a canvas of the same size
pub shown_on : (w w' h h' : ℕ) (was : List (Option (Held Object))) (all : List Showing) → w ≡ w' → h ≡ h' → ShowLooks w h was all → ShowLooks w' h' was all
shown_on w w' h h' was all width height shows = subst (λ w. ShowLooks w h' was all) width (subst (λ h. ShowLooks w h was all) height shows)

-- past the places that are kept nothing stands, and nothing stood
pub still_past : (t : Tracks Object) (all : List Showing) → HavePlaces (slots_in t) → ((place : ℕ) → length all ≤ place → state_at t.was place ≡ None) → t.places ≤ length all
    → (place : ℕ) → length all ≤ place → IsStill t place
still_past t all laws within enough place past = at_now t.slots t.seats place ∙ ap (option_and_then (of_id t.slots)) (vacant (seat t.seats place) refl) ∙ sym (within place past) where
  vacant : (id : Option ℕ) → seat t.seats place ≡ id → seat t.seats place ≡ None
  vacant None is = is
  vacant (Some id) is = let low = laws.inside place id is in absurd (omega (arith, low, enough, past))
