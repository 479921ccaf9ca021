-- Looks stay in the places of their ids.
use Rattle.std.proofs.Common.{◌≡◌, ◌≢◌, ◌⊎◌, ℕ, zero, suc, ◌+◌, Bool, true, false, ◌≤◌, ◌<◌, ◌==◌, if◌then◌else◌, is_some, List, [], ◌∷◌, ◌++◌, length, map, Option, Some, None, inl, inr, refl, sym, ap, ◌∙◌, subst, arith}
use Rattle.std.proofs.Math.Bool.{true≢false}
use Rattle.std.proofs.lemmas.Bool.Decides.{eqb_tells}
use Rattle.std.proofs.lemmas.List.{get_or-set_other, get_or-set_same}
use Rattle.std.proofs.lemmas.Option.{none-some, same_Some}
use Rattle.ev_model.specs.Look.{Look}
use Rattle.ev_slots.specs.Slots.{Slots, of_id, seat}
use Rattle.ev_slots.proofs.Places.{id_low, id_high}
use Rattle.ev_slots.specs.Seats.{HavePlaces, SitsDown, StandsUp}
use Rattle.ev_records.specs.Showing.{Showing, nothing, showing, put, settled, Shows, IsOnCanvas, IsNewElsewhere}
use Rattle.ev_looks.specs.Seated.{AreSeated, KeepsSeats}

-- who sits where after one sat down, or stood up
pub keeps_pushed : {T U : Type 0} (old : Slots T) (new : Slots U) → length new.slots ≡ length old.slots + 1 → SitsDown old.seats new.seats (length new.slots) → KeepsSeats old new
keeps_pushed old new len down = record {
  more = omega (arith, len);
  same = λ place id low sits. go place id low (place == down.place) refl sits;
} where
  go : (place id : ℕ) → id ≤ length old.slots → (b : Bool) → (place == down.place) ≡ b → seat new.seats place ≡ Some id → seat old.seats place ≡ Some id
  go place id low true is sits =
      let e : length new.slots ≡ id = same_Some _ _ (sym (down.seated place ∙ ap (λ b. if b then Some (length new.slots) else seat old.seats place) is) ∙ sits) in
      absurd (omega (arith, len, e, low))
  go place id low false is sits = sym (down.seated place ∙ ap (λ b. if b then Some (length new.slots) else seat old.seats place) is) ∙ sits

pub keeps_taken : {T U : Type 0} (old : Slots T) (new : Slots U) (gone : ℕ) → length new.slots ≡ length old.slots → StandsUp old.seats new.seats gone → KeepsSeats old new
keeps_taken old new gone len up = record {
  more = omega (arith, len);
  same = λ place id low sits. go place id (place == up.place) refl sits;
} where
  go : (place id : ℕ) (b : Bool) → (place == up.place) ≡ b → seat new.seats place ≡ Some id → seat old.seats place ≡ Some id
  go place id true is sits = absurd (none-some id (sym (up.seated place ∙ ap (λ b. if b then None else seat old.seats place) is) ∙ sits))
  go place id false is sits = sym (up.seated place ∙ ap (λ b. if b then None else seat old.seats place) is) ∙ sits

-- an edit of who sits where leaves looks in their places
pub still_seated : {T U : Type 0} (old : Slots T) (new : Slots U) (all : List Showing) → HavePlaces old → HavePlaces new → KeepsSeats old new → AreSeated old all → AreSeated new all
still_seated old new all laws laws' keeps are = record {
  given = λ place l shows. let low = are.given place l shows in let more = keeps.more in omega (arith, low, more);
  seated = λ place l shows there. at place l shows (laws'.seated l.id there);
} where
  at : (place : ℕ) (l : Look) → Shows (showing all place) l → ((q : ℕ) × (seat new.seats q ≡ Some l.id)) → seat new.seats place ≡ Some l.id
  at place l shows (q, sits) =
      let before = keeps.same q l.id (are.given place l shows) sits in
      let here = are.seated place l shows (laws.there q l.id before) in
      subst (λ p. seat new.seats p ≡ Some l.id) (sym (laws.one place q l.id here before)) sits

-- one more place shows nothing
pub showing_added : (all : List Showing) (i : ℕ) → showing (all ++ nothing ∷ []) i ≡ showing all i
showing_added [] zero = refl
showing_added [] (suc i) = refl
showing_added (one ∷ all) zero = refl
showing_added (one ∷ all) (suc i) = showing_added all i

-- what is shown once it counts as shown before was shown now
pub now_of : (all : List Showing) (i : ℕ) (m : Look) → Shows (showing (map settled all) i) m → (showing all i).now ≡ Some m
now_of [] i m (inl was) = absurd (none-some m was)
now_of [] i m (inr now) = absurd (none-some m now)
now_of (one ∷ all) zero m (inl was) = was
now_of (one ∷ all) zero m (inr now) = now
now_of (one ∷ all) (suc i) m shows = now_of all i m shows

alive : {T : Type 0} (slots : List (Option T)) (id : ℕ) → is_some (of_id slots id) ≡ true → id ≤ length slots
alive slots id there = go (of_id slots id) refl there where
  go : (x : Option _) → of_id slots id ≡ x → is_some x ≡ true → id ≤ length slots
  go None is none = absurd (true≢false (sym none))
  go (Some x) is some = let high = id_high slots id x is in let low = id_low slots id x is in omega (arith, high, low)

module _ {T : Type 0} (s : Slots T) (all : List Showing) (laws : HavePlaces s) (are : AreSeated s all) where
  -- a look may stand where its id sits
  pub may_stand : (place : ℕ) (l : Look) → seat s.seats place ≡ Some l.id → IsOnCanvas l.area → IsNewElsewhere all place l
  may_stand place l sits inside = record {
    apart = λ i m shows same.
        let there = ap (λ id. is_some (of_id s.slots id)) same ∙ laws.there place l.id sits in
        laws.one i place l.id (are.seated i m shows there ∙ ap Some same) sits;
    inside = inside;
  }

  module _ (place : ℕ) (low : place < length all) (new : Option Look) (sits : (l : Look) → new ≡ Some l → seat s.seats place ≡ Some l.id) where
    put_there : showing (put all place new) place ≡ record { was = (showing all place).was; now = new }
    put_there = get_or-set_same all place (record { was = (showing all place).was; now = new }) nothing low

    put_else : (i : ℕ) → i ≢ place → showing (put all place new) i ≡ showing all i
    put_else i apart = get_or-set_other all place i (record { was = (showing all place).was; now = new }) nothing apart

    -- what is shown after it was put, or before, or is the new one
    shows_put : (i : ℕ) (m : Look) → Shows (showing (put all place new) i) m → (Shows (showing all i) m) ⊎ ((i ≡ place) × (new ≡ Some m))
    shows_put i m shows =
        elim (eqb_tells i place) [
          | inr differ ↦ inl (subst (λ one. Shows one m) (put_else i differ.1) shows)
          | inl here ↦ there i here.1 (subst (λ one. Shows one m) (ap (showing (put all place new)) here.1 ∙ put_there) shows)
        ] where
          there : (i : ℕ) → i ≡ place → ((showing all place).was ≡ Some m) ⊎ (new ≡ Some m) → (Shows (showing all i) m) ⊎ ((i ≡ place) × (new ≡ Some m))
          there i is (inl was) = inl (inl (ap (λ i. (showing all i).was) is ∙ was))
          there i is (inr now) = inr (is, now)

    pub seated_put : AreSeated s (put all place new)
    seated_put = record {
      given = λ i m shows. given_of i m (shows_put i m shows);
      seated = λ i m shows there. seated_of i m there (shows_put i m shows);
    } where
      seated_of : (i : ℕ) (m : Look) → is_some (of_id s.slots m.id) ≡ true → (Shows (showing all i) m) ⊎ ((i ≡ place) × (new ≡ Some m)) → seat s.seats i ≡ Some m.id
      seated_of i m there (inl old) = are.seated i m old there
      seated_of i m there (inr (is, now)) = ap (seat s.seats) is ∙ sits m now

      given_of : (i : ℕ) (m : Look) → (Shows (showing all i) m) ⊎ ((i ≡ place) × (new ≡ Some m)) → m.id ≤ length s.slots
      given_of i m (inl old) = are.given i m old
      given_of i m (inr (is, now)) = alive s.slots m.id (laws.there place m.id (sits m now))

  -- a start was accepted
  pub seated_settled : AreSeated s (map settled all)
  seated_settled = record {
    given = λ i m shows. are.given i m (inr (now_of all i m shows));
    seated = λ i m shows there. are.seated i m (inr (now_of all i m shows)) there;
  }

  -- one more place, which shows nothing
  pub seated_added : AreSeated s (all ++ nothing ∷ [])
  seated_added = record {
    given = λ i m shows. are.given i m (subst (λ one. Shows one m) (showing_added all i) shows);
    seated = λ i m shows there. are.seated i m (subst (λ one. Shows one m) (showing_added all i) shows) there;
  }
