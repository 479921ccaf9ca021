-- How the steps of one call follow each other.
use Rattle.std.proofs.Common.{◌≡◌, ℕ, zero, suc, ◌*◌, ◌<◌, ◌≢◌, Bool, true, false, List, [], ◌∷◌, set, length, sym, refl, ap, ◌∙◌, subst, inl, inr, arith}
use mathlib.Core.Option.{none}
use Rattle.std.specs.Prelude.{Option, Some, None}
use Rattle.atomic_table.specs.Table.{step, rest, Allows}
use Rattle.ev_desk.specs.DeskTally.{IsEnd}
use Rattle.ev_desk.specs.DeskSteps.{spot_at, spot_of, staged, looked_at}
use Rattle.ev_desk.specs.DeskSlots.{Slot, place_of, end_word, carried_by, Desk}
use Rattle.ev_desk.specs.DeskMoves.{keeping, freeing, Sat, emptied_at, left, took, returned, ended}
use Rattle.ev_desk.specs.declared.view.Role.TheVariants.{Asker, Loader}
use Rattle.ev_desk.specs.declared.view.Stage.TheVariants.{Free, Asked, Ended, Closed}
use Rattle.ev_desk.specs.declared.view.Spot.{Spot}
use Rattle.ev_desk.specs.declared.view.Entry.TheVariants.{Waiting, Finished}
use Rattle.ev_seats.proofs.Lists.{first_slot}
use Rattle.ev_desk.proofs.Spread.{place_back}
use Rattle.ev_desk.proofs.LoaderSteps.{ends}
use Rattle.ev_desk.proofs.AskerSteps.{leaves, frees, returns}

pub end_is : (b : Bool) → IsEnd (end_word b)
end_is true = inr refl
end_is false = inl refl

-- a place that is not closed is one of the list
pub in_range : (l : List Spot) (p : ℕ) → (spot_at p l).stage ≢ Closed → p < length l
in_range [] p n = absurd (n refl)
in_range (x ∷ xs) zero n = omega arith
in_range (x ∷ xs) (suc p) n = omega (arith, in_range xs p n)

pub spot_set : (l : List Spot) (p : ℕ) (y : Spot) → p < length l → spot_at p (set l p y) ≡ y
spot_set [] p y lt = absurd (omega arith)
spot_set (x ∷ xs) zero y lt = refl
spot_set (x ∷ xs) (suc p) y lt = spot_set xs p y (omega arith)

module _ {J E : Type 0} where
  -- a seat that holds a place has the place's slot out
  pub holds_slot : (cs : List (ℕ × Slot J E)) (h : Option ℕ) (p : ℕ) → cs ≡ carried_by h → h ≡ Some p → cs ≡ (p, None) ∷ rest cs
  holds_slot cs h p is has = first_slot cs [] p p None (is ∙ ap carried_by has) refl

  -- a place that the asker has as free or asked is one of its list
  known : (m : Sat J E) (p : ℕ) → (spot_of p m.0.counts).stage ≢ Closed → p < length m.0.counts.asker.spots
  known m p other = in_range m.0.counts.asker.spots p other

  module _ (belongs : J → E → Type 0) (faulty : E → Bool) (n id : ℕ) where
    pub leaves_job : (m m1 m2 : Sat J E) (p i a : ℕ) (j : J) → i ≡ p * 8 → m.0.counts.role ≡ Asker → p < 64 → (spot_of p m.0.counts).stage ≡ Free
        → emptied_at (place_of i) m a m1 → m2 ≡ (m1.0, (p, Some (Waiting j)) ∷ rest m1.1) → Allows (Desk belongs faulty) n id m2 i (λ _. 1) (λ _. left (step n i 1 0 none) m2 1)
    leaves_job m m1 m2 p i a j here lead lt free e1 e2 =
        let e = subst (λ (q : ℕ). emptied_at q m a m1) (place_back p i here) e1 in
        let z : Sat J E = (keeping m.0 (looked_at p a Free m.0.counts) (Some p), (p, Some (Waiting j)) ∷ m.1) in
        let is2 : m2 ≡ z = e2 ∙ ap (λ (x : Sat J E). (x.0, (p, Some (Waiting j)) ∷ rest x.1)) e.0 in
        subst (λ (x : Sat J E). Allows (Desk belongs faulty) n id x i (λ _. 1) (λ _. left (step n i 1 0 none) x 1)) (sym is2)
        (leaves belongs faulty n id z lead p i j m.1 here lt (ap (λ (x : Spot). x.stage) (spot_set m.0.counts.asker.spots p _ (known m p (λ h. let x : Free ≡ Closed = sym free ∙ h in cc)))) refl refl)

    pub frees_place : (m m1 m2 : Sat J E) (p i a : ℕ) (y : Slot J E) → i ≡ p * 8 → m.0.counts.role ≡ Asker → p < 64 → (spot_of p m.0.counts).stage ≡ Asked
        → m1 ≡ (keeping m.0 (looked_at (place_of i) a Ended m.0.counts) (Some (place_of i)), (place_of i, y) ∷ m.1) → m2 ≡ (m1.0, (p, None) ∷ rest m1.1) → Allows (Desk belongs faulty) n id m2 i (λ _. 0) (λ _. took (step n i 0 0 none) m2 0)
    frees_place m m1 m2 p i a y here lead lt asked e1 e2 =
        let e = subst (λ (q : ℕ). m1 ≡ (keeping m.0 (looked_at q a Ended m.0.counts) (Some q), (q, y) ∷ m.1)) (place_back p i here) e1 in
        let z : Sat J E = (keeping m.0 (looked_at p a Ended m.0.counts) (Some p), (p, None) ∷ m.1) in
        let is2 : m2 ≡ z = e2 ∙ ap (λ (x : Sat J E). (x.0, (p, None) ∷ rest x.1)) e in
        subst (λ (x : Sat J E). Allows (Desk belongs faulty) n id x i (λ _. 0) (λ _. took (step n i 0 0 none) x 0)) (sym is2)
        (frees belongs faulty n id z lead p i m.1 here lt (ap (λ (x : Spot). x.stage) (spot_set m.0.counts.asker.spots p _ (known m p (λ h. let x : Asked ≡ Closed = sym asked ∙ h in cc)))) refl refl)

    pub returns_slot : (m m1 m2 : Sat J E) (p i : ℕ) (y : Slot J E) → i ≡ p * 8 → m.0.counts.role ≡ Asker → p < 64 → (spot_of p m.0.counts).stage ≡ Asked
        → m1 ≡ (freeing (place_of i) m.0 (staged (place_of i) Free m.0.counts) (Some (place_of i)), (place_of i, y) ∷ m.1) → m2 ≡ (m1.0, (p, None) ∷ rest m1.1) → Allows (Desk belongs faulty) n id m2 i (λ y. y) (returned (step n i 0 0 none) m2)
    returns_slot m m1 m2 p i y here lead lt asked e1 e2 =
        let e = subst (λ (q : ℕ). m1 ≡ (freeing q m.0 (staged q Free m.0.counts) (Some q), (q, y) ∷ m.1)) (place_back p i here) e1 in
        let z : Sat J E = (freeing p m.0 (staged p Free m.0.counts) (Some p), (p, None) ∷ m.1) in
        let is2 : m2 ≡ z = e2 ∙ ap (λ (x : Sat J E). (x.0, (p, None) ∷ rest x.1)) e in
        subst (λ (x : Sat J E). Allows (Desk belongs faulty) n id x i (λ y. y) (returned (step n i 0 0 none) x)) (sym is2)
        (returns belongs faulty n id z lead p i m.1 here lt (ap (λ (x : Spot). x.stage) (spot_set m.0.counts.asker.spots p _ (known m p (λ h. let x : Asked ≡ Closed = sym asked ∙ h in cc)))) refl refl)

    pub gives_end : (m m' : Sat J E) (p i new : ℕ) (j : J) (d : E) → i ≡ p * 8 → m' ≡ (m.0, (p, Some (Finished j d)) ∷ rest m.1) → m.0.counts.role ≡ Loader → p < 64 → m.0.counts.loader.held ≡ Some p → m.0.job ≡ Some j → belongs j d → new ≡ end_word (faulty d)
        → Allows (Desk belongs faulty) n id m' i (λ _. new) (ended (step n i new 0 none) m')
    gives_end m m' p i new j d here e loads lt has job fits is =
        subst (λ (x : Sat J E). Allows (Desk belongs faulty) n id x i (λ _. new) (ended (step n i new 0 none) x)) (sym e)
        (ends belongs faulty n id (m.0, (p, Some (Finished j d)) ∷ rest m.1) loads p i new j d (rest m.1) here lt has job fits is (subst IsEnd (sym is) (end_is (faulty d))) refl)
