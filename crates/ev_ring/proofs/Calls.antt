-- How the steps of one call follow each other.
use Rattle.std.proofs.Common.{◌≡◌, ℕ, ◌+◌, ◌%◌, ◌^◌, ◌<◌, ◌≤◌, true, List, [], ◌∷◌, sym, refl, ap, ◌∙◌, subst, arith, eq-eqb}
use mathlib.Core.Option.{none}
use Rattle.std.specs.Prelude.{Option, Some, None}
use Rattle.atomic_table.specs.Table.{step, rest, Allows}
use Rattle.ev_seats.specs.Jobs.{job_of}
use Rattle.ev_ring.specs.RingSlots.{Slot, slot_of, carried_by, Ring, IsFree}
use Rattle.ev_ring.specs.Moves.{shelved, Sat, Sees, given, returned}
use Rattle.ev_ring.specs.declared.view.Role.TheVariants.{Owner, Spent}
use Rattle.ev_ring.specs.declared.view.Entry.TheVariants.{Waiting, Finished}
use Rattle.ev_seats.proofs.Lists.{first_slot}
use Rattle.ev_ring.proofs.HandSteps.{returns}
use Rattle.ev_ring.proofs.OwnerSteps.{fills, clears}

module _ {J : Type 0} where
  -- the slot of a ticket is free where all jobs' tickets are above it, and less than a turn
  pub far_slots : (t : ℕ) (jobs : List (ℕ × J)) → ((u : ℕ) (k : J) → job_of u jobs ≡ Some k → (t < u) × (u < t + 4096)) → IsFree jobs (slot_of t)
  far_slots t jobs near u k e same = let r = near u k e in let x = r.0 in let y = r.1 in absurd (omega arith)

module _ {J D : Type 0} where
  -- a seat that holds a ticket has the ticket's slot out
  pub holds_slot : (cs : List (ℕ × Slot J D)) (h : Option ℕ) (t i : ℕ) → cs ≡ carried_by h → h ≡ Some t → i ≡ slot_of t → cs ≡ (i, None) ∷ rest cs
  holds_slot cs h t i is has at = first_slot cs [] i (slot_of t) None (is ∙ ap carried_by has) at

  module _ (belongs : J → D → Type 0) (n id : ℕ) where
    -- a hand that wrote what came of its job into the slot may give it back
    pub gives_result : (m m' : Sat J D) (i t : ℕ) (j : J) (d : D) (more : List (ℕ × Slot J D)) → m' ≡ (m.0, (i, Some (Finished t d)) ∷ more) → i ≡ slot_of t → (m.0.counts.role ≡ Spent → ⊥)
        → m.0.counts.hand.held ≡ Some t → m.0.job ≡ Some j → belongs j d → Allows (Ring belongs) n id m' 16 (λ y. (y + 1) % 2 ^ 64) (given (step n 16 1 0 none) m')
    gives_result m m' i t j d more e at live has knows fits =
        let z : Sat J D = (m.0, (i, Some (Finished t d)) ∷ more) in
        subst (λ (x : Sat J D). Allows (Ring belongs) n id x 16 (λ y. (y + 1) % 2 ^ 64) (given (step n 16 1 0 none) x)) (sym e) (returns belongs n id z t j d more live has knows fits (ap (λ (k : ℕ). (k, Some (Finished t d)) ∷ more) at))

    -- an owner that wrote a job into the slot may give it back
    pub gives_job : (m m1 m2 : Sat J D) (i t a : ℕ) (j : J) → m.0.counts.role ≡ Owner → m.0.counts.owner.is_quiet ≡ true → m.0.counts.owner.limit ≤ t
        → ((u : ℕ) (k : J) → job_of u m.0.jobs ≡ Some k → (t < u) × (u < t + 4096)) → (m1 ≡ (shelved a m.0.jobs (Some (slot_of t)) m.0, (slot_of t, None) ∷ m.1)) × Sees m.0.counts a
        → m2 ≡ (m1.0, (i, Some (Waiting t j)) ∷ rest m1.1) → i ≡ slot_of t → Allows (Ring belongs) n id m2 16 (λ y. y) (returned (step n 16 0 0 none) m2)
    gives_job m m1 m2 i t a j lead quiet later near e1 e2 at =
        let z : Sat J D = (shelved a m.0.jobs (Some (slot_of t)) m.0, (i, Some (Waiting t j)) ∷ m.1) in
        let is2 : m2 ≡ z = e2 ∙ ap (λ (x : Sat J D). (x.0, (i, Some (Waiting t j)) ∷ rest x.1)) e1.0 in
        subst (λ (x : Sat J D). Allows (Ring belongs) n id x 16 (λ y. y) (returned (step n 16 0 0 none) x)) (sym is2)
        (fills belongs n id z lead t j m.1 (eq-eqb a m.0.counts.owner.limit (e1.1.3 quiet)) refl (ap (λ (k : ℕ). (k, Some (Waiting t j)) ∷ m.1) at) later
        (λ u k e. let r = near u k e in let x = r.0 in let y = r.1 in (omega arith, omega arith)))

    -- an owner that emptied the slot may give it back
    pub gives_blank : (m m1 m2 : Sat J D) (i t a : ℕ) (y : Slot J D) (js : List (ℕ × J)) → m.0.counts.role ≡ Owner → m1 ≡ (shelved a js (Some (slot_of t)) m.0, (slot_of t, y) ∷ m.1)
        → m2 ≡ (m1.0, (i, None) ∷ rest m1.1) → i ≡ slot_of t → Allows (Ring belongs) n id m2 16 (λ y. y) (returned (step n 16 0 0 none) m2)
    gives_blank m m1 m2 i t a y js lead e1 e2 at =
        let z : Sat J D = (shelved a js (Some (slot_of t)) m.0, (i, None) ∷ m.1) in
        let is2 : m2 ≡ z = e2 ∙ ap (λ (x : Sat J D). (x.0, (i, None) ∷ rest x.1)) e1 in
        subst (λ (x : Sat J D). Allows (Ring belongs) n id x 16 (λ y. y) (returned (step n 16 0 0 none) x)) (sym is2)
        (clears belongs n id z lead (slot_of t) m.1 (omega arith) refl (ap (λ (k : ℕ). (k, None) ∷ m.1) at))
