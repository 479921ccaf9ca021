-- Each step that a seat makes as a hand is one that the rule allows.
use Rattle.std.proofs.Common.{◌≡◌, ℕ, ◌+◌, ◌%◌, ◌^◌, ◌<◌, eqb, ◌≢◌, List, ◌∷◌, set, sym, refl, ◌∙◌, subst, arith, length-set}
use mathlib.Core.Option.{none, some}
use lib.ListN.{get_elem?}
use Rattle.std.specs.Prelude.{Some, None}
use prog.Atomic.{either}
use Rattle.atomic_table.specs.Table.{step, Act, keeps, takes, gives, Valid, homes_after, carried_after, Allows}
use Rattle.atomic_table.proofs.Lists.{at_map, set_again, exchanged}
use Rattle.ev_ring.specs.Tally.{bare}
use Rattle.ev_ring.specs.Steps.{saw_limit, saw_claim, lost_to}
use Rattle.ev_ring.specs.RingSlots.{Slot, counts_of, slot_of, spread, Ring}
use Rattle.ev_ring.specs.Moves.{counting, got_job, gave_job, Sat, limit_seen, claim_seen, claimed, given, rung}
use Rattle.ev_ring.specs.declared.view.Role.TheVariants.{Spent}
use Rattle.ev_ring.specs.declared.view.View.{View}
use Rattle.ev_ring.specs.declared.view.Entry.{Entry}
use Rattle.ev_ring.specs.declared.view.Entry.TheVariants.{Waiting, Finished}
use Rattle.ev_seats.specs.Homes.{Homes}
use Rattle.ev_ring.proofs.Tallies.{limit_kept, claim_kept, lost_kept, got_kept, behind, gave_kept, all_home, apart}
use Rattle.ev_ring.proofs.Shelves.{shelf_claimed, shelf_given}
use Rattle.ev_ring.proofs.Rings.{ring, Goes, Views, counts_at, limit_is, by_hand, looking}

module _ {J D : Type 0} (belongs : J → D → Type 0) where
  module _ (n id : ℕ) (m : Sat J D) where
    pub sees_limit : (m.0.counts.role ≡ Spent → ⊥) → Allows (Ring belongs) n id m 0 (λ y. y) (limit_seen (step n 0 0 0 none) m)
    sees_limit live s r wide at _ = subst (λ (ws : List ℕ). Goes belongs ws s 0 id m (λ y. y) (limit_seen (step n 0 0 0 none) m)) (sym r.words_are)
        (counting m.0 (saw_limit r.limit m.0.counts), keeps, tt, looking belongs s r id m.0 at _ refl refl refl refl refl refl refl (limit_kept _ _ _ _ r.tally id m.0.counts (counts_at belongs s r id m.0 at) live), (refl, (r.tally.reads id m.0.counts (counts_at belongs s r id m.0 at)).limit_behind))

    pub sees_claim : (m.0.counts.role ≡ Spent → ⊥) → Allows (Ring belongs) n id m 8 (λ y. y) (claim_seen (step n 8 0 0 none) m)
    sees_claim live s r wide at _ = let there = counts_at belongs s r id m.0 at in let k = r.tally.reads id m.0.counts there in
        subst (λ (ws : List ℕ). Goes belongs ws s 8 id m (λ y. y) (claim_seen (step n 8 0 0 none) m)) (sym r.words_are)
        (counting m.0 (saw_claim r.claim m.0.counts), keeps, tt, looking belongs s r id m.0 at _ refl refl refl refl refl refl refl (claim_kept _ _ _ _ r.tally id m.0.counts there live), (refl, (k.claim_behind, k.found_behind), all_home _ _ _ _ r.tally id m.0.counts there))

    pub rings : Allows (Ring belongs) n id m 24 (λ y. (y + 1) % 2 ^ 64) (rung (step n 24 1 0 none) m)
    rings s r wide at _ = subst (λ (ws : List ℕ). Goes belongs ws s 24 id m (λ y. (y + 1) % 2 ^ 64) (rung (step n 24 1 0 none) m)) (sym r.words_are) (
      m.0,
      keeps,
      tt,
      subst (λ (vs : Views belongs). Ring belongs (ring belongs r.limit r.claim r.done ((r.bell + 1) % 2 ^ 64) s.homes vs)) (sym (set_again s.views id m.0 at))
          record { limit = r.limit; claim = r.claim; done = r.done; bell = (r.bell + 1) % 2 ^ 64; words_are = refl; tally = r.tally; many = r.many; chair = r.chair; owner = r.owner; sits = r.sits; leads = r.leads; still = r.still; shelf = r.shelf },
      refl,
    )

    pub claims : (old new : ℕ) → (m.0.counts.role ≡ Spent → ⊥) → m.0.counts.hand.claim_read ≡ old → old < bare m.0.counts.hand.limit_read → m.0.counts.hand.held ≡ None → new ≡ old + 1
        → Allows (Ring belongs) n id m 8 (λ y. either (eqb y old) new y) (claimed (step n 8 old new none) m)
    claims old new live read below_limit free more s r wide at _ =
        let told = claimed (step n 8 old new none) m in let c : ℕ = r.claim in let there = counts_at belongs s r id m.0 at in let k = r.tally.reads id m.0.counts there in
        subst (λ (ws : List ℕ). Goes belongs ws s 8 id m (λ y. either (eqb y old) new y) told) (sym r.words_are)
        (exchanged c old new (λ (z : ℕ). (w : View J) × (a : Act (Slot J D)) × Valid s.homes m.1 a × Ring belongs (ring belongs r.limit z r.done r.bell (homes_after s.homes m.1 a) (set s.views id w)) × told c (w, carried_after m.1 a))
        (λ hit. let a = k.limit_behind in let lim = limit_is belongs s r in let job = r.shelf.published c (omega arith) (omega arith) in let j : J = job.0 in let w : View J = got_job c j m.0 in
        let next : new ≡ c + 1 = omega arith in
        let kept : Ring belongs (ring belongs r.limit (c + 1) r.done r.bell (set s.homes (slot_of c) none) (set s.views id w)) =
        by_hand belongs s r id m.0 at w (c + 1) r.done (set s.homes (slot_of c) none) refl refl refl refl refl (length-set s.homes (slot_of c) none ∙ r.many) (got_kept _ _ _ _ r.tally id m.0.counts there live (omega arith) free)
        (shelf_claimed belongs _ _ _ _ _ _ r.shelf id m.0 w at j r.many job.1 free refl refl) in (
          got_job old j m.0,
          takes (slot_of old) (Some (Waiting old j)),
          subst (λ (z : ℕ). get_elem? s.homes (slot_of z) ≡ some (some (Some (Waiting z j)))) hit (r.shelf.waiting c j job.1 (omega arith)),
          subst (λ (z : ℕ). Ring belongs (ring belongs r.limit new r.done r.bell (set s.homes (slot_of z) none) (set s.views id (got_job z j m.0)))) hit (subst (λ (z : ℕ). Ring belongs (ring belongs r.limit z r.done r.bell (set s.homes (slot_of c) none) (set s.views id w))) (sym next) kept),
          ((λ _. (j, refl)), λ miss. absurd (miss hit)),
        ))
        (λ miss. let b = k.claim_behind in (counting m.0 (lost_to c m.0.counts), keeps, tt, looking belongs s r id m.0 at _ refl refl refl refl refl refl refl (lost_kept _ _ _ _ r.tally id m.0.counts there live), ((λ hit. absurd (miss hit)), λ _. (refl, omega arith)))))

    pub returns : (t : ℕ) (j : J) (d : D) (more : List (ℕ × Slot J D)) → (m.0.counts.role ≡ Spent → ⊥) → m.0.counts.hand.held ≡ Some t → m.0.job ≡ Some j → belongs j d → m.1 ≡ (slot_of t, Some (Finished t d)) ∷ more
        → Allows (Ring belongs) n id m 16 (λ y. (y + 1) % 2 ^ 64) (given (step n 16 1 0 none) m)
    returns t j d more live has knows fits carries s r wide at _ =
        let there = counts_at belongs s r id m.0 at in let small = behind _ _ _ _ r.tally id m.0.counts there t has in let within = r.tally.within in let next : (r.done + 1) % 2 ^ 64 ≡ r.done + 1 = omega arith in
        let homes' : Homes (Entry J D) = set s.homes (slot_of t) (some (Some (Finished t d))) in
        let lone : (k : ℕ) (u : View J) → k ≢ id → get_elem? s.views k ≡ some u → u.counts.hand.held ≡ Some t → ⊥ = λ k u ne e h. apart _ _ _ _ r.tally id m.0.counts there t k u.counts has ne (at_map counts_of s.views k u e) h in
        subst (λ (ws : List ℕ). Goes belongs ws s 16 id m (λ y. (y + 1) % 2 ^ 64) (given (step n 16 1 0 none) m)) (sym r.words_are)
        (subst (λ (cs : List (ℕ × Slot J D)). Goes belongs (spread r.limit r.claim r.done r.bell) s 16 id (m.0, cs) (λ y. (y + 1) % 2 ^ 64) (given (step n 16 1 0 none) (m.0, cs))) (sym carries) (
          gave_job m.0,
          gives,
          tt,
          subst (λ (z : ℕ). Ring belongs (ring belongs r.limit r.claim z r.bell homes' (set s.views id (gave_job m.0)))) (sym next)
              (by_hand belongs s r id m.0 at (gave_job m.0) r.claim (r.done + 1) homes' refl refl refl refl refl (length-set s.homes (slot_of t) _ ∙ r.many) (gave_kept _ _ _ _ r.tally id m.0.counts there live t has)
              (shelf_given belongs _ _ _ _ _ _ r.shelf id m.0 (gave_job m.0) at t j d r.many has refl knows fits lone)),
          refl,
        ))
