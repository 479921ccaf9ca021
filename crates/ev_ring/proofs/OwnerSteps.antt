-- Each step of the owner's is one that the rule allows.
use Rattle.std.proofs.Common.{◌≡◌, ℕ, ◌+◌, ◌<◌, ◌≤◌, true, List, ◌∷◌, map, set, sym, refl, ap, ◌∙◌, subst, arith, length-set}
use mathlib.Core.Option.{none, some}
use Rattle.std.specs.Prelude.{Some, None}
use Rattle.atomic_table.specs.Table.{step, keeps, takes, gives, Allows}
use Rattle.ev_ring.specs.Tally.{bare, limit_word, Tally}
use Rattle.ev_ring.specs.Steps.{saw_done, published_to, closed_view}
use Rattle.ev_seats.specs.Jobs.{job_of, without}
use Rattle.ev_ring.specs.RingSlots.{Slot, counts_of, slot_of, holders, spread, IsFree, Ring}
use Rattle.ev_ring.specs.Moves.{counting, shelved, Sat, done_seen, emptied, collected, returned, published, closed}
use Rattle.ev_ring.specs.declared.view.Role.TheVariants.{Owner}
use Rattle.ev_ring.specs.declared.view.View.{View}
use Rattle.ev_ring.specs.declared.view.Entry.{Entry}
use Rattle.ev_ring.specs.declared.view.Entry.TheVariants.{Waiting, Finished}
use Rattle.ev_seats.proofs.Sums.{total-none, is_of-none}
use Rattle.ev_seats.specs.Weights.{is_of}
use Rattle.ev_seats.specs.Homes.{Homes}
use Rattle.ev_ring.proofs.Tallies.{bare_word, done_kept, published_kept, closed_kept}
use Rattle.ev_ring.proofs.Shelves.{slot_small, shelf_stays, shelf_emptied, shelf_filled, shelf_collected, shelf_cleared}
use Rattle.ev_ring.proofs.Rings.{Goes, counts_at, by_owner, shelf_here, sees, calm, quiet_out, stays_quiet}

module _ {J D : Type 0} (belongs : J → D → Type 0) where
  module _ (n id : ℕ) (m : Sat J D) (lead : m.0.counts.role ≡ Owner) where
    pub sees_done : Allows (Ring belongs) n id m 16 (λ y. y) (done_seen (step n 16 0 0 none) m)
    sees_done s r wide at _ = let w : View J = counting m.0 (saw_done r.done m.0.counts) in let sh = shelf_here belongs s r id m.0 at lead in
        subst (λ (ws : List ℕ). Goes belongs ws s 16 id m (λ y. y) (done_seen (step n 16 0 0 none) m)) (sym r.words_are) (
          w,
          keeps,
          tt,
          by_owner belongs s r id m.0 at lead w r.limit s.homes refl (λ i is_out. stays_quiet belongs s r id m.0 at lead (quiet_out belongs s r id m.0 at lead i is_out)) r.many (done_kept _ _ _ _ r.tally id m.0.counts (counts_at belongs s r id m.0 at) lead) (shelf_stays belongs _ _ _ _ _ _ sh id m.0 w at m.0.counts.owner.limit refl (λ _ _. refl) sh.published),
          (refl, sees belongs s r id m.0 at lead),
        )

    pub empties : (t : ℕ) → m.0.counts.owner.is_quiet ≡ true → m.0.out ≡ None → IsFree m.0.jobs (slot_of t) → Allows (Ring belongs) n id m 16 (λ y. y) (emptied t (step n 16 0 0 none) m)
    empties t quiet none_out free s r wide at _ = let w : View J = shelved r.done m.0.jobs (Some (slot_of t)) m.0 in let sh = shelf_here belongs s r id m.0 at lead in
        let sh' = shelf_emptied belongs _ _ _ _ _ _ sh t r.many free none_out in
        subst (λ (ws : List ℕ). Goes belongs ws s 16 id m (λ y. y) (emptied t (step n 16 0 0 none) m)) (sym r.words_are) (
          w,
          takes (slot_of t) None,
          sh.idle (slot_of t) (slot_small t) free (λ h. cc),
          by_owner belongs s r id m.0 at lead w r.limit (set s.homes (slot_of t) none) refl (λ _ _. stays_quiet belongs s r id m.0 at lead quiet) (length-set s.homes (slot_of t) none ∙ r.many) (done_kept _ _ _ _ r.tally id m.0.counts (counts_at belongs s r id m.0 at) lead)
              (shelf_stays belongs _ _ _ _ _ _ sh' id m.0 w at m.0.counts.owner.limit refl (λ _ _. refl) sh'.published),
          (refl, sees belongs s r id m.0 at lead),
        )

    pub fills : (t : ℕ) (j : J) (more : List (ℕ × Slot J D)) → m.0.counts.owner.is_quiet ≡ true → m.0.out ≡ Some (slot_of t) → m.1 ≡ (slot_of t, Some (Waiting t j)) ∷ more → m.0.counts.owner.limit ≤ t
        → ((u : ℕ) (k : J) → job_of u m.0.jobs ≡ Some k → (t < u + 4096) × (u < t + 4096)) → Allows (Ring belongs) n id m 16 (λ y. y) (returned (step n 16 0 0 none) m)
    fills t j more quiet is_out carries later close s r wide at _ = let w : View J = shelved r.done ((t, j) ∷ m.0.jobs) None m.0 in let sh = shelf_here belongs s r id m.0 at lead in
        let q = (calm belongs s r id m.0 at lead quiet).0 in let homes' : Homes (Entry J D) = set s.homes (slot_of t) (some (Some (Waiting t j))) in
        let sh' = shelf_filled belongs _ _ _ _ _ _ sh t j r.many is_out (omega arith) close in
        subst (λ (ws : List ℕ). Goes belongs ws s 16 id m (λ y. y) (returned (step n 16 0 0 none) m)) (sym r.words_are)
        (subst (λ (cs : List (ℕ × Slot J D)). Goes belongs (spread r.limit r.claim r.done r.bell) s 16 id (m.0, cs) (λ y. y) (returned (step n 16 0 0 none) (m.0, cs))) (sym carries) (
          w,
          gives,
          tt,
          by_owner belongs s r id m.0 at lead w r.limit homes' refl (λ i is_out. cc) (length-set s.homes (slot_of t) _ ∙ r.many) (done_kept _ _ _ _ r.tally id m.0.counts (counts_at belongs s r id m.0 at) lead)
              (shelf_stays belongs _ _ _ _ _ _ sh' id m.0 w at m.0.counts.owner.limit refl (λ _ _. refl) sh'.published),
          (refl, sees belongs s r id m.0 at lead),
        ))

    pub collects : (t : ℕ) (j : J) → m.0.counts.owner.is_quiet ≡ true → m.0.out ≡ None → job_of t m.0.jobs ≡ Some j → t < m.0.counts.owner.limit → Allows (Ring belongs) n id m 16 (λ y. y) (collected belongs t (step n 16 0 0 none) m)
    collects t j quiet none_out has below_limit s r wide at _ = let w : View J = shelved r.done (without t m.0.jobs) (Some (slot_of t)) m.0 in let sh = shelf_here belongs s r id m.0 at lead in
        let q = calm belongs s r id m.0 at lead quiet in let is = q.0 in
        let unheld : holders t s.views ≡ 0 = total-none (λ (u : View J). is_of t u.counts.hand.held) s.views (λ k u e. is_of-none t u.counts.hand.held (λ t' h. q.1 k u t' e h)) in
        let got = sh.finished t j has (omega arith) unheld in let d : D = got.0 in
        let sh' = shelf_collected belongs _ _ _ _ _ _ sh t j r.many none_out (omega arith) has q.1 in
        subst (λ (ws : List ℕ). Goes belongs ws s 16 id m (λ y. y) (collected belongs t (step n 16 0 0 none) m)) (sym r.words_are) (
          w,
          takes (slot_of t) (Some (Finished t d)),
          got.1,
          by_owner belongs s r id m.0 at lead w r.limit (set s.homes (slot_of t) none) refl (λ _ _. stays_quiet belongs s r id m.0 at lead quiet) (length-set s.homes (slot_of t) none ∙ r.many) (done_kept _ _ _ _ r.tally id m.0.counts (counts_at belongs s r id m.0 at) lead)
              (shelf_stays belongs _ _ _ _ _ _ sh' id m.0 w at m.0.counts.owner.limit refl (λ _ _. refl) sh'.published),
          (j, d, has, got.2, refl, sees belongs s r id m.0 at lead),
        )

    pub clears : (i : ℕ) (more : List (ℕ × Slot J D)) → i < 4096 → m.0.out ≡ Some i → m.1 ≡ (i, None) ∷ more → Allows (Ring belongs) n id m 16 (λ y. y) (returned (step n 16 0 0 none) m)
    clears i more small is_out carries s r wide at _ = let w : View J = shelved r.done m.0.jobs None m.0 in let sh = shelf_here belongs s r id m.0 at lead in
        let sh' = shelf_cleared belongs _ _ _ _ _ _ sh i r.many small is_out in
        subst (λ (ws : List ℕ). Goes belongs ws s 16 id m (λ y. y) (returned (step n 16 0 0 none) m)) (sym r.words_are)
        (subst (λ (cs : List (ℕ × Slot J D)). Goes belongs (spread r.limit r.claim r.done r.bell) s 16 id (m.0, cs) (λ y. y) (returned (step n 16 0 0 none) (m.0, cs))) (sym carries) (
          w,
          gives,
          tt,
          by_owner belongs s r id m.0 at lead w r.limit (set s.homes i (some None)) refl (λ i is_out. cc) (length-set s.homes i _ ∙ r.many) (done_kept _ _ _ _ r.tally id m.0.counts (counts_at belongs s r id m.0 at) lead)
              (shelf_stays belongs _ _ _ _ _ _ sh' id m.0 w at m.0.counts.owner.limit refl (λ _ _. refl) sh'.published),
          (refl, sees belongs s r id m.0 at lead),
        ))

    pub publishes : (new word : ℕ) → word ≡ limit_word m.0.counts.owner.is_closed new → m.0.counts.owner.is_quiet ≡ true → m.0.out ≡ None → m.0.counts.owner.limit ≤ new → new ≤ 4611686018427387904
        → ((t : ℕ) → m.0.counts.owner.limit ≤ t → t < new → (j : J) × (job_of t m.0.jobs ≡ Some j)) → Allows (Ring belongs) n id m 0 (λ _. word) (λ _. published (step n 0 word 0 none) m word)
    publishes new word is quiet none_out up room jobs s r wide at _ = let w : View J = counting m.0 (published_to new m.0.counts) in let sh = shelf_here belongs s r id m.0 at lead in let q = (calm belongs s r id m.0 at lead quiet).0 in
        let bare_is : new ≡ bare word = sym (ap bare is ∙ bare_word m.0.counts.owner.is_closed new room) in
        subst (λ (ws : List ℕ). Goes belongs ws s 0 id m (λ _. word) (λ _. published (step n 0 word 0 none) m word)) (sym r.words_are) (
          w,
          keeps,
          tt,
          by_owner belongs s r id m.0 at lead w word s.homes refl (λ i is_out. let x : None ≡ Some i = sym none_out ∙ is_out in cc) r.many
              (subst (λ (y : ℕ). Tally y r.claim r.done (set (map counts_of s.views) id w.counts)) (sym is) (published_kept _ _ _ _ r.tally id m.0.counts (counts_at belongs s r id m.0 at) new lead quiet up room))
              (shelf_stays belongs _ _ _ _ _ _ sh id m.0 w at new refl (λ _ _. refl) (λ t a b. jobs t (omega arith) b)),
          ap (λ (k : ℕ). (counting m.0 (published_to k m.0.counts), m.1)) bare_is,
        )

    pub closes : (new : ℕ) → new ≡ limit_word true m.0.counts.owner.limit → Allows (Ring belongs) n id m 0 (λ _. new) (λ _. closed (step n 0 new 0 none) m new)
    closes new is s r wide at _ = let w : View J = counting m.0 (closed_view m.0.counts) in let sh = shelf_here belongs s r id m.0 at lead in
        subst (λ (ws : List ℕ). Goes belongs ws s 0 id m (λ _. new) (λ _. closed (step n 0 new 0 none) m new)) (sym r.words_are) (
          w,
          keeps,
          tt,
          by_owner belongs s r id m.0 at lead w new s.homes refl (quiet_out belongs s r id m.0 at lead) r.many (subst (λ (y : ℕ). Tally y r.claim r.done (set (map counts_of s.views) id w.counts)) (sym is) (closed_kept _ _ _ _ r.tally id m.0.counts (counts_at belongs s r id m.0 at) lead))
              (shelf_stays belongs _ _ _ _ _ _ sh id m.0 w at m.0.counts.owner.limit refl (λ _ _. refl) sh.published),
          refl,
        )
