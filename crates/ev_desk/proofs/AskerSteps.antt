-- Each step of the asker's is one that the rule allows.
use Rattle.std.proofs.Common.{◌≡◌, ◌⊎◌, ℕ, ◌+◌, ◌*◌, ◌%◌, ◌^◌, ◌<◌, ◌≤◌, eqb, Bool, List, [], ◌∷◌, ◌++◌, get_or, set, sym, refl, ap, ◌∙◌, subst, inl, inr, ⊎_elim, arith, length-set}
use mathlib.Core.Option.{none, some}
use Rattle.std.specs.Prelude.{Some, None}
use prog.Atomic.{either}
use Rattle.atomic_table.specs.Table.{step, keeps, takes, gives, Allows}
use Rattle.atomic_table.proofs.Lists.{set_again, exchanged}
use Rattle.ev_seats.specs.Jobs.{without}
use Rattle.ev_seats.proofs.Jobs.{stays}
use Rattle.ev_desk.specs.DeskTally.{IsEnd}
use Rattle.ev_desk.specs.DeskSteps.{spot_of, staged, looked_at, took_end, came_late}
use Rattle.ev_desk.specs.DeskSlots.{Slot, spread, Desk}
use Rattle.ev_desk.specs.DeskMoves.{counting, keeping, freeing, Sat, emptied, left, shut, looked, took, withdrawn, returned, emptied_at, left_at, shut_at, looked_at_end, took_at, withdrawn_at, returned_at, rung, counted}
use Rattle.ev_desk.specs.declared.view.Role.TheVariants.{Asker}
use Rattle.ev_desk.specs.declared.view.Stage.{Stage}
use Rattle.ev_desk.specs.declared.view.Stage.TheVariants.{Free, Asked, Ended, Closed}
use Rattle.ev_desk.specs.declared.view.View.{View}
use Rattle.ev_desk.specs.declared.view.Entry.TheVariants.{Waiting, Finished}
use Rattle.ev_desk.proofs.Tallies.{spot_there, free_word, asked_word, ended_word, asked_kept, shut_kept, look_kept, took_kept, withdrawn_kept, late_kept, settled}
use Rattle.ev_desk.proofs.Shelves.{shelf_looked, shelf_shut, shelf_out, shelf_back, shelf_left}
use Rattle.ev_desk.proofs.Spread.{set_bell}
use Rattle.ev_desk.proofs.Desks.{Views, Lands, Goes, lands, word_at, there, counts_at, by_asker, shelf_here, untaken, slot_in, at_word}

end_small : (word : ℕ) → IsEnd word → 3 ≤ word
end_small word is = ⊎_elim (λ e. omega arith) (λ e. omega arith) is

module _ {J E : Type 0} (belongs : J → E → Type 0) (faulty : E → Bool) where
  module _ (n id : ℕ) (m : Sat J E) where
    pub rings : Allows (Desk belongs faulty) n id m 512 (λ y. (y + 1) % 2 ^ 64) (rung (step n 512 1 0 none) m)
    rings s r wide at _ = subst (λ (ws : List ℕ). Goes belongs faulty ws s 512 id m (λ y. (y + 1) % 2 ^ 64) (rung (step n 512 1 0 none) m)) (sym r.words_are) (
      m.0,
      keeps,
      tt,
      subst (λ (vs : Views belongs faulty). Desk belongs faulty record { words = set (spread r.places ++ r.bell ∷ []) 512 ((get_or (spread r.places ++ r.bell ∷ []) 512 0 + 1) % 2 ^ 64); homes = s.homes; views = vs }) (sym (set_again s.views id m.0 at))
          record { places = r.places; bell = _; words_are = set_bell r.places r.bell 512 _ (omega (arith, r.tally.long)); tally = r.tally; many = r.many; chair = r.chair; asker = r.asker; sits = r.sits; leads = r.leads; shelf = r.shelf },
      refl,
    )

  module _ (n id : ℕ) (m : Sat J E) (lead : m.0.counts.role ≡ Asker) where
    abbrev stage_of : ℕ → Stage
    stage_of p = (spot_of p m.0.counts).stage

    -- an asker's look at a free place
    pub empties : (p i : ℕ) → i ≡ p * 8 → p < 64 → stage_of p ≡ Free → m.0.out ≡ None → Allows (Desk belongs faulty) n id m i (λ y. y) (emptied (step n i 0 0 none) m)
    empties p i here lt free none_out = at_word belongs faulty n id m (λ y. y) (λ q. emptied_at q m) p i here (λ s r wide at _.
        let word : ℕ = word_at belongs faulty s r p in let found = there belongs faulty s r p lt in let mine = counts_at belongs faulty s r id m.0 at in let sh = shelf_here belongs faulty s r id m.0 at lead in
        let zero_word = free_word _ _ r.tally id m.0.counts mine lead p word found lt free in
        let w : View J = keeping m.0 (looked_at p word Free m.0.counts) (Some p) in
        lands belongs faulty s r p id m (λ y. y) (emptied_at p m) lt (
          w,
          takes p None,
          (sh.lies p word _ found (spot_there _ _ r.tally id m.0.counts mine lead p lt)).idle (λ h. let x : Free ≡ Asked = sym free ∙ h in cc) (λ h. cc),
          by_asker belongs faulty s r id m.0 at w (set r.places p word) (set s.homes p none) lead (length-set s.homes p none ∙ r.many) (look_kept _ _ r.tally id m.0.counts mine lead p word Free found zero_word)
              (shelf_out belongs faulty _ _ _ _ _ _ sh id p m.0 w at (slot_in belongs faulty s r p lt) refl refl word found _ word m.0.jobs none_out (λ h. omega arith) (λ h. omega arith) (λ h. cc) (λ q ne. refl) (λ h. cc) (untaken belongs faulty s r p word found (λ h. omega arith))),
          (refl, zero_word),
        ))

    pub returns : (p i : ℕ) (more : List (ℕ × Slot J E)) → i ≡ p * 8 → p < 64 → stage_of p ≡ Free → m.0.out ≡ Some p → m.1 ≡ (p, None) ∷ more → Allows (Desk belongs faulty) n id m i (λ y. y) (returned (step n i 0 0 none) m)
    returns p i more here lt free is_out carries = at_word belongs faulty n id m (λ y. y) (λ q. returned_at q m) p i here (λ s r wide at _.
        let word : ℕ = word_at belongs faulty s r p in let found = there belongs faulty s r p lt in let mine = counts_at belongs faulty s r id m.0 at in let sh = shelf_here belongs faulty s r id m.0 at lead in
        let zero_word = free_word _ _ r.tally id m.0.counts mine lead p word found lt free in
        let w : View J = keeping m.0 (looked_at p word Free m.0.counts) None in
        lands belongs faulty s r p id m (λ y. y) (returned_at p m) lt
        (subst (λ (cs : List (ℕ × Slot J E)). Lands belongs faulty s r p id (m.0, cs) word word (returned_at p (m.0, cs))) (sym carries) (
          w,
          gives,
          tt,
          by_asker belongs faulty s r id m.0 at w (set r.places p word) (set s.homes p (some None)) lead (length-set s.homes p _ ∙ r.many) (look_kept _ _ r.tally id m.0.counts mine lead p word Free found zero_word)
              (shelf_back belongs faulty _ _ _ _ _ _ sh id p m.0 w at (slot_in belongs faulty s r p lt) refl refl word found _ word m.0.jobs is_out (λ h. omega arith) (λ h. omega arith) refl (λ q ne. refl) (untaken belongs faulty s r p word found (λ h. omega arith))),
          (refl, zero_word),
        )))

    -- it leaves a job at the free place whose slot it has out
    pub leaves : (p i : ℕ) (j : J) (more : List (ℕ × Slot J E)) → i ≡ p * 8 → p < 64 → stage_of p ≡ Free → m.0.out ≡ Some p → m.1 ≡ (p, Some (Waiting j)) ∷ more → Allows (Desk belongs faulty) n id m i (λ _. 1) (λ _. left (step n i 1 0 none) m 1)
    leaves p i j more here lt free is_out carries = at_word belongs faulty n id m (λ _. 1) (λ q. λ _. left_at q m 1) p i here (λ s r wide at _.
        let word : ℕ = word_at belongs faulty s r p in let found = there belongs faulty s r p lt in let mine = counts_at belongs faulty s r id m.0 at in let sh = shelf_here belongs faulty s r id m.0 at lead in
        let zero_word = free_word _ _ r.tally id m.0.counts mine lead p word found lt free in
        let w : View J = record m.0 { counts = staged p Asked m.0.counts; jobs = (p, j) ∷ m.0.jobs; asked = (p, j) ∷ m.0.asked; out = None } in
        lands belongs faulty s r p id m (λ _. 1) (λ _. left_at p m 1) lt
        (subst (λ (cs : List (ℕ × Slot J E)). Lands belongs faulty s r p id (m.0, cs) word 1 (λ _. left_at p (m.0, cs) 1)) (sym carries) (
          w,
          gives,
          tt,
          by_asker belongs faulty s r id m.0 at w (set r.places p 1) (set s.homes p (some (Some (Waiting j)))) lead (length-set s.homes p _ ∙ r.many) (asked_kept _ _ r.tally id m.0.counts mine lead p (found ∙ ap some zero_word))
              (shelf_left belongs faulty _ _ _ _ _ _ sh id p m.0 w at (slot_in belongs faulty s r p lt) refl refl word found _ j is_out refl (untaken belongs faulty s r p word found (λ h. omega arith))),
          refl,
        )))

    pub shuts : (p i : ℕ) → i ≡ p * 8 → p < 64 → stage_of p ≡ Free → Allows (Desk belongs faulty) n id m i (λ _. 4) (λ _. shut (step n i 4 0 none) m 4)
    shuts p i here lt free = at_word belongs faulty n id m (λ _. 4) (λ q. λ _. shut_at q m 4) p i here (λ s r wide at _.
        let word : ℕ = word_at belongs faulty s r p in let found = there belongs faulty s r p lt in let mine = counts_at belongs faulty s r id m.0 at in let sh = shelf_here belongs faulty s r id m.0 at lead in
        let zero_word = free_word _ _ r.tally id m.0.counts mine lead p word found lt free in
        let w : View J = counting m.0 (staged p Closed m.0.counts) in
        lands belongs faulty s r p id m (λ _. 4) (λ _. shut_at p m 4) lt (
          w,
          keeps,
          tt,
          by_asker belongs faulty s r id m.0 at w (set r.places p 4) s.homes lead r.many (shut_kept _ _ r.tally id m.0.counts mine lead p (found ∙ ap some zero_word))
              (shelf_shut belongs faulty _ _ _ _ _ _ sh id p m.0 w at (slot_in belongs faulty s r p lt) refl refl word found _ _ (spot_there _ _ r.tally id m.0.counts mine lead p lt) (λ h. let x : Free ≡ Asked = sym free ∙ h in cc) refl),
          refl,
        ))

    -- it looks at a place that is asked
    pub looks : (p i : ℕ) → i ≡ p * 8 → p < 64 → stage_of p ≡ Asked → m.0.out ≡ None → Allows (Desk belongs faulty) n id m i (λ y. y) (looked belongs faulty (step n i 0 0 none) m)
    looks p i here lt asked none_out = at_word belongs faulty n id m (λ y. y) (λ q. looked_at_end belongs faulty q m) p i here (λ s r wide at _.
        let word : ℕ = word_at belongs faulty s r p in let found = there belongs faulty s r p lt in let mine = counts_at belongs faulty s r id m.0 at in let sh = shelf_here belongs faulty s r id m.0 at lead in
        let spot = spot_there _ _ r.tally id m.0.counts mine lead p lt in let fit = asked_word _ _ r.tally id m.0.counts mine lead p word found lt asked in
        let told = looked_at_end belongs faulty p m in
        let busy : (word ≡ 1) ⊎ (word ≡ 2) → Lands belongs faulty s r p id m word word told = λ is. let small : (1 ≤ word) × (word < 3) = ⊎_elim (λ h. (omega arith, omega arith)) (λ h. (omega arith, omega arith)) is in let w : View J = counting m.0 (looked_at p word Asked m.0.counts) in (
          w,
          keeps,
          tt,
          by_asker belongs faulty s r id m.0 at w (set r.places p word) s.homes lead r.many (look_kept _ _ r.tally id m.0.counts mine lead p word Asked found fit) (shelf_looked belongs faulty _ _ _ _ _ _ sh id p m.0 w at (slot_in belongs faulty s r p lt) refl refl word found _ _ spot (sym asked)),
          ((λ _. (small.0, refl)), λ big. let l = small.1 in absurd (omega arith)),
        ) in
        let over : IsEnd word → Lands belongs faulty s r p id m word word told = λ is. let big = end_small word is in let got = (sh.lies p word _ found spot).finished asked is in let w : View J = keeping m.0 (looked_at p word Ended m.0.counts) (Some p) in (
          w,
          takes p (Some (Finished got.0 got.1)),
          got.3,
          by_asker belongs faulty s r id m.0 at w (set r.places p word) (set s.homes p none) lead (length-set s.homes p none ∙ r.many) (look_kept _ _ r.tally id m.0.counts mine lead p word Ended found (refl, is))
              (shelf_out belongs faulty _ _ _ _ _ _ sh id p m.0 w at (slot_in belongs faulty s r p lt) refl refl word found _ word m.0.jobs none_out (λ h. omega arith) (λ h. omega arith) (λ h. cc) (λ q ne. refl) (λ _. (got.0, got.2)) (untaken belongs faulty s r p word found (λ h. omega arith))),
          ((λ small. absurd (omega arith)), λ _. (got.0, got.1, got.2, got.4, got.5, refl)),
        ) in
        lands belongs faulty s r p id m (λ y. y) told lt (⊎_elim (λ h. busy (inl h)) (λ h. ⊎_elim (λ h'. busy (inr h')) over h) fit))

    -- it frees a place whose end it took
    pub frees : (p i : ℕ) (more : List (ℕ × Slot J E)) → i ≡ p * 8 → p < 64 → stage_of p ≡ Ended → m.0.out ≡ Some p → m.1 ≡ (p, None) ∷ more → Allows (Desk belongs faulty) n id m i (λ _. 0) (λ _. took (step n i 0 0 none) m 0)
    frees p i more here lt over is_out carries = at_word belongs faulty n id m (λ _. 0) (λ q. λ _. took_at q m 0) p i here (λ s r wide at _.
        let word : ℕ = word_at belongs faulty s r p in let found = there belongs faulty s r p lt in let mine = counts_at belongs faulty s r id m.0 at in let sh = shelf_here belongs faulty s r id m.0 at lead in
        let big = end_small word (ended_word _ _ r.tally id m.0.counts mine lead p word found lt over).1 in
        let w : View J = freeing p m.0 (took_end p m.0.counts) None in
        lands belongs faulty s r p id m (λ _. 0) (λ _. took_at p m 0) lt
        (subst (λ (cs : List (ℕ × Slot J E)). Lands belongs faulty s r p id (m.0, cs) word 0 (λ _. took_at p (m.0, cs) 0)) (sym carries) (
          w,
          gives,
          tt,
          by_asker belongs faulty s r id m.0 at w (set r.places p 0) (set s.homes p (some None)) lead (length-set s.homes p _ ∙ r.many) (took_kept _ _ r.tally id m.0.counts mine lead p word found lt over)
              (shelf_back belongs faulty _ _ _ _ _ _ sh id p m.0 w at (slot_in belongs faulty s r p lt) refl refl word found _ 0 (without p m.0.jobs) is_out (λ h. omega arith) (λ h. omega arith) refl (λ q ne. stays p q m.0.jobs ne) (untaken belongs faulty s r p word found (λ h. omega arith))),
          refl,
        )))

    -- it takes a job back that still waits
    pub withdraws : (p i : ℕ) → i ≡ p * 8 → p < 64 → stage_of p ≡ Asked → m.0.out ≡ None → Allows (Desk belongs faulty) n id m i (λ y. either (eqb y 1) 0 y) (withdrawn (step n i 1 0 none) m)
    withdraws p i here lt asked none_out = at_word belongs faulty n id m (λ y. either (eqb y 1) 0 y) (λ q. withdrawn_at q m) p i here (λ s r wide at _.
        let word : ℕ = word_at belongs faulty s r p in let found = there belongs faulty s r p lt in let mine = counts_at belongs faulty s r id m.0 at in let sh = shelf_here belongs faulty s r id m.0 at lead in
        let spot = spot_there _ _ r.tally id m.0.counts mine lead p lt in let fit = asked_word _ _ r.tally id m.0.counts mine lead p word found lt asked in
        let told = withdrawn_at p m in
        lands belongs faulty s r p id m (λ y. either (eqb y 1) 0 y) told lt
        (exchanged word 1 0 (λ (z : ℕ). Lands belongs faulty s r p id m word z told)
        (λ hit. let job = (sh.lies p word _ found spot).waiting hit in let j : J = job.0 in let w : View J = freeing p m.0 (staged p Free m.0.counts) (Some p) in (
          w,
          takes p (Some (Waiting j)),
          job.2,
          by_asker belongs faulty s r id m.0 at w (set r.places p 0) (set s.homes p none) lead (length-set s.homes p none ∙ r.many) (withdrawn_kept _ _ r.tally id m.0.counts mine lead p (found ∙ ap some hit))
              (shelf_out belongs faulty _ _ _ _ _ _ sh id p m.0 w at (slot_in belongs faulty s r p lt) refl refl word found _ 0 (without p m.0.jobs) none_out (λ h. omega arith) (λ h. omega arith) (λ h. cc) (λ q ne. stays p q m.0.jobs ne) (λ h. cc) (untaken belongs faulty s r p word found (λ h. omega arith))),
          ((λ _. (j, job.1, refl)), λ miss. absurd (miss hit)),
        ))
        (λ miss. let w : View J = counting m.0 (came_late p word m.0.counts) in (
          w,
          keeps,
          tt,
          by_asker belongs faulty s r id m.0 at w (set r.places p word) s.homes lead r.many (late_kept _ _ r.tally id m.0.counts mine lead p word found lt asked) (shelf_looked belongs faulty _ _ _ _ _ _ sh id p m.0 w at (slot_in belongs faulty s r p lt) refl refl word found _ _ spot refl),
          ((λ hit. absurd (miss hit)), λ _. (⊎_elim (λ hit. absurd (miss hit)) (λ h. h) fit, refl)),
        ))))

    -- it learns of the faults by a look at the bell
    pub counts : Allows (Desk belongs faulty) n id m 512 (λ y. y) (counted (step n 512 0 0 none) m)
    counts s r wide at _ = subst (λ (ws : List ℕ). Goes belongs faulty ws s 512 id m (λ y. y) (counted (step n 512 0 0 none) m)) (sym r.words_are) (
      m.0,
      keeps,
      tt,
      subst (λ (vs : Views belongs faulty). Desk belongs faulty record { words = set (spread r.places ++ r.bell ∷ []) 512 (get_or (spread r.places ++ r.bell ∷ []) 512 0); homes = s.homes; views = vs }) (sym (set_again s.views id m.0 at))
          record { places = r.places; bell = _; words_are = set_bell r.places r.bell 512 _ (omega (arith, r.tally.long)); tally = r.tally; many = r.many; chair = r.chair; asker = r.asker; sits = r.sits; leads = r.leads; shelf = r.shelf },
      (refl, settled _ _ r.tally id m.0.counts (counts_at belongs faulty s r id m.0 at) lead),
    )
