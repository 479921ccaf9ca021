-- Each step of the loader's is one that the rule allows.
use Rattle.std.proofs.Common.{◌≡◌, ℕ, ◌*◌, ◌<◌, eqb, Bool, List, ◌∷◌, set, sym, refl, ap, ◌∙◌, subst, inl, inr, arith, length-set}
use mathlib.Core.Option.{none, some}
use lib.ListN.{get_elem?}
use Rattle.std.specs.Prelude.{Some, None}
use prog.Atomic.{either}
use Rattle.atomic_table.specs.Table.{step, keeps, takes, gives, Allows}
use Rattle.atomic_table.proofs.Lists.{at_map, set_again, exchanged}
use Rattle.ev_seats.proofs.Lists.{inside}
use Rattle.ev_desk.specs.DeskTally.{IsEnd, free_spot}
use Rattle.ev_desk.specs.DeskSteps.{tried, ended_with}
use Rattle.ev_desk.specs.DeskSlots.{Slot, counts_of, end_word, Shelf, Desk}
use Rattle.ev_desk.specs.DeskMoves.{counting, doing, Sat, trying, tried_at, ended}
use Rattle.ev_desk.specs.declared.view.Role.TheVariants.{Loader}
use Rattle.ev_desk.specs.declared.view.View.{View}
use Rattle.ev_desk.specs.declared.view.Entry.TheVariants.{Waiting, Finished}
use Rattle.ev_desk.proofs.Tallies.{held_word, lost_kept, got_kept, gave_kept}
use Rattle.ev_desk.proofs.Shelves.{shelf_seen, shelf_got, shelf_gave}
use Rattle.ev_desk.proofs.Desks.{Lands, lands, word_at, there, counts_at, by_loader, is_asked, slot_in, at_word}

module _ {J E : Type 0} (belongs : J → E → Type 0) (faulty : E → Bool) where
  module _ (n id : ℕ) (m : Sat J E) (loads : m.0.counts.role ≡ Loader) where
    pub tries : (p i : ℕ) → i ≡ p * 8 → p < 64 → m.0.counts.loader.held ≡ None → Allows (Desk belongs faulty) n id m i (λ y. either (eqb y 1) 2 y) (trying (step n i 1 2 none) m)
    tries p i here lt free = at_word belongs faulty n id m (λ y. either (eqb y 1) 2 y) (λ q. tried_at q m) p i here (λ s r wide at _.
        let told = tried_at p m in let word : ℕ = word_at belongs faulty s r p in let is = there belongs faulty s r p lt in let mine = counts_at belongs faulty s r id m.0 at in
        lands belongs faulty s r p id m (λ y. either (eqb y 1) 2 y) told lt
        (exchanged word 1 2 (λ (z : ℕ). Lands belongs faulty s r p id m word z told)
        (λ hit. let is1 : get_elem? r.places p ≡ some 1 = is ∙ ap some hit in let asks = is_asked belongs faulty s r p 1 is1 (inl refl) in
        let spot = inside r.asker.counts.asker.spots p free_spot (omega (arith, (r.tally.asks r.chair r.asker.counts (at_map counts_of s.views r.chair r.asker r.sits) r.leads).many)) in
        let job = (r.shelf.lies p 1 _ is1 spot).waiting refl in let j : J = job.0 in let w : View J = doing m.0 (tried p word (Some p) m.0.counts) (Some j) in (
          w,
          takes p (Some (Waiting j)),
          job.2,
          by_loader belongs faulty s r id m.0 at loads w (set r.places p 2) (set s.homes p none) (length-set s.homes p none ∙ r.many) (got_kept _ _ r.tally id m.0.counts mine p word is hit loads free)
              (shelf_got belongs faulty _ _ _ _ _ _ r.shelf id p m.0 w at (slot_in belongs faulty s r p lt) j is1 asks job.1 refl refl),
          ((λ _. (j, refl)), λ miss. absurd (miss hit)),
        ))
        (λ miss. let w : View J = counting m.0 (tried p word m.0.counts.loader.held m.0.counts) in (
          w,
          keeps,
          tt,
          by_loader belongs faulty s r id m.0 at loads w (set r.places p word) s.homes r.many (lost_kept _ _ r.tally id m.0.counts mine p word is loads)
              (subst (λ (ps : List ℕ). Shelf belongs faulty ps s.homes (set s.views id w) r.asker.counts.asker.spots r.asker.jobs r.asker.out) (sym (set_again r.places p word is)) (shelf_seen belongs faulty _ _ _ _ _ _ r.shelf id m.0 w at refl refl)),
          ((λ hit. absurd (miss hit)), λ _. refl),
        ))))

    pub ends : (p i new : ℕ) (j : J) (d : E) (more : List (ℕ × Slot J E)) → i ≡ p * 8 → p < 64 → m.0.counts.loader.held ≡ Some p → m.0.job ≡ Some j → belongs j d → new ≡ end_word (faulty d) → IsEnd new → m.1 ≡ (p, Some (Finished j d)) ∷ more
        → Allows (Desk belongs faulty) n id m i (λ _. new) (ended (step n i new 0 none) m)
    ends p i new j d more here lt has knows fits is end carries = at_word belongs faulty n id m (λ _. new) (λ q. ended (step n i new 0 none) m) p i here (λ s r wide at _.
        let word : ℕ = word_at belongs faulty s r p in let found = there belongs faulty s r p lt in let mine = counts_at belongs faulty s r id m.0 at in
        let is2 : get_elem? r.places p ≡ some 2 = found ∙ ap some (held_word _ _ r.tally id m.0.counts mine p word found has) in
        let w : View J = doing m.0 (ended_with new m.0.counts) None in
        lands belongs faulty s r p id m (λ _. new) (ended (step n i new 0 none) m) lt
        (subst (λ (cs : List (ℕ × Slot J E)). Lands belongs faulty s r p id (m.0, cs) word new (ended (step n i new 0 none) (m.0, cs))) (sym carries) (
          w,
          gives,
          tt,
          by_loader belongs faulty s r id m.0 at loads w (set r.places p new) (set s.homes p (some (Some (Finished j d)))) (length-set s.homes p _ ∙ r.many) (gave_kept _ _ r.tally id m.0.counts mine p new is2 loads has end)
              (shelf_gave belongs faulty _ _ _ _ _ _ r.shelf id p m.0 w at (slot_in belongs faulty s r p lt) j d new is2 (is_asked belongs faulty s r p 2 is2 (inr refl)) has knows fits is end refl),
          refl,
        )))
