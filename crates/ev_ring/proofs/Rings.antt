-- What all steps of the ring owe, by the seat that steps.
use Rattle.std.proofs.Common.{◌≡◌, ℕ, ◌==◌, eq-eqb, true, List, map, length, get_or, set, sym, refl, ap, ◌∙◌, subst, arith}
use mathlib.Core.Logic.{dite}
use mathlib.Core.Option.{some, some-injective}
use native.Mathlib.Decide.{ℕ_discrete}
use lib.ListN.{get_elem?}
use lib.Seq.{map-set}
use Rattle.std.specs.Prelude.{Option, Some}
use Rattle.atomic_table.specs.Table.{State, Act, Valid, homes_after, carried_after}
use Rattle.atomic_table.proofs.Lists.{at_map, set_else}
use Rattle.ev_ring.specs.Tally.{bare, Tally}
use Rattle.ev_ring.specs.RingSlots.{Slot, counts_of, spread, Shelf, Ring}
use Rattle.ev_ring.specs.Moves.{Sat, Sees}
use Rattle.ev_ring.specs.declared.view.Role.TheVariants.{Owner}
use Rattle.ev_ring.specs.declared.view.Counts.{Counts}
use Rattle.ev_ring.specs.declared.view.View.{View}
use Rattle.ev_ring.specs.declared.view.Entry.{Entry}
use Rattle.ev_seats.proofs.Sums.{term_le}
use Rattle.ev_seats.proofs.Lists.{set_at}
use Rattle.ev_seats.specs.Weights.{is_one}
use Rattle.ev_seats.specs.Homes.{Homes}
use Rattle.ev_ring.proofs.Tallies.{bare_word, done_below, quiet_agrees, alone}
use Rattle.ev_ring.proofs.Shelves.{shelf_stays}

module _ {J D : Type 0} (belongs : J → D → Type 0) where
  abbrev pub St : Type 0
  St = State (Slot J D) (View J)

  abbrev pub Views : Type 0
  Views = List (View J)

  abbrev pub ring : ℕ → ℕ → ℕ → ℕ → Homes (Entry J D) → Views → St
  ring l c d b homes views = record { words = spread l c d b; homes = homes; views = views }

  -- what a step on the word i owes where the words are ws
  abbrev pub Goes : List ℕ → St → ℕ → ℕ → Sat J D → (ℕ → ℕ) → (ℕ → Sat J D → Type 0) → Type 0
  Goes ws s i id m f then = (w : View J) × (a : Act (Slot J D)) × Valid s.homes m.1 a × Ring belongs record { words = set ws i (f (get_or ws i 0)); homes = homes_after s.homes m.1 a; views = set s.views id w } × then (get_or ws i 0) (w, carried_after m.1 a)

  module _ (s : St) (r : Ring belongs s) where
    -- the limit is the owner's
    pub limit_is : bare r.limit ≡ r.owner.counts.owner.limit
    limit_is = let x = r.tally.leads r.chair r.owner.counts (at_map counts_of s.views r.chair r.owner r.sits) r.leads in ap bare x.limit_is ∙ bare_word r.owner.counts.owner.is_closed r.owner.counts.owner.limit x.room

    module _ (id : ℕ) (v : View J) (at : get_elem? s.views id ≡ some v) where
      pub counts_at : get_elem? (map counts_of s.views) id ≡ some v.counts
      counts_at = at_map counts_of s.views id v at

      pub tallied : (l c d : ℕ) (w : View J) → Tally l c d (set (map counts_of s.views) id w.counts) → Tally l c d (map counts_of (set s.views id w))
      tallied l c d w t = subst (Tally l c d) (sym (map-set counts_of s.views id w)) t

      here : v.counts.role ≡ Owner → (r.chair ≡ id) × (r.owner ≡ v)
      here lead = dite (ℕ_discrete r.chair id)
          (λ is. (is, some-injective _ _ (sym r.sits ∙ (ap (λ (k : ℕ). get_elem? s.views k) is ∙ at))))
          (λ ne. absurd (alone _ _ _ _ r.tally id v.counts counts_at lead r.chair r.owner.counts ne (at_map counts_of s.views r.chair r.owner r.sits) r.leads))

      -- a step as a hand, of any seat
      pub by_hand : (w : View J) (c d : ℕ) (homes : Homes (Entry J D)) → w.counts.role ≡ v.counts.role → w.counts.owner.limit ≡ v.counts.owner.limit → w.counts.owner.is_quiet ≡ v.counts.owner.is_quiet → w.jobs ≡ v.jobs → w.out ≡ v.out → length homes ≡ 4096
          → Tally r.limit c d (set (map counts_of s.views) id w.counts) → Shelf belongs r.owner.counts.owner.limit c homes (set s.views id w) r.owner.jobs r.owner.out → Ring belongs (ring r.limit c d r.bell homes (set s.views id w))
      by_hand w c d homes same limit quiet jobs out many t sh = dite (ℕ_discrete r.chair id)
          (λ is. let e : r.owner ≡ v = some-injective _ _ (sym r.sits ∙ (ap (λ (k : ℕ). get_elem? s.views k) is ∙ at)) in
          let a : r.owner.counts.owner.limit ≡ w.counts.owner.limit = ap (λ (x : View J). x.counts.owner.limit) e ∙ sym limit in
          let b : r.owner.jobs ≡ w.jobs = ap (λ (x : View J). x.jobs) e ∙ sym jobs in let o : r.owner.out ≡ w.out = ap (λ (x : View J). x.out) e ∙ sym out in
          record {
            limit = r.limit;
            claim = c;
            done = d;
            bell = r.bell;
            words_are = refl;
            tally = tallied r.limit c d w t;
            many = many;
            chair = id;
            owner = w;
            sits = set_at s.views id w v at;
            leads = same ∙ (ap (λ (x : View J). x.counts.role) (sym e) ∙ r.leads);
            still = λ i is_out. quiet ∙ (ap (λ (x : View J). x.counts.owner.is_quiet) (sym e) ∙ r.still i (o ∙ is_out));
            shelf = subst (λ (n : ℕ). Shelf belongs n c homes (set s.views id w) w.jobs w.out) a (subst (λ (js : List (ℕ × J)). Shelf belongs r.owner.counts.owner.limit c homes (set s.views id w) js w.out) b
                (subst (λ (y : Option ℕ). Shelf belongs r.owner.counts.owner.limit c homes (set s.views id w) r.owner.jobs y) o sh));
          })
          (λ ne. record { limit = r.limit; claim = c; done = d; bell = r.bell; words_are = refl; tally = tallied r.limit c d w t; many = many; chair = r.chair; owner = r.owner; sits = set_else s.views id r.chair w ne ∙ r.sits; leads = r.leads; still = r.still; shelf = sh })

      -- a step of the owner's
      pub by_owner : v.counts.role ≡ Owner → (w : View J) (l : ℕ) (homes : Homes (Entry J D)) → w.counts.role ≡ v.counts.role → ((i : ℕ) → w.out ≡ Some i → w.counts.owner.is_quiet ≡ true) → length homes ≡ 4096
          → Tally l r.claim r.done (set (map counts_of s.views) id w.counts) → Shelf belongs w.counts.owner.limit r.claim homes (set s.views id w) w.jobs w.out → Ring belongs (ring l r.claim r.done r.bell homes (set s.views id w))
      by_owner lead w l homes same still many t sh = record { limit = l; claim = r.claim; done = r.done; bell = r.bell; words_are = refl; tally = tallied l r.claim r.done w t; many = many; chair = id; owner = w; sits = set_at s.views id w v at; leads = same ∙ lead; still = still; shelf = sh }

      -- the owner is quiet where it has a slot out
      pub quiet_out : v.counts.role ≡ Owner → (i : ℕ) → v.out ≡ Some i → v.counts.owner.is_quiet ≡ true
      quiet_out lead i is_out = let e = (here lead).1 in ap (λ (x : View J). x.counts.owner.is_quiet) (sym e) ∙ r.still i (ap (λ (x : View J). x.out) e ∙ is_out)

      -- a look at the number of tickets done keeps a quiet owner quiet
      pub stays_quiet : v.counts.role ≡ Owner → v.counts.owner.is_quiet ≡ true → (r.done == v.counts.owner.limit) ≡ true
      stays_quiet lead quiet = eq-eqb r.done v.counts.owner.limit ((r.tally.leads id v.counts counts_at lead).quiet quiet)

      -- the owner's own shelf
      pub shelf_here : v.counts.role ≡ Owner → Shelf belongs v.counts.owner.limit r.claim s.homes s.views v.jobs v.out
      shelf_here lead = subst (λ (o : View J). Shelf belongs o.counts.owner.limit r.claim s.homes s.views o.jobs o.out) (here lead).1 r.shelf

      -- a look as a hand
      pub looking : (w : View J) → w.counts.role ≡ v.counts.role → w.counts.owner.limit ≡ v.counts.owner.limit → w.counts.owner.is_quiet ≡ v.counts.owner.is_quiet → w.jobs ≡ v.jobs → w.out ≡ v.out → w.counts.hand.held ≡ v.counts.hand.held → w.job ≡ v.job
          → Tally r.limit r.claim r.done (set (map counts_of s.views) id w.counts) → Ring belongs (ring r.limit r.claim r.done r.bell s.homes (set s.views id w))
      looking w same limit quiet jobs out held job t = by_hand w r.claim r.done s.homes same limit quiet jobs out r.many t (shelf_stays belongs _ _ _ _ _ _ r.shelf id v w at r.owner.counts.owner.limit held (λ _ _. job) r.shelf.published)

      pub sees : v.counts.role ≡ Owner → Sees v.counts r.done
      sees lead = let x = r.tally.leads id v.counts counts_at lead in (x.seen, x.own, done_below _ _ _ _ r.tally id v.counts counts_at lead, x.quiet)

      -- where the owner is quiet, the claim is its limit
      pub calm : v.counts.role ≡ Owner → v.counts.owner.is_quiet ≡ true → (r.claim ≡ v.counts.owner.limit) × ((k : ℕ) (u : View J) (t : ℕ) → get_elem? s.views k ≡ some u → u.counts.hand.held ≡ Some t → ⊥)
      calm lead quiet = let q = quiet_agrees _ _ _ _ r.tally id v.counts counts_at lead quiet in
          (q.1, λ k u t e h. omega (arith, q.2, term_le (λ (y : Counts). is_one y.hand.held) (map counts_of s.views) k u.counts (at_map counts_of s.views k u e), ap is_one h))
