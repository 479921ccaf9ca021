-- A ring is opened, a seat is split off, and a seat comes back.
use Rattle.std.proofs.Common.{◌≡◌, ℕ, List, [], ◌∷◌, ◌++◌, map, set, sym, refl, ap, ◌∙◌, subst, arith, replicate}
use mathlib.Core.Option.{some}
use lib.ListN.{get_elem?}
use lib.Seq.{map-set}
use Rattle.std.proofs.lemmas.List.{map-append, length-map, length-replicate}
use Rattle.std.specs.Prelude.{Some, None}
use Rattle.atomic_table.specs.Table.{opening, Splits, Joins}
use Rattle.atomic_table.proofs.Lists.{at_map, at_longer, set_else}
use Rattle.ev_ring.specs.Tally.{Tally, spent_view as spent_counts}
use Rattle.ev_ring.specs.Steps.{new_hand as new_counts}
use Rattle.ev_ring.specs.RingSlots.{Slot, counts_of, spread, Ring, opening_view, spent_view}
use Rattle.ev_ring.specs.Moves.{parted, new_hand, both}
use Rattle.ev_ring.specs.declared.view.Role.TheVariants.{Owner, Hand}
use Rattle.ev_ring.specs.declared.view.Counts.{Counts}
use Rattle.ev_ring.specs.declared.view.View.{View}
use Rattle.ev_seats.proofs.Lists.{set_at, at_home, lone}
use Rattle.ev_ring.proofs.Tallies.{split_kept, join_kept, opens, apart}
use Rattle.ev_ring.proofs.Shelves.{shelf_stays, shelf_wider}
use Rattle.ev_ring.proofs.Rings.{Views, counts_at, shelf_here, quiet_out}

module _ {J D : Type 0} (belongs : J → D → Type 0) where
  pub splits : (id : ℕ) (v : View J) → v.counts.role ≡ Owner → Splits {S = Slot J D} (Ring belongs) id v (parted v) new_hand
  splits id v lead s r at = let w : View J = parted v in let sh = shelf_here belongs s r id v at lead in let views' : Views belongs = set s.views id w in
      let same : map counts_of (views' ++ new_hand ∷ []) ≡ set (map counts_of s.views) id w.counts ++ new_counts ∷ [] = map-append counts_of views' (new_hand ∷ []) ∙ ap (λ (l : List Counts). l ++ new_counts ∷ []) (map-set counts_of s.views id w) in
      record {
        limit = r.limit;
        claim = r.claim;
        done = r.done;
        bell = r.bell;
        words_are = r.words_are;
        tally = subst (Tally r.limit r.claim r.done) (sym same) (split_kept _ _ _ _ r.tally id v.counts (counts_at belongs s r id v at) lead);
        many = r.many;
        chair = id;
        owner = w;
        sits = at_longer views' (new_hand ∷ []) id w (set_at s.views id w v at);
        leads = lead;
        still = quiet_out belongs s r id v at lead;
        shelf = shelf_wider belongs _ _ _ _ _ _ (shelf_stays belongs _ _ _ _ _ _ sh id v w at v.counts.owner.limit refl (λ _ _. refl) sh.published) new_hand refl;
      }

  pub joins : (id other : ℕ) (v w : View J) → v.counts.role ≡ Owner → w.counts.role ≡ Hand → w.counts.hand.held ≡ None → Joins {S = Slot J D} (Ring belongs) id v other w (both v w) spent_view
  joins id other v w lead role free s r at apart there = let b : View J = both v w in let sh = shelf_here belongs s r id v at lead in let views' : Views belongs = set s.views id b in
      let same : map counts_of (set views' other spent_view) ≡ set (set (map counts_of s.views) id b.counts) other spent_counts = map-set counts_of views' other spent_view ∙ ap (λ (l : List Counts). set l other spent_counts) (map-set counts_of s.views id b) in
      let there' : get_elem? (set (map counts_of s.views) id b.counts) other ≡ some w.counts = ap (λ (l : List Counts). get_elem? l other) (sym (map-set counts_of s.views id b)) ∙ at_map counts_of views' other w there in
      let sh' = shelf_stays belongs _ _ _ _ _ _ sh id v b at v.counts.owner.limit refl (λ _ _. refl) sh.published in
      record {
        limit = r.limit;
        claim = r.claim;
        done = r.done;
        bell = r.bell;
        words_are = r.words_are;
        tally = subst (Tally r.limit r.claim r.done) (sym same) (join_kept _ _ _ _ r.tally id v.counts (counts_at belongs s r id v at) lead other w.counts there' role free);
        many = r.many;
        chair = id;
        owner = b;
        sits = set_else views' other id spent_view (λ e. apart (sym e)) ∙ set_at s.views id b v at;
        leads = lead;
        still = quiet_out belongs s r id v at lead;
        shelf = shelf_stays belongs _ _ _ _ _ _ sh' other w spent_view there v.counts.owner.limit (sym free) (λ t h. cc) sh'.published;
      }

  abbrev nothing : Slot J D
  nothing = None

  pub starts : (words : List ℕ) (slots : ℕ) → words ≡ spread 0 0 0 0 → slots ≡ 4096 → Ring belongs (opening words (replicate slots None) opening_view)
  starts words slots is many = record {
    limit = 0;
    claim = 0;
    done = 0;
    bell = 0;
    words_are = is;
    tally = opens;
    many = length-map (replicate slots nothing) some ∙ (length-replicate slots nothing ∙ many);
    chair = 0;
    owner = opening_view;
    sits = refl;
    leads = refl;
    still = λ i e. cc;
    shelf = record {
      near = λ t u j k a b. cc;
      published = λ t a b. absurd (omega arith);
      waiting = λ t j e a. cc;
      held = λ k v t e h. let x : None ≡ Some t = ap (λ (y : View J). y.counts.hand.held) (lone opening_view v k e) ∙ h in cc;
      finished = λ t j e a b. cc;
      idle = λ i small _ _. at_home slots i nothing (omega arith);
      lent = λ i e. cc;
    };
  }
