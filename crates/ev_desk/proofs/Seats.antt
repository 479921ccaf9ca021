-- A desk is opened, the loader is split off, and it comes back.
use Rattle.std.proofs.Common.{◌≡◌, ℕ, zero, suc, ◌<◌, Bool, List, [], ◌∷◌, ◌++◌, map, set, sym, refl, ap, ◌∙◌, subst, arith, replicate}
use mathlib.Core.Option.{some, some-ne-none}
use lib.ListN.{get_elem?}
use lib.Seq.{map-set}
use Rattle.std.proofs.lemmas.List.{map-append, length-map, length-replicate}
use Rattle.std.specs.Prelude.{Some, None}
use Rattle.atomic_table.specs.Table.{opening, Splits, Joins}
use Rattle.atomic_table.proofs.Lists.{at_map, at_longer, set_else}
use Rattle.ev_seats.proofs.Lists.{set_at, at_replicate, at_home, lone}
use Rattle.ev_desk.specs.DeskTally.{Tally, new_loader, spent_counts, free_spot}
use Rattle.ev_desk.specs.DeskSlots.{Slot, counts_of, Lies, Desk, opening_view, loader_view, spent_view}
use Rattle.ev_desk.specs.DeskMoves.{parted, both}
use Rattle.ev_desk.specs.declared.view.Role.TheVariants.{Asker, Loader}
use Rattle.ev_desk.specs.declared.view.Spot.{Spot}
use Rattle.ev_desk.specs.declared.view.Counts.{Counts}
use Rattle.ev_desk.specs.declared.view.View.{View}
use Rattle.ev_desk.proofs.Tallies.{split_kept, join_kept, opens}
use Rattle.ev_desk.proofs.Shelves.{shelf_seen, shelf_wider, shelf_gone}
use Rattle.ev_desk.proofs.Spread.{all_zero}
use Rattle.ev_desk.proofs.Desks.{Views, counts_at, shelf_here}

module _ {J E : Type 0} (belongs : J → E → Type 0) (faulty : E → Bool) where
  pub splits : (id : ℕ) (v : View J) → v.counts.role ≡ Asker → v.counts.asker.loaders ≡ 0 → v.counts.loader.faults ≡ 0 → Splits {S = Slot J E} (Desk belongs faulty) id v (parted v) loader_view
  splits id v lead none_out clean s r at = let w : View J = parted v in let sh = shelf_here belongs faulty s r id v at lead in let views' : Views belongs faulty = set s.views id w in
      let same : map counts_of (views' ++ loader_view ∷ []) ≡ set (map counts_of s.views) id w.counts ++ new_loader ∷ [] = map-append counts_of views' (loader_view ∷ []) ∙ ap (λ (l : List Counts). l ++ new_loader ∷ []) (map-set counts_of s.views id w) in
      record {
        places = r.places;
        bell = r.bell;
        words_are = r.words_are;
        tally = subst (Tally r.places) (sym same) (split_kept _ _ r.tally id v.counts (counts_at belongs faulty s r id v at) lead none_out clean);
        many = r.many;
        chair = id;
        asker = w;
        sits = at_longer views' (loader_view ∷ []) id w (set_at s.views id w v at);
        leads = lead;
        shelf = shelf_wider belongs faulty _ _ _ _ _ _ (shelf_seen belongs faulty _ _ _ _ _ _ sh id v w at refl refl) loader_view refl;
      }

  pub joins : (id other : ℕ) (v w : View J) → v.counts.role ≡ Asker → w.counts.role ≡ Loader → w.counts.loader.held ≡ None → Joins {S = Slot J E} (Desk belongs faulty) id v other w (both v w) spent_view
  joins id other v w lead role free s r at apart there = let b : View J = both v w in let sh = shelf_here belongs faulty s r id v at lead in let views' : Views belongs faulty = set s.views id b in
      let same : map counts_of (set views' other spent_view) ≡ set (set (map counts_of s.views) id b.counts) other spent_counts = map-set counts_of views' other spent_view ∙ ap (λ (l : List Counts). set l other spent_counts) (map-set counts_of s.views id b) in
      let there' : get_elem? (set (map counts_of s.views) id b.counts) other ≡ some w.counts = ap (λ (l : List Counts). get_elem? l other) (sym (map-set counts_of s.views id b)) ∙ at_map counts_of views' other w there in
      record {
        places = r.places;
        bell = r.bell;
        words_are = r.words_are;
        tally = subst (Tally r.places) (sym same) (join_kept _ _ r.tally id v.counts (counts_at belongs faulty s r id v at) lead other w.counts there' apart role free);
        many = r.many;
        chair = id;
        asker = b;
        sits = set_else views' other id spent_view (λ e. apart (sym e)) ∙ set_at s.views id b v at;
        leads = lead;
        shelf = shelf_gone belongs faulty _ _ _ _ _ _ (shelf_seen belongs faulty _ _ _ _ _ _ sh id v b at refl refl) other spent_view refl;
      }

  abbrev nothing : Slot J E
  nothing = None

  index_small : (k i a x : ℕ) → get_elem? (replicate k a) i ≡ some x → i < k
  index_small zero i a x e = absurd (some-ne-none x (sym e))
  index_small (suc k) zero a x e = omega arith
  index_small (suc k) (suc i) a x e = omega (arith, index_small k i a x e)

  pub starts : (words : List ℕ) (slots : ℕ) → words ≡ replicate 513 0 → slots ≡ 64 → Desk belongs faulty (opening words (replicate slots None) opening_view)
  starts words slots is many = record {
    places = replicate 64 0;
    bell = 0;
    words_are = is ∙ all_zero;
    tally = opens;
    many = length-map (replicate slots nothing) some ∙ (length-replicate slots nothing ∙ many);
    chair = 0;
    asker = opening_view;
    sits = refl;
    leads = refl;
    shelf = record {
      lies = λ p word x a b. let z : 0 ≡ word = at_replicate 64 p 0 word a in let small = index_small 64 p 0 word a in
          subst (λ (y : Spot). Lies belongs faulty (map some (replicate slots nothing)) [] None p y.stage word) (at_replicate 64 p free_spot x b) record {
            waiting = λ h. absurd (omega arith);
            busy = λ h. absurd (omega arith);
            finished = λ h _. cc;
            idle = λ _ _. at_home slots p nothing (omega arith);
            lent = λ h. cc;
            known = λ h. cc;
          };
      knows = λ k p u e h. let x : None ≡ Some p = ap (λ (y : View J). y.counts.loader.held) (lone opening_view u k e) ∙ h in cc;
    };
  }
