-- What all steps of the desk owe, by the seat that steps.
use Rattle.std.proofs.Common.{◌≡◌, ◌⊎◌, ℕ, ◌*◌, ◌<◌, ◌≢◌, Bool, List, [], ◌∷◌, ◌++◌, map, length, get_or, set, sym, refl, ap, ◌∙◌, subst, arith}
use mathlib.Core.Logic.{dite}
use mathlib.Core.Option.{some, some-injective}
use native.Mathlib.Decide.{ℕ_discrete}
use lib.ListN.{get_elem?}
use lib.Seq.{map-set}
use Rattle.std.specs.Prelude.{Some}
use Rattle.atomic_table.specs.Table.{State, Act, Valid, homes_after, carried_after, Allows}
use Rattle.atomic_table.proofs.Lists.{at_map, set_else}
use Rattle.ev_seats.proofs.Lists.{inside, set_at}
use Rattle.ev_seats.specs.Homes.{Homes}
use Rattle.ev_desk.specs.DeskTally.{Tally}
use Rattle.ev_desk.specs.DeskSlots.{Slot, spread, place_of, counts_of, Shelf, Desk}
use Rattle.ev_desk.specs.DeskMoves.{Sat}
use Rattle.ev_desk.specs.declared.view.Role.TheVariants.{Asker, Loader}
use Rattle.ev_desk.specs.declared.view.Stage.TheVariants.{Asked}
use Rattle.ev_desk.specs.declared.view.Spot.{Spot}
use Rattle.ev_desk.specs.declared.view.View.{View}
use Rattle.ev_desk.specs.declared.view.Entry.{Entry}
use Rattle.ev_desk.proofs.Tallies.{alone, unheld, asked_stage}
use Rattle.ev_desk.proofs.Spread.{at_spread, set_spread, place_back}

module _ {J E : Type 0} (belongs : J → E → Type 0) (faulty : E → Bool) where
  abbrev pub St : Type 0
  St = State (Slot J E) (View J)

  abbrev pub Views : Type 0
  Views = List (View J)

  abbrev pub desk : List ℕ → ℕ → Homes (Entry J E) → Views → St
  desk places bell homes views = record { words = spread places ++ bell ∷ []; homes = homes; views = views }

  -- what a step on the word i owes where the words are ws
  abbrev pub Goes : List ℕ → St → ℕ → ℕ → Sat J E → (ℕ → ℕ) → (ℕ → Sat J E → Type 0) → Type 0
  Goes ws s i id m f then = (w : View J) × (a : Act (Slot J E)) × Valid s.homes m.1 a × Desk belongs faulty record { words = set ws i (f (get_or ws i 0)); homes = homes_after s.homes m.1 a; views = set s.views id w } × then (get_or ws i 0) (w, carried_after m.1 a)

  module _ (s : St) (r : Desk belongs faulty s) where
    -- the same, where the word of a place was `word` and becomes `new`
    abbrev pub Lands : ℕ → ℕ → Sat J E → ℕ → ℕ → (ℕ → Sat J E → Type 0) → Type 0
    Lands p id m word new then = (w : View J) × (a : Act (Slot J E)) × Valid s.homes m.1 a × Desk belongs faulty (desk (set r.places p new) r.bell (homes_after s.homes m.1 a) (set s.views id w)) × then word (w, carried_after m.1 a)

    abbrev pub word_at : ℕ → ℕ
    word_at p = get_or r.places p 0

    pub there : (p : ℕ) → p < 64 → get_elem? r.places p ≡ some (word_at p)
    there p lt = inside r.places p 0 (omega (arith, r.tally.long))

    pub lands : (p id : ℕ) (m : Sat J E) (f : ℕ → ℕ) (then : ℕ → Sat J E → Type 0) → p < 64 → Lands p id m (word_at p) (f (word_at p)) then → Goes s.words s (p * 8) id m f then
    lands p id m f then lt g =
        let ws : List ℕ = spread r.places ++ r.bell ∷ [] in let i : ℕ = p * 8 in let small : p < length r.places = omega (arith, r.tally.long) in
        let found : get_or ws i 0 ≡ word_at p = at_spread r.places (r.bell ∷ []) p i refl small in
        subst (λ (l : List ℕ). Goes l s i id m f then) (sym r.words_are) (
          g.0,
          g.1,
          g.2,
          subst (λ (l : List ℕ). Desk belongs faulty record { words = l; homes = homes_after s.homes m.1 g.1; views = set s.views id g.0 }) (sym (ap (λ (z : ℕ). set ws i (f z)) found ∙ set_spread r.places (r.bell ∷ []) p i (f (word_at p)) refl small)) g.3,
          subst (λ (z : ℕ). then z (g.0, carried_after m.1 g.1)) (sym found) g.4,
        )

    module _ (id : ℕ) (v : View J) (at : get_elem? s.views id ≡ some v) where
      pub counts_at : get_elem? (map counts_of s.views) id ≡ some v.counts
      counts_at = at_map counts_of s.views id v at

      pub tallied : (places : List ℕ) (w : View J) → Tally places (set (map counts_of s.views) id w.counts) → Tally places (map counts_of (set s.views id w))
      tallied places w t = subst (Tally places) (sym (map-set counts_of s.views id w)) t

      pub here : v.counts.role ≡ Asker → (r.chair ≡ id) × (r.asker ≡ v)
      here lead = dite (ℕ_discrete r.chair id)
          (λ is. (is, some-injective _ _ (sym r.sits ∙ (ap (λ (k : ℕ). get_elem? s.views k) is ∙ at))))
          (λ ne. absurd (alone _ _ r.tally id v.counts counts_at lead r.chair r.asker.counts ne (at_map counts_of s.views r.chair r.asker r.sits) r.leads))

      -- a step of the loader's
      pub by_loader : v.counts.role ≡ Loader → (w : View J) (places : List ℕ) (homes : Homes (Entry J E)) → length homes ≡ 64 → Tally places (set (map counts_of s.views) id w.counts)
          → Shelf belongs faulty places homes (set s.views id w) r.asker.counts.asker.spots r.asker.jobs r.asker.out → Desk belongs faulty (desk places r.bell homes (set s.views id w))
      by_loader loader w places homes many t sh =
          let ne : r.chair ≢ id = λ is. let e : r.asker ≡ v = some-injective _ _ (sym r.sits ∙ (ap (λ (k : ℕ). get_elem? s.views k) is ∙ at)) in let x : Loader ≡ Asker = sym loader ∙ (ap (λ (y : View J). y.counts.role) (sym e) ∙ r.leads) in cc in
          record { places = places; bell = r.bell; words_are = refl; tally = tallied places w t; many = many; chair = r.chair; asker = r.asker; sits = set_else s.views id r.chair w ne ∙ r.sits; leads = r.leads; shelf = sh }

      -- a step of the asker's
      pub by_asker : (w : View J) (places : List ℕ) (homes : Homes (Entry J E)) → w.counts.role ≡ Asker → length homes ≡ 64 → Tally places (set (map counts_of s.views) id w.counts)
          → Shelf belongs faulty places homes (set s.views id w) w.counts.asker.spots w.jobs w.out → Desk belongs faulty (desk places r.bell homes (set s.views id w))
      by_asker w places homes lead many t sh = record { places = places; bell = r.bell; words_are = refl; tally = tallied places w t; many = many; chair = id; asker = w; sits = set_at s.views id w v at; leads = lead; shelf = sh }

      pub shelf_here : v.counts.role ≡ Asker → Shelf belongs faulty r.places s.homes s.views v.counts.asker.spots v.jobs v.out
      shelf_here lead = subst (λ (o : View J). Shelf belongs faulty r.places s.homes s.views o.counts.asker.spots o.jobs o.out) (here lead).1 r.shelf

    -- the place of a word that is 1 or 2 is asked
    pub is_asked : (p word : ℕ) → get_elem? r.places p ≡ some word → (word ≡ 1) ⊎ (word ≡ 2) → (x : Spot) → get_elem? r.asker.counts.asker.spots p ≡ some x → x.stage ≡ Asked
    is_asked p word at is x e = asked_stage x.stage x.word word ((r.tally.asks r.chair r.asker.counts (at_map counts_of s.views r.chair r.asker r.sits) r.leads).fits p word x at e) is

    -- no seat holds a place whose word is not 2
    pub untaken : (p word : ℕ) → get_elem? r.places p ≡ some word → word ≢ 2 → (k : ℕ) (u : View J) → get_elem? s.views k ≡ some u → u.counts.loader.held ≡ Some p → ⊥
    untaken p word at ne k u e h = unheld _ _ r.tally r.chair r.asker.counts (at_map counts_of s.views r.chair r.asker r.sits) p word k u.counts at ne (at_map counts_of s.views k u e) h

    pub slot_in : (p : ℕ) → p < 64 → p < length s.homes
    slot_in p lt = omega (arith, r.many)

  -- the same of a step on the word of a place
  pub at_word : (n id : ℕ) (m : Sat J E) (f : ℕ → ℕ) (told : ℕ → ℕ → Sat J E → Type 0) (p i : ℕ) → i ≡ p * 8 → Allows (Desk belongs faulty) n id m (p * 8) f (told p) → Allows (Desk belongs faulty) n id m i f (told (place_of i))
  at_word n id m f told p i is a = subst (λ (k : ℕ). Allows (Desk belongs faulty) n id m k f (told (place_of k))) (sym is) (subst (λ (q : ℕ). Allows (Desk belongs faulty) n id m (p * 8) f (told q)) (sym (place_back p (p * 8) refl)) a)
