-- Objects of a list that are changed one after another.
use Rattle.std.proofs.Common.{◌≡◌, ℕ, ◌<◌, ◌≤◌, ◌+◌, Bool, true, false, List, Option, Some, None, inl, inr, get_or, drop, length, refl, sym, ◌∙◌, ap, arith, if◌then◌else◌, ◌==◌, ◌||◌}
use Rattle.std.proofs.Math.Bool.{true≢false}
use Rattle.std.proofs.lemmas.Bool.Decides.{nat_tests, eqb_tells}
use Rattle.std.proofs.lemmas.List.{drop_more, drop_all}
use Rattle.std.proofs.lemmas.Option.{none-some}
use Rattle.std.specs.FinMap as fin
use Rattle.std.specs.Option.{option_and_then, option_or, option_map}
use Rattle.ev_links.specs.declared.table.Table.{Table}
use Rattle.ev_links.specs.Ties.{Tie, Ties, next_at, clipper_at, parent_at, has, IsSound}
use Rattle.ev_links.specs.Tables.{tie_in, clips_in, ties_of, with_clipper}
use Rattle.ev_links.specs.KeptTable.{IsKept}
use Rattle.ev_links.proofs.Ways.{ends_shortened, Shortens}
use Rattle.ev_links.proofs.Counts.{Counts-same}
use Rattle.ev_links.proofs.Views.{get-ties_of, read}

-- one more is changed
pub swept_more : {X : Type 0} (change : X → X) → ((x : X) → change (change x) ≡ change x) → (ids : List ℕ) (i : ℕ) → i < length ids → (now new : ℕ → X) (end : X) (q : ℕ)
    → new q ≡ (if q == get_or ids i 0 then change (now q) else now q)
    → (if has (drop i ids) q then change (now q) else now q) ≡ end → (if has (drop (i + 1) ids) q then change (new q) else new q) ≡ end
swept_more {X} change twice ids i low now new end q is so_far =
    ap (λ x. if has (drop (i + 1) ids) q then change x else x) is ∙ step (has (drop (i + 1) ids) q) ∙ sym (ap (λ rest. if has rest q then change (now q) else now q) (drop_more ids i 0 low)) ∙ so_far
  where
    again : (b : Bool) → (if b then change (change (now q)) else change (now q)) ≡ change (now q)
    again true = twice (now q)
    again false = refl

    step : (b : Bool) → (let x : X = if q == get_or ids i 0 then change (now q) else now q in if b then change x else x) ≡ (if get_or ids i 0 == q || b then change (now q) else now q)
    step b = elim (eqb_tells q (get_or ids i 0)) [
      | inl same ↦ let back : (get_or ids i 0 == q) ≡ true = grind (arith, nat_tests, same.1) in rw (same.0, back) (again b)
      | inr differ ↦ let back : (get_or ids i 0 == q) ≡ false = grind (arith, nat_tests, differ.1) in rw (differ.0, back) refl
    ]

-- all are changed
pub swept_all : {X : Type 0} (change : X → X) (ids : List ℕ) (i : ℕ) → length ids ≤ i → (now : ℕ → X) (end : X) (q : ℕ) → (if has (drop i ids) q then change (now q) else now q) ≡ end → now q ≡ end
swept_all change ids i done now end q so_far = sym (ap (λ rest. if has rest q then change (now q) else now q) (drop_all i ids done)) ∙ so_far

-- an object loses its clipper once
pub unclipped_twice : (t : Option Tie) → option_map (with_clipper None) (option_map (with_clipper None) t) ≡ option_map (with_clipper None) t
unclipped_twice None = refl
unclipped_twice (Some tie) = refl

-- The objects of a list go from the ties.
module _ (ids : List ℕ) (ties new : ℕ → Option Tie) (thin : (q : ℕ) → new q ≡ (if has ids q then None else ties q)) where
  stays : (q : ℕ) → has ids q ≡ false → new q ≡ ties q
  stays q e = thin q ∙ ap (λ b. if b then None else ties q) e

  goes : (q : ℕ) → has ids q ≡ true → new q ≡ None
  goes q e = thin q ∙ ap (λ b. if b then None else ties q) e

  -- what is there was there, and didn't go
  was : {A : Type 0} (part : Tie → Option A) (q : ℕ) (x : A) → option_and_then part (new q) ≡ Some x → (has ids q ≡ false) × (option_and_then part (ties q) ≡ Some x)
  was part q x e = go (has ids q) refl
    where
      go : (b : Bool) → has ids q ≡ b → (has ids q ≡ false) × (option_and_then part (ties q) ≡ Some x)
      go true f = absurd (none-some x (sym (ap (option_and_then part) (goes q f)) ∙ e))
      go false f = (f, sym (ap (option_and_then part) (stays q f)) ∙ e)

  -- Nobody has a clipper that goes, and whose parent goes goes as well.
  sound_thinned : IsSound ties → ((q c : ℕ) → clipper_at ties q ≡ Some c → has ids c ≡ false) → ((q p : ℕ) → parent_at ties q ≡ Some p → has ids p ≡ true → has ids q ≡ true) → IsSound new
  sound_thinned s apart members = record {
    ends = λ x. let way = s.ends x in ends_shortened (next_at ties) (next_at new) short x way.0 way.1;
    clippers = λ q c e. let w = was (λ tie. tie.clipper) q c e in ap (option_and_then (λ tie. Some tie.kind)) (stays c (apart q c w.1)) ∙ s.clippers q c w.1;
    parents = λ q p e. let w = was (λ tie. tie.parent) q p e in ap (option_and_then (λ tie. Some tie.kind)) (stays p (parent_stays q p w.0 w.1 (has ids p) refl)) ∙ s.parents q p w.1;
    siblings = λ q c e. let w = was (λ tie. tie.clipper) q c e in ap (option_and_then (λ tie. tie.parent)) (stays c (apart q c w.1)) ∙ s.siblings q c w.1 ∙ sym (ap (option_and_then (λ tie. tie.parent)) (stays q w.0));
  }
    where
      short : (q : ℕ) → Shortens (next_at ties) (next_at new) q
      short q = go (has ids q) refl
        where
          go : (b : Bool) → has ids q ≡ b → Shortens (next_at ties) (next_at new) q
          go true f = inr (inl (ap (option_and_then (λ tie. option_or tie.clipper tie.parent)) (goes q f)))
          go false f = inl (ap (option_and_then (λ tie. option_or tie.clipper tie.parent)) (stays q f))

      parent_stays : (q p : ℕ) → has ids q ≡ false → parent_at ties q ≡ Some p → (b : Bool) → has ids p ≡ b → has ids p ≡ false
      parent_stays q p stay e true f = absurd (true≢false (sym (members q p e f) ∙ stay))
      parent_stays q p stay e false f = f

-- Nodes go whose clippers were taken before: what is kept of a table stays true.
kept_thinned : (ids : List ℕ) (mid new : Table) → IsKept mid → ((q : ℕ) → has ids q ≡ true → clipper_at (tie_in mid) q ≡ None) → ((q c : ℕ) → clipper_at (tie_in mid) q ≡ Some c → has ids c ≡ false)
    → ((q p : ℕ) → parent_at (tie_in mid) q ≡ Some p → has ids p ≡ true → has ids q ≡ true)
    → ((q : ℕ) → tie_in new q ≡ (if has ids q then None else tie_in mid q)) → ((q : ℕ) → clips_in new q ≡ (if has ids q then None else clips_in mid q)) → IsKept new
kept_thinned ids mid new kept free apart members ties clips = record {
  sound = sound_thinned ids (tie_in mid) (tie_in new) ties kept.sound apart members;
  counted = λ q n e. Counts-same (clipper_at (tie_in mid)) (clipper_at (tie_in new)) q n (kept.counted q n (counted q n e (has ids q) refl))
      (λ other f. (was ids (tie_in mid) (tie_in new) ties (λ tie. tie.clipper) other q f).1)
      (λ other f. ap (option_and_then (λ tie. tie.clipper)) (stays ids (tie_in mid) (tie_in new) ties other (bound other q f (has ids other) refl)) ∙ f);
}
  where
    counted : (q n : ℕ) → clips_in new q ≡ Some n → (b : Bool) → has ids q ≡ b → clips_in mid q ≡ Some n
    counted q n e true f = absurd (none-some n (sym (clips q ∙ ap (λ b. if b then None else clips_in mid q) f) ∙ e))
    counted q n e false f = sym (clips q ∙ ap (λ b. if b then None else clips_in mid q) f) ∙ e

    bound : (other q : ℕ) → clipper_at (tie_in mid) other ≡ Some q → (b : Bool) → has ids other ≡ b → has ids other ≡ false
    bound other q e true f = absurd (none-some q (sym (free other f) ∙ e))
    bound other q e false f = f

-- all have lost their clippers, and then gone
module _ (ids : List ℕ) (old mid new : Table) (unbound : (q : ℕ) → tie_in mid q ≡ (if has ids q then option_map (with_clipper None) (tie_in old q) else tie_in old q)) where
  unbound_clipper : (q : ℕ) (b : Bool) → has ids q ≡ b → clipper_at (tie_in mid) q ≡ (if b then None else clipper_at (tie_in old) q)
  unbound_clipper q b e = ap (option_and_then (λ tie. tie.clipper)) (unbound q ∙ ap (λ b. if b then option_map (with_clipper None) (tie_in old q) else tie_in old q) e) ∙ go b (tie_in old q)
    where
      go : (b : Bool) (t : Option Tie) → option_and_then (λ (tie : Tie). tie.clipper) (if b then option_map (with_clipper None) t else t) ≡ (if b then None else option_and_then (λ (tie : Tie). tie.clipper) t)
      go true None = refl
      go true (Some tie) = refl
      go false t = refl

  unbound_parent : (q : ℕ) → parent_at (tie_in mid) q ≡ parent_at (tie_in old) q
  unbound_parent q = ap (option_and_then (λ tie. tie.parent)) (unbound q) ∙ go (has ids q) (tie_in old q)
    where
      go : (b : Bool) (t : Option Tie) → option_and_then (λ (tie : Tie). tie.parent) (if b then option_map (with_clipper None) t else t) ≡ option_and_then (λ (tie : Tie). tie.parent) t
      go true None = refl
      go true (Some tie) = refl
      go false t = refl

  pub kept_discarded : IsKept mid → ((q p : ℕ) → parent_at (tie_in old) q ≡ Some p → has ids p ≡ true → has ids q ≡ true) → ((q c : ℕ) → clipper_at (tie_in old) q ≡ Some c → has ids c ≡ true → has ids q ≡ true)
      → ((q : ℕ) → tie_in new q ≡ (if has ids q then None else tie_in mid q)) → ((q : ℕ) → clips_in new q ≡ (if has ids q then None else clips_in mid q)) → IsKept new
  kept_discarded kept members clipped ties clips =
      kept_thinned ids mid new kept (λ q e. unbound_clipper q true e) (λ q c e. apart q c e (has ids q) refl (has ids c) refl) (λ q p e. members q p (sym (unbound_parent q) ∙ e)) ties clips
    where
      apart : (q c : ℕ) → clipper_at (tie_in mid) q ≡ Some c → (b : Bool) → has ids q ≡ b → (d : Bool) → has ids c ≡ d → has ids c ≡ false
      apart q c e true f d g = absurd (none-some c (sym (unbound_clipper q true f) ∙ e))
      apart q c e false f true g = absurd (true≢false (sym (clipped q c (sym (unbound_clipper q false f) ∙ e) g) ∙ f))
      apart q c e false f false g = g

  pub discarded_ties : ((q : ℕ) → tie_in new q ≡ (if has ids q then None else tie_in mid q)) → (q : ℕ) → tie_in new q ≡ (if has ids q then None else tie_in old q)
  discarded_ties ties q = ties q ∙ ap (λ t. if has ids q then None else t) (unbound q) ∙ go (has ids q)
    where
      go : (b : Bool) → (let t : Option Tie = if b then option_map (with_clipper None) (tie_in old q) else tie_in old q in if b then None else t) ≡ (if b then None else tie_in old q)
      go true = refl
      go false = refl

-- what it did, seen as ties
pub all_dropped : (old new : Table) (ties : Ties) (ids : List ℕ) → ties_of old ≡ ties → ((q : ℕ) → tie_in new q ≡ (if has ids q then None else tie_in old q)) → (q : ℕ) → fin.get (ties_of new) q ≡ (if has ids q then None else fin.get ties q)
all_dropped old new ties ids is now q = get-ties_of new q ∙ now q ∙ ap (λ (f : ℕ → Option Tie). if has ids q then None else f q) (sym (read old ties is))
