-- An object that is removed, and what it clips is released.
use Rattle.std.proofs.Common.{◌≡◌, ◌≢◌, ℕ, ◌≤◌, true, false, Option, Some, None, ◌⊎◌, inl, inr, refl, sym, ◌∙◌, ap, eq-eqb, arith, map, if◌then◌else◌, ◌==◌}
use Rattle.std.proofs.lemmas.Bool.Decides.{eqb_tells}
use Rattle.std.proofs.lemmas.Map.Made.{lookup-map_values}
use Rattle.std.specs.Prelude.{nat_eq}
use Rattle.std.specs.Option.{option_and_then, option_eq, option_map}
use Rattle.ev_links.specs.declared.table.Table.{Table}
use Rattle.ev_links.specs.declared.table.Node.{Node}
use Rattle.ev_links.specs.Ties.{Tie, Ties, released, clipper_at, parent_at}
use Rattle.ev_links.specs.Tables.{tie_of, node_in, tie_in, clips_in, ties_of, released_node, released_entry, ChangesTie, with_clipper}
use Rattle.ev_links.specs.KeptTable.{IsKept}
use Rattle.ev_links.specs.LinkCalls.{Drops}
use Rattle.ev_links.proofs.Sound.{sound_unclipped, sound_removed}
use Rattle.ev_links.proofs.Counts.{Counts-same, Counts-some, option_neq}
use Rattle.ev_links.proofs.Views.{get-ties_of, read}

node_released : (old new : Table) (id : ℕ) → new.nodes.entries ≡ map (released_entry id) old.nodes.entries → (q : ℕ) → node_in new q ≡ option_map (released_node id) (node_in old q)
node_released old new id e q = rw e (lookup-map_values (released_node id) (nat_eq q) old.nodes.entries)

pub ties_released : (old new : Table) (id : ℕ) → new.nodes.entries ≡ map (released_entry id) old.nodes.entries → (q : ℕ) → tie_in new q ≡ option_map (released id) (tie_in old q)
ties_released old new id e q = ap (option_map tie_of) (node_released old new id e q) ∙ over (node_in old q)
  where
    one : (node : Node) → tie_of (released_node id node) ≡ released id (tie_of node)
    one node = elim (option_eq nat_eq node.clipper (Some id)) as (λ b. tie_of (if b then record node { clipper = None } else node) ≡ (if b then record (tie_of node) { clipper = None } else tie_of node)) [ true ↦ refl | false ↦ refl ]

    over : (node : Option Node) → option_map tie_of (option_map (released_node id) node) ≡ option_map (released id) (option_map tie_of node)
    over None = refl
    over (Some node) = ap Some (one node)

pub clips_released : (old new : Table) (id : ℕ) → new.nodes.entries ≡ map (released_entry id) old.nodes.entries → (q : ℕ) → clips_in new q ≡ clips_in old q
clips_released old new id e q = ap (option_map (λ (node : Node). node.clips)) (node_released old new id e q) ∙ over (node_in old q)
  where
    one : (node : Node) → (released_node id node).clips ≡ node.clips
    one node = elim (option_eq nat_eq node.clipper (Some id)) as (λ b. (let n : Node = if b then record node { clipper = None } else node in n.clips) ≡ node.clips) [ true ↦ refl | false ↦ refl ]

    over : (node : Option Node) → option_map (λ (node : Node). node.clips) (option_map (released_node id) node) ≡ option_map (λ (node : Node). node.clips) node
    over None = refl
    over (Some node) = ap Some (one node)

-- where an object clips nothing, releasing changes nothing
pub none_released : (table : Table) (id n : ℕ) → IsKept table → clips_in table id ≡ Some n → n ≤ 0 → (q : ℕ) → tie_in table q ≡ option_map (released id) (tie_in table q)
none_released table id n kept counted none q =
    over (tie_in table q) (λ e. let some = Counts-some (clipper_at (tie_in table)) id q n (kept.counted id n counted) e in omega (arith, none, some))
  where
    over : (t : Option Tie) → option_and_then (λ (tie : Tie). tie.clipper) t ≢ Some id → t ≡ option_map (released id) t
    over None apart = refl
    over (Some tie) apart = rw (option_neq tie.clipper id apart) refl

-- what stays in a released tie
kept_in : {A : Type 0} (part : Tie → A) (id : ℕ) (tie : Tie) → ((t : Tie) → part (record t { clipper = None }) ≡ part t) → part (released id tie) ≡ part tie
kept_in part id tie same = elim (option_eq nat_eq tie.clipper (Some id)) as (λ b. part (if b then record tie { clipper = None } else tie) ≡ part tie) [ true ↦ same tie | false ↦ refl ]

released_clipper : (id : ℕ) (tie : Tie) → ((released id tie).clipper ≡ tie.clipper) × (tie.clipper ≢ Some id) ⊎ ((released id tie).clipper ≡ None) × (tie.clipper ≡ Some id)
released_clipper id tie = go tie.clipper refl
  where
    go : (c : Option ℕ) → tie.clipper ≡ c → ((released id tie).clipper ≡ tie.clipper) × (tie.clipper ≢ Some id) ⊎ ((released id tie).clipper ≡ None) × (tie.clipper ≡ Some id)
    go None e = inl (rw e refl, λ f. cc)
    go (Some x) e =
        elim (eqb_tells x id) [
          | inl same ↦ inr (rw (e, same.0) refl, e ∙ ap Some same.1)
          | inr differ ↦ inl (rw (e, differ.0) refl, λ f. differ.1 (let both = e in cc))
        ]

-- the ties after what an object clips is released
mid_clipper : (id : ℕ) (t : Option Tie) → (option_and_then (λ (tie : Tie). tie.clipper) (option_map (released id) t) ≡ option_and_then (λ (tie : Tie). tie.clipper) t) × (option_and_then (λ (tie : Tie). tie.clipper) t ≢ Some id) ⊎ (option_and_then (λ (tie : Tie). tie.clipper) (option_map (released id) t) ≡ None) × (option_and_then (λ (tie : Tie). tie.clipper) t ≡ Some id)
mid_clipper id None = inl (refl, λ f. cc)
mid_clipper id (Some tie) = released_clipper id tie

pub kept_dropped : (old new : Table) (id : ℕ) → IsKept old → clipper_at (tie_in old) id ≡ None → ((q : ℕ) → parent_at (tie_in old) q ≢ Some id)
    → ((q : ℕ) → tie_in new q ≡ (if q == id then None else option_map (released id) (tie_in old q))) → ((q : ℕ) → clips_in new q ≡ (if q == id then None else clips_in old q)) → IsKept new
kept_dropped old new id kept free members ties clips = record {
  sound = sound_removed mid (tie_in new) id
      (sound_unclipped (tie_in old) mid kept.sound (λ q. kinds (tie_in old q)) (λ q. parents (tie_in old q)) (λ q. elim (mid_clipper id (tie_in old q)) [ inl same ↦ inl same.0 | inr none ↦ inr none.0 ]))
      (let now = ties id in now ∙ rw (eq-eqb id id refl) refl) others (λ q e. elim (mid_clipper id (tie_in old q)) [ inl same ↦ same.1 (sym same.0 ∙ e) | inr none ↦ let gone = none.0 in cc ]) (λ q e. members q (sym (parents (tie_in old q)) ∙ e));
  counted = λ q n e. elim (eqb_tells q id) [
    | inl here ↦ let now = clips q in let gone : clips_in new q ≡ None = now ∙ rw here.0 refl in cc
    | inr away ↦ let now = clips q in Counts-same (clipper_at (tie_in old)) (clipper_at (tie_in new)) q n (kept.counted q n (sym (now ∙ rw away.0 refl) ∙ e)) (back q) (on q away.1)
  ];
}
  where
    mid : ℕ → Option Tie
    mid = λ q. option_map (released id) (tie_in old q)

    kinds : (t : Option Tie) → option_and_then (λ (tie : Tie). Some tie.kind) (option_map (released id) t) ≡ option_and_then (λ (tie : Tie). Some tie.kind) t
    kinds None = refl
    kinds (Some tie) = kept_in (λ (t : Tie). Some t.kind) id tie (λ t. refl)

    parents : (t : Option Tie) → option_and_then (λ (tie : Tie). tie.parent) (option_map (released id) t) ≡ option_and_then (λ (tie : Tie). tie.parent) t
    parents None = refl
    parents (Some tie) = kept_in (λ (t : Tie). t.parent) id tie (λ t. refl)

    others : (q : ℕ) → q ≢ id → tie_in new q ≡ option_map (released id) (tie_in old q)
    others q away = elim (eqb_tells q id) [ inl here ↦ absurd (away here.1) | inr other ↦ let now = ties q in now ∙ rw other.0 refl ]

    back : (q other : ℕ) → clipper_at (tie_in new) other ≡ Some q → clipper_at (tie_in old) other ≡ Some q
    back q other e =
        elim (eqb_tells other id) [
          | inl here ↦ let now = ties other in let none : tie_in new other ≡ None = now ∙ rw here.0 refl in let gone : clipper_at (tie_in new) other ≡ None = ap (option_and_then (λ (tie : Tie). tie.clipper)) none in cc
          | inr away ↦
              let at : option_and_then (λ (tie : Tie). tie.clipper) (option_map (released id) (tie_in old other)) ≡ Some q = sym (ap (option_and_then (λ (tie : Tie). tie.clipper)) (others other away.1)) ∙ e in
              elim (mid_clipper id (tie_in old other)) [ inl same ↦ sym same.0 ∙ at | inr none ↦ let gone = none.0 in cc ]
        ]

    on : (q : ℕ) → q ≢ id → (other : ℕ) → clipper_at (tie_in old) other ≡ Some q → clipper_at (tie_in new) other ≡ Some q
    on q differ other e =
        elim (eqb_tells other id) [
          | inl here ↦ let none = ap (clipper_at (tie_in old)) here.1 ∙ free in cc
          | inr away ↦
              ap (option_and_then (λ (tie : Tie). tie.clipper)) (others other away.1)
              ∙ elim (mid_clipper id (tie_in old other)) [ inl same ↦ same.0 ∙ e | inr none ↦ absurd (differ (let its = none.1 in cc)) ]
        ]

-- what a drop did, seen as ties
pub dropped_view : (old new : Table) (ties : Ties) (id : ℕ) → ties_of old ≡ ties → ((q : ℕ) → tie_in new q ≡ (if q == id then None else option_map (released id) (tie_in old q))) → Drops ties id (ties_of new)
dropped_view old new ties id is now q =
    get-ties_of new q ∙ now q ∙ ap (λ (f : ℕ → Option Tie). if q == id then None else option_map (released id) (f q)) (sym (read old ties is))

-- the ties after the object lost its clipper, and then what it clips
pub dropped_ties : (old mid : Table) (id q : ℕ) → ChangesTie (with_clipper None) id old mid → (if q == id then None else option_map (released id) (tie_in mid q)) ≡ (if q == id then None else option_map (released id) (tie_in old q))
dropped_ties old mid id q changed =
    elim (eqb_tells q id) [
      | inl here ↦ rw here.0 refl
      | inr away ↦ let now = changed q in let same : tie_in mid q ≡ tie_in old q = now ∙ rw away.0 refl in rw away.0 (ap (option_map (released id)) same)
    ]
