-- Edits of one tie keep what a table keeps.
use Rattle.std.proofs.Common.{◌≡◌, ◌≢◌, ℕ, ◌≤◌, ◌+◌, ◌-◌, true, List, [], ◌∷◌, Option, Some, None, ◌⊎◌, inl, inr, refl, sym, subst, ◌∙◌, ap, arith, eq-eqb, is_some, if◌then◌else◌, ◌==◌}
use Rattle.std.proofs.lemmas.Bool.Decides.{eqb_tells}
use Rattle.std.specs.Option.{option_and_then, option_or, option_map}
use Rattle.ev_model.specs.declared.content.Kind.{Kind}
use Rattle.ev_model.specs.declared.content.Kind.TheVariants.{Rect, Smart}
use Rattle.ev_links.specs.declared.table.Table.{Table}
use Rattle.ev_links.specs.Ties.{Tie, alone, next_at, clipper_at, parent_at, kind_at, IsWay, Has, IsSound, Counts}
use Rattle.ev_links.specs.Tables.{tie_in, clips_in, with_clipper, with_parent, ChangesTie, SetsClips, SameTies, SameClips}
use Rattle.ev_links.specs.KeptTable.{IsKept}
use Rattle.ev_links.proofs.Sound.{part_there, sound_unclipped, sound_clipped, sound_moved, sound_added}
use Rattle.ev_links.proofs.Ways.{same_way, one_way}
use Rattle.ev_links.proofs.Views.{fewer}
use Rattle.std.specs.HashMap.{hash_map_len}
use Rattle.ev_links.proofs.Counts.{Counts-same, Counts-more, Counts-less, Counts-none}

-- another object's part stays
others_part : {A : Type 0} (part : Tie → Option A) (change : Tie → Tie) (id : ℕ) (old new : Table) → ChangesTie change id old new → (q : ℕ) → q ≢ id → option_and_then part (tie_in new q) ≡ option_and_then part (tie_in old q)
others_part part change id old new changed q differ =
    elim (eqb_tells q id) [
      | inl same ↦ absurd (differ same.1)
      | inr other ↦ let now = changed q in ap (option_and_then part) (now ∙ rw other.0 refl)
    ]

-- the object's own part
own_part : {A : Type 0} (part : Tie → Option A) (change : Tie → Tie) (id : ℕ) (old new : Table) → ChangesTie change id old new → option_and_then part (tie_in new id) ≡ option_and_then part (option_map change (tie_in old id))
own_part part change id old new changed = let now = changed id in ap (option_and_then part) (now ∙ rw (eq-eqb id id refl) refl)

-- a part that the change leaves stays in all objects
kept_part : {A : Type 0} (part : Tie → Option A) (change : Tie → Tie) (id : ℕ) (old new : Table) → ChangesTie change id old new → ((tie : Tie) → part (change tie) ≡ part tie) → (q : ℕ) → option_and_then part (tie_in new q) ≡ option_and_then part (tie_in old q)
kept_part part change id old new changed keeps q =
    elim (eqb_tells q id) [
      | inl same ↦ let at_id = own_part part change id old new changed in subst (λ n. option_and_then part (tie_in new n) ≡ option_and_then part (tie_in old n)) (sym same.1) (at_id ∙ over (tie_in old id))
      | inr differ ↦ others_part part change id old new changed q differ.1
    ]
  where
    over : (t : Option Tie) → option_and_then part (option_map change t) ≡ option_and_then part t
    over None = refl
    over (Some tie) = keeps tie

pub kinds_clipper : (clipper : Option ℕ) (id : ℕ) (old new : Table) → ChangesTie (with_clipper clipper) id old new → (q : ℕ) → kind_at (tie_in new) q ≡ kind_at (tie_in old) q
kinds_clipper clipper id old new changed q = kept_part (λ tie. Some tie.kind) (with_clipper clipper) id old new changed (λ tie. refl) q

pub parents_clipper : (clipper : Option ℕ) (id : ℕ) (old new : Table) → ChangesTie (with_clipper clipper) id old new → (q : ℕ) → parent_at (tie_in new) q ≡ parent_at (tie_in old) q
parents_clipper clipper id old new changed q = kept_part (λ tie. tie.parent) (with_clipper clipper) id old new changed (λ tie. refl) q

pub others_clipper : (clipper : Option ℕ) (id : ℕ) (old new : Table) → ChangesTie (with_clipper clipper) id old new → (q : ℕ) → q ≢ id → clipper_at (tie_in new) q ≡ clipper_at (tie_in old) q
others_clipper clipper id old new changed q differ = others_part (λ tie. tie.clipper) (with_clipper clipper) id old new changed q differ

pub no_clipper : (id : ℕ) (old new : Table) → ChangesTie (with_clipper None) id old new → clipper_at (tie_in new) id ≡ None
no_clipper id old new changed = own_part (λ tie. tie.clipper) (with_clipper None) id old new changed ∙ over (tie_in old id)
  where
    over : (t : Option Tie) → option_and_then (λ (tie : Tie). tie.clipper) (option_map (with_clipper None) t) ≡ None
    over None = refl
    over (Some tie) = refl

pub new_clipper : (clipper id : ℕ) (old new : Table) → ChangesTie (with_clipper (Some clipper)) id old new → is_some (tie_in old id) ≡ true → clipper_at (tie_in new) id ≡ Some clipper
new_clipper clipper id old new changed there = own_part (λ tie. tie.clipper) (with_clipper (Some clipper)) id old new changed ∙ over (tie_in old id) there
  where
    over : (t : Option Tie) → is_some t ≡ true → option_and_then (λ (tie : Tie). tie.clipper) (option_map (with_clipper (Some clipper)) t) ≡ Some clipper
    over None there = cc
    over (Some tie) there = refl

-- the counts where one object's count is set
set_clips : (clips id : ℕ) (old new : Table) → SetsClips clips id old new → (q n : ℕ) → clips_in new q ≡ Some n → ((q ≡ id) × (clips ≡ n)) ⊎ ((q ≢ id) × (clips_in old q ≡ Some n))
set_clips clips id old new sets q n e =
    elim (eqb_tells q id) [
      | inl same ↦ let now = sets q in inl (same.1, over (clips_in old q) (sym (now ∙ rw same.0 refl) ∙ e))
      | inr differ ↦ let now = sets q in inr (differ.1, sym (now ∙ rw differ.0 refl) ∙ e)
    ]
  where
    over : (c : Option ℕ) → option_map (λ _. clips) c ≡ Some n → clips ≡ n
    over None e = cc
    over (Some m) e = cc

-- the object loses its clipper, whose count falls
pub kept_unbound : (old new : Table) (id clipper before : ℕ) → IsKept old → clipper_at (tie_in old) id ≡ Some clipper → clips_in old clipper ≡ Some before
    → ChangesTie (with_clipper None) id old new → SetsClips (before - 1) clipper old new → IsKept new
kept_unbound old new id clipper before kept its counted changed sets = record {
  sound = sound_unclipped (tie_in old) (tie_in new) kept.sound (kinds_clipper None id old new changed) (parents_clipper None id old new changed)
      (λ q. elim (eqb_tells q id) [ inl same ↦ inr (ap (clipper_at (tie_in new)) same.1 ∙ gone) | inr differ ↦ inl (others q differ.1) ]);
  counted = λ q n e. elim (set_clips (before - 1) clipper old new sets q n e) [
    | inl here ↦
        let less = Counts-less (clipper_at (tie_in old)) (clipper_at (tie_in new)) clipper id before (kept.counted clipper before counted) its (λ f. let none = gone in cc) others in
        subst (λ m. Counts (clipper_at (tie_in new)) q m) here.1 (subst (λ m. Counts (clipper_at (tie_in new)) m (before - 1)) (sym here.0) less)
    | inr there ↦ Counts-same (clipper_at (tie_in old)) (clipper_at (tie_in new)) q n (kept.counted q n there.1) (back q) (on q there.0)
  ];
}
  where
    gone : clipper_at (tie_in new) id ≡ None
    gone = no_clipper id old new changed

    others : (q : ℕ) → q ≢ id → clipper_at (tie_in new) q ≡ clipper_at (tie_in old) q
    others = others_clipper None id old new changed

    back : (q other : ℕ) → clipper_at (tie_in new) other ≡ Some q → clipper_at (tie_in old) other ≡ Some q
    back q other e = elim (eqb_tells other id) [ inl same ↦ let none = ap (clipper_at (tie_in new)) same.1 ∙ gone in cc | inr differ ↦ sym (others other differ.1) ∙ e ]

    on : (q : ℕ) → q ≢ clipper → (other : ℕ) → clipper_at (tie_in old) other ≡ Some q → clipper_at (tie_in new) other ≡ Some q
    on q differ other e = elim (eqb_tells other id) [ inl same ↦ absurd (differ (let first = ap (clipper_at (tie_in old)) same.1 in cc)) | inr away ↦ others other away.1 ∙ e ]

-- the object gets a clipper, whose count rises
pub kept_bound : (old new : Table) (id clipper before : ℕ) → IsKept old → clipper_at (tie_in old) id ≡ None → is_some (tie_in old id) ≡ true → clips_in old clipper ≡ Some before
    → kind_at (tie_in old) clipper ≡ Some Rect → parent_at (tie_in old) clipper ≡ parent_at (tie_in old) id → ((way : List ℕ) → IsWay (next_at (tie_in old)) clipper way → ¬ Has id (clipper ∷ way))
    → ChangesTie (with_clipper (Some clipper)) id old new → SetsClips (before + 1) clipper old new → IsKept new
kept_bound old new id clipper before kept free there counted kind sibling away changed sets = record {
  sound = sound_clipped (tie_in old) (tie_in new) id clipper kept.sound (kinds_clipper (Some clipper) id old new changed) (parents_clipper (Some clipper) id old new changed) its others kind sibling away;
  counted = λ q n e. elim (set_clips (before + 1) clipper old new sets q n e) [
    | inl here ↦
        let more = Counts-more (clipper_at (tie_in old)) (clipper_at (tie_in new)) clipper id before (kept.counted clipper before counted) (λ f. let none = free in cc) its others in
        subst (λ m. Counts (clipper_at (tie_in new)) q m) here.1 (subst (λ m. Counts (clipper_at (tie_in new)) m (before + 1)) (sym here.0) more)
    | inr elsewhere ↦ Counts-same (clipper_at (tie_in old)) (clipper_at (tie_in new)) q n (kept.counted q n elsewhere.1) (back q elsewhere.0) (on q)
  ];
}
  where
    its : clipper_at (tie_in new) id ≡ Some clipper
    its = new_clipper clipper id old new changed there

    others : (q : ℕ) → q ≢ id → clipper_at (tie_in new) q ≡ clipper_at (tie_in old) q
    others = others_clipper (Some clipper) id old new changed

    back : (q : ℕ) → q ≢ clipper → (other : ℕ) → clipper_at (tie_in new) other ≡ Some q → clipper_at (tie_in old) other ≡ Some q
    back q differ other e = elim (eqb_tells other id) [ inl same ↦ absurd (differ (let first = ap (clipper_at (tie_in new)) same.1 in let at = its in cc)) | inr away ↦ sym (others other away.1) ∙ e ]

    on : (q other : ℕ) → clipper_at (tie_in old) other ≡ Some q → clipper_at (tie_in new) other ≡ Some q
    on q other e = elim (eqb_tells other id) [ inl same ↦ let none = ap (clipper_at (tie_in old)) same.1 ∙ free in cc | inr away ↦ others other away.1 ∙ e ]

-- an object that neither clips nor is clipped gets another parent, or none
pub kept_moved : (old new : Table) (id : ℕ) (parent : Option ℕ) → IsKept old → is_some (tie_in old id) ≡ true → clipper_at (tie_in old) id ≡ None → clips_in old id ≡ Some 0
    → ((to : ℕ) → parent ≡ Some to → (kind_at (tie_in old) to ≡ Some Smart) × ((way : List ℕ) → IsWay (next_at (tie_in old)) to way → ¬ Has id (to ∷ way)))
    → ChangesTie (with_parent parent) id old new → SameClips old new → IsKept new
kept_moved old new id parent kept there free none fit changed same = record {
  sound = sound_moved (tie_in old) (tie_in new) id parent kept.sound
      (λ q. kept_part (λ tie. Some tie.kind) (with_parent parent) id old new changed (λ tie. refl) q) clippers
      (own_part (λ tie. tie.parent) (with_parent parent) id old new changed ∙ over (tie_in old id) there)
      (λ q differ. others_part (λ tie. tie.parent) (with_parent parent) id old new changed q differ)
      free (Counts-none (clipper_at (tie_in old)) id (kept.counted id 0 none)) fit;
  counted = λ q n e. Counts-same (clipper_at (tie_in old)) (clipper_at (tie_in new)) q n (kept.counted q n (sym (same q) ∙ e)) (λ other f. sym (clippers other) ∙ f) (λ other f. clippers other ∙ f);
}
  where
    clippers : (q : ℕ) → clipper_at (tie_in new) q ≡ clipper_at (tie_in old) q
    clippers q = kept_part (λ tie. tie.clipper) (with_parent parent) id old new changed (λ tie. refl) q

    over : (t : Option Tie) → is_some t ≡ true → option_and_then (λ (tie : Tie). tie.parent) (option_map (with_parent parent) t) ≡ parent
    over None there = cc
    over (Some tie) there = refl

-- no object clips more than there are
pub few_clipped : (table : Table) (id n : ℕ) → IsKept table → clips_in table id ≡ Some n → n ≤ hash_map_len table.nodes
few_clipped table id n kept e =
    let its = kept.counted id n e in
    let length_is = its.count in
    let most = fewer table its.ids its.distinct (λ q h. part_there (λ tie. tie.clipper) (tie_in table q) id (its.clipped q h)) in
    omega (arith, length_is, most)

-- a way that doesn't meet an object is the same after the object lost its clipper
pub away_unbound : (old new : Table) (id clipper : ℕ) → IsKept old → ChangesTie (with_clipper None) id old new
    → ((way : List ℕ) → IsWay (next_at (tie_in old)) clipper way → ¬ Has id (clipper ∷ way)) → (way : List ℕ) → IsWay (next_at (tie_in new)) clipper way → ¬ Has id (clipper ∷ way)
away_unbound old new id clipper kept changed away way p h =
    let was = kept.sound.ends clipper in
    let clear : ¬ Has id (clipper ∷ was.0) = away was.0 was.1 in
    let same : (q : ℕ) → q ≢ id → next_at (tie_in new) q ≡ next_at (tie_in old) q = others_part (λ tie. option_or tie.clipper tie.parent) (with_clipper None) id old new changed in
    let still : IsWay (next_at (tie_in new)) clipper was.0 =
    same_way (next_at (tie_in old)) (next_at (tie_in new)) clipper was.0 (same clipper (λ e. clear (inl e))) (λ q there. same q (λ e. clear (inr (subst (λ n. Has n was.0) e there)))) was.1
    in
    clear (subst (λ w. Has id (clipper ∷ w)) (one_way (next_at (tie_in new)) clipper way was.0 p still) h)

-- a new object keeps what the table keeps
pub kept_added : (old new : Table) (id : ℕ) (kind : Kind) → IsKept old → tie_in old id ≡ None
    → ((q : ℕ) → tie_in new q ≡ (if q == id then Some (alone kind) else tie_in old q)) → ((q : ℕ) → clips_in new q ≡ (if q == id then Some 0 else clips_in old q)) → IsKept new
kept_added old new id kind kept fresh ties clips = record {
  sound = sound_added (tie_in old) (tie_in new) id kept.sound fresh (ap (option_and_then (λ tie. tie.clipper)) here) (ap (option_and_then (λ tie. tie.parent)) here) others;
  counted = λ q n e. elim (eqb_tells q id) [
    | inl same ↦
        let now = clips q in
        let zero_is : 0 ≡ n = let counted : Some 0 ≡ Some n = sym (now ∙ rw same.0 refl) ∙ e in cc in
        subst (λ m. Counts (clipper_at (tie_in new)) q m) zero_is (subst (λ m. Counts (clipper_at (tie_in new)) m 0) (sym same.1) none)
    | inr differ ↦ let now = clips q in Counts-same (clipper_at (tie_in old)) (clipper_at (tie_in new)) q n (kept.counted q n (sym (now ∙ rw differ.0 refl) ∙ e)) (λ other f. sym (clippers other) ∙ f) (λ other f. clippers other ∙ f)
  ];
}
  where
    here : tie_in new id ≡ Some (alone kind)
    here = let now = ties id in now ∙ rw (eq-eqb id id refl) refl

    others : (q : ℕ) → q ≢ id → tie_in new q ≡ tie_in old q
    others q away = elim (eqb_tells q id) [ inl same ↦ absurd (away same.1) | inr differ ↦ let now = ties q in now ∙ rw differ.0 refl ]

    clippers : (q : ℕ) → clipper_at (tie_in new) q ≡ clipper_at (tie_in old) q
    clippers q = elim (eqb_tells q id) [ inl same ↦ ap (clipper_at (tie_in new)) same.1 ∙ ap (option_and_then (λ tie. tie.clipper)) here ∙ sym (ap (clipper_at (tie_in old)) same.1 ∙ ap (option_and_then (λ tie. tie.clipper)) fresh) | inr differ ↦ ap (option_and_then (λ tie. tie.clipper)) (others q differ.1) ]

    nobody : (q : ℕ) → clipper_at (tie_in new) q ≡ Some id → ⊥
    nobody q e = let kind_is = kept.sound.clippers q id (sym (clippers q) ∙ e) in let gone = ap (option_and_then (λ (tie : Tie). Some tie.kind)) fresh in cc

    none : Counts (clipper_at (tie_in new)) id 0
    none = record { ids = []; distinct = tt; clipped = λ other h. absurd h; all = λ other e. absurd (nobody other e); count = refl }

pub kept_same : (old new : Table) → IsKept old → SameTies old new → SameClips old new → IsKept new
kept_same old new kept ties clips =
    let path : tie_in old ≡ tie_in new = λ i q. sym (ties q) i in
    record {
      sound = subst IsSound path kept.sound;
      counted = λ q n e. subst (λ (f : ℕ → Option Tie). Counts (clipper_at f) q n) path (kept.counted q n (sym (clips q) ∙ e));
    }
