-- What holds of the ties in every state, kept by each change.
use Rattle.std.proofs.Common.{◌≡◌, ◌≢◌, ℕ, true, is_some, List, [], ◌∷◌, Option, Some, None, ◌⊎◌, inl, inr, refl, sym, subst, ◌∙◌, ap}
use Rattle.std.proofs.lemmas.Bool.Decides.{eqb_tells}
use Rattle.std.specs.Option.{option_and_then, option_or}
use Rattle.ev_model.specs.declared.content.Kind.{Kind}
use Rattle.ev_model.specs.declared.content.Kind.TheVariants.{Rect, Smart}
use Rattle.ev_links.specs.Ties.{Tie, next_at, clipper_at, parent_at, kind_at, IsWay, Has, IsSound}
use Rattle.ev_links.proofs.Ways.{ends_led, ends_cut, ends_shortened, Shortens}

-- the next object is the clipper, or there is none and it is the parent
pub next_cases : (ties : ℕ → Option Tie) (id : ℕ) → ((clipper : ℕ) × ((clipper_at ties id ≡ Some clipper) × (next_at ties id ≡ Some clipper))) ⊎ ((clipper_at ties id ≡ None) × (next_at ties id ≡ parent_at ties id))
next_cases ties id = of_tie (ties id)
  where
    of_parts : (c p : Option ℕ) → ((clipper : ℕ) × ((c ≡ Some clipper) × (option_or c p ≡ Some clipper))) ⊎ ((c ≡ None) × (option_or c p ≡ p))
    of_parts (Some clipper) p = inl (clipper, (refl, refl))
    of_parts None p = inr (refl, refl)

    of_tie : (t : Option Tie) → ((clipper : ℕ) × ((option_and_then (λ tie. tie.clipper) t ≡ Some clipper) × (option_and_then (λ tie. option_or tie.clipper tie.parent) t ≡ Some clipper))) ⊎ ((option_and_then (λ tie. tie.clipper) t ≡ None) × (option_and_then (λ tie. option_or tie.clipper tie.parent) t ≡ option_and_then (λ tie. tie.parent) t))
    of_tie None = inr (refl, refl)
    of_tie (Some tie) = of_parts tie.clipper tie.parent

-- the next object by the clipper and the parent
pub next_parts : (ties : ℕ → Option Tie) (id : ℕ) → next_at ties id ≡ option_or (clipper_at ties id) (parent_at ties id)
next_parts ties id = of_tie (ties id)
  where
    of_tie : (t : Option Tie) → option_and_then (λ tie. option_or tie.clipper tie.parent) t ≡ option_or (option_and_then (λ tie. tie.clipper) t) (option_and_then (λ tie. tie.parent) t)
    of_tie None = refl
    of_tie (Some tie) = refl

-- an object with a part is there
pub part_there : {A : Type 0} (part : Tie → Option A) (t : Option Tie) (x : A) → option_and_then part t ≡ Some x → is_some t ≡ true
part_there part None x e = cc
part_there part (Some tie) x e = refl

-- what stands over an object is there
pub clipper_there : (ties : ℕ → Option Tie) → IsSound ties → (id clipper : ℕ) → clipper_at ties id ≡ Some clipper → is_some (ties clipper) ≡ true
clipper_there ties s id clipper e = part_there (λ tie. Some tie.kind) (ties clipper) Rect (s.clippers id clipper e)

pub parent_there : (ties : ℕ → Option Tie) → IsSound ties → (id parent : ℕ) → parent_at ties id ≡ Some parent → is_some (ties parent) ≡ true
parent_there ties s id parent e = part_there (λ tie. Some tie.kind) (ties parent) Smart (s.parents id parent e)

pub next_there : (ties : ℕ → Option Tie) → IsSound ties → (id to : ℕ) → next_at ties id ≡ Some to → is_some (ties to) ≡ true
next_there ties s id to e =
    elim (next_cases ties id) [
      | inl c ↦ clipper_there ties s id to (let led = c.1.1 in let its = c.1.0 in cc)
      | inr p ↦ parent_there ties s id to (sym p.1 ∙ e)
    ]

-- the parent stands further along the way: the last of the clippers has the same parent
pub parent_ahead : (ties : ℕ → Option Tie) → IsSound ties → (id parent : ℕ) (way : List ℕ) → parent_at ties id ≡ Some parent → IsWay (next_at ties) id way → Has parent way
parent_ahead ties s id parent [] its p =
    elim (next_cases ties id) [ inl c ↦ let led = c.1.1 in cc | inr none ↦ let led = none.1 in cc ]
parent_ahead ties s id parent (y ∷ ys) its p =
    elim (next_cases ties id) [
      | inl c ↦
          let same : y ≡ c.0 = let led = c.1.1 in let first = p.0 in cc in
          let sibling : parent_at ties y ≡ Some parent = ap (parent_at ties) same ∙ s.siblings id c.0 c.1.0 ∙ its in
          inr (parent_ahead ties s y parent ys sibling p.1)
      | inr none ↦ inl (let led = none.1 in let first = p.0 in cc)
    ]

-- leading each object to its parent alone shortens its way
parents_shorten : (ties : ℕ → Option Tie) → IsSound ties → (id : ℕ) (parent : Option ℕ) → parent_at ties id ≡ parent → (new : ℕ → Option ℕ) → new id ≡ parent → Shortens (next_at ties) new id
parents_shorten ties s id None e new is = inr (inl is)
parents_shorten ties s id (Some parent) e new is = inr (inr (parent, (is, λ way p. parent_ahead ties s id parent way e p)))

-- the parents' ways end
pub parents_end : (ties : ℕ → Option Tie) → IsSound ties → (id : ℕ) → (way : List ℕ) × IsWay (parent_at ties) id way
parents_end ties s id =
    let way = s.ends id in
    ends_shortened (next_at ties) (parent_at ties) (λ q. parents_shorten ties s q (parent_at ties q) refl (parent_at ties) refl) id way.0 way.1

-- An object that clips nobody stands above another only where the other is inside it.
pub met_by_parents : (ties : ℕ → Option Tie) → IsSound ties → (id : ℕ) → ((q : ℕ) → clipper_at ties q ≢ Some id)
    → (y a : ℕ) (way above : List ℕ) → parent_at ties y ≡ parent_at ties a → IsWay (next_at ties) y way → IsWay (parent_at ties) a above → Has id way → Has id above
met_by_parents ties s id clips y a [] above same p q h = absurd h
met_by_parents ties s id clips y a (z ∷ way) above same p q h =
    elim (next_cases ties y) [
      | inl c ↦
          let first : z ≡ c.0 = let led = c.1.1 in let there = p.0 in cc in
          let sibling : parent_at ties z ≡ parent_at ties a = ap (parent_at ties) first ∙ s.siblings y c.0 c.1.0 ∙ same in
          elim h [
            | inl here ↦ absurd (clips y (c.1.0 ∙ ap Some (sym first ∙ here)))
            | inr later ↦ met_by_parents ties s id clips z a way above sibling p.1 q later
          ]
      | inr none ↦ over above q (sym same ∙ sym none.1 ∙ p.0) (λ rest r. elim h [ inl here ↦ inl here | inr later ↦ inr (met_by_parents ties s id clips z z way rest refl p.1 r later) ])
    ]
  where
    over : (above : List ℕ) → IsWay (parent_at ties) a above → parent_at ties a ≡ Some z → ((rest : List ℕ) → IsWay (parent_at ties) z rest → (z ≡ id) ⊎ Has id rest) → Has id above
    over [] q is found = cc
    over (b ∷ rest) q is found =
        let same : b ≡ z = let first = q.0 in cc in
        elim (found rest (subst (λ n. IsWay (parent_at ties) n rest) same q.1)) [ inl here ↦ inl (same ∙ here) | inr later ↦ inr later ]

-- ---- changes

-- Each object keeps its clipper or loses it.
pub sound_unclipped : (ties new : ℕ → Option Tie) → IsSound ties → ((q : ℕ) → kind_at new q ≡ kind_at ties q) → ((q : ℕ) → parent_at new q ≡ parent_at ties q)
    → ((q : ℕ) → (clipper_at new q ≡ clipper_at ties q) ⊎ (clipper_at new q ≡ None)) → IsSound new
sound_unclipped ties new s kinds parents clippers = record {
  ends = λ x. let way = s.ends x in ends_shortened (next_at ties) (next_at new) short x way.0 way.1;
  clippers = λ q c e. elim (clippers q) [ inl same ↦ kinds c ∙ s.clippers q c (sym same ∙ e) | inr none ↦ cc ];
  parents = λ q p e. kinds p ∙ s.parents q p (sym (parents q) ∙ e);
  siblings = λ q c e. elim (clippers q) [ inl same ↦ parents c ∙ s.siblings q c (sym same ∙ e) ∙ sym (parents q) | inr none ↦ cc ];
}
  where
    short : (q : ℕ) → Shortens (next_at ties) (next_at new) q
    short q =
        elim (clippers q) [
          | inl same ↦ inl (next_parts new q ∙ rw (same, parents q) (sym (next_parts ties q)))
          | inr none ↦ parents_shorten ties s q (parent_at ties q) refl (next_at new) (next_parts new q ∙ rw (none, parents q) refl)
        ]

-- One object gets a clipper, a rectangle that is its sibling and above which it doesn't stand.
pub sound_clipped : (ties new : ℕ → Option Tie) (id clipper : ℕ) → IsSound ties → ((q : ℕ) → kind_at new q ≡ kind_at ties q) → ((q : ℕ) → parent_at new q ≡ parent_at ties q)
    → clipper_at new id ≡ Some clipper → ((q : ℕ) → q ≢ id → clipper_at new q ≡ clipper_at ties q)
    → kind_at ties clipper ≡ Some Rect → parent_at ties clipper ≡ parent_at ties id → ((way : List ℕ) → IsWay (next_at ties) clipper way → ¬ Has id (clipper ∷ way)) → IsSound new
sound_clipped ties new id clipper s kinds parents here others kind sibling away = record {
  ends = λ x.
      let way = s.ends x in
      let above = s.ends clipper in
      ends_led (next_at ties) (next_at new) id clipper above.0 above.1 (away above.0 above.1) (next_parts new id ∙ rw here refl) same_next x way.0 way.1;
  clippers = λ q c e.
      elim (eqb_tells q id) [
        | inl same ↦ kinds c ∙ subst (λ n. kind_at ties n ≡ Some Rect) (its q c same.1 e) kind
        | inr differ ↦ kinds c ∙ s.clippers q c (sym (others q differ.1) ∙ e)
      ];
  parents = λ q p e. kinds p ∙ s.parents q p (sym (parents q) ∙ e);
  siblings = λ q c e.
      elim (eqb_tells q id) [
        | inl same ↦ parents c ∙ ap (parent_at ties) (sym (its q c same.1 e)) ∙ sibling ∙ ap (parent_at ties) (sym same.1) ∙ sym (parents q)
        | inr differ ↦ parents c ∙ s.siblings q c (sym (others q differ.1) ∙ e) ∙ sym (parents q)
      ];
}
  where
    same_next : (q : ℕ) → q ≢ id → next_at new q ≡ next_at ties q
    same_next q differ = next_parts new q ∙ rw (others q differ, parents q) (sym (next_parts ties q))

    its : (q c : ℕ) → q ≡ id → clipper_at new q ≡ Some c → clipper ≡ c
    its q c same e = let at = ap (clipper_at new) same in cc

-- One object that neither clips nor is clipped gets another parent that isn't inside it, or none.
pub sound_moved : (ties new : ℕ → Option Tie) (id : ℕ) (to : Option ℕ) → IsSound ties → ((q : ℕ) → kind_at new q ≡ kind_at ties q) → ((q : ℕ) → clipper_at new q ≡ clipper_at ties q)
    → parent_at new id ≡ to → ((q : ℕ) → q ≢ id → parent_at new q ≡ parent_at ties q)
    → clipper_at ties id ≡ None → ((q : ℕ) → clipper_at ties q ≢ Some id)
    → ((parent : ℕ) → to ≡ Some parent → (kind_at ties parent ≡ Some Smart) × ((way : List ℕ) → IsWay (next_at ties) parent way → ¬ Has id (parent ∷ way))) → IsSound new
sound_moved ties new id to s kinds clippers here others free clips fit = record {
  ends = λ x. let way = s.ends x in leads to here fit x way.0 way.1;
  clippers = λ q c e. kinds c ∙ s.clippers q c (sym (clippers q) ∙ e);
  parents = λ q p e.
      elim (eqb_tells q id) [
        | inl same ↦ kinds p ∙ (fit p (sym here ∙ ap (parent_at new) (sym same.1) ∙ e)).0
        | inr differ ↦ kinds p ∙ s.parents q p (sym (others q differ.1) ∙ e)
      ];
  siblings = λ q c e.
      let was : clipper_at ties q ≡ Some c = sym (clippers q) ∙ e in
      let this : q ≢ id = λ same. let at = ap (clipper_at ties) same in cc in
      let that : c ≢ id = λ same. clips q (was ∙ ap Some same) in
      others c that ∙ s.siblings q c was ∙ sym (others q this);
}
  where
    same_next : (q : ℕ) → q ≢ id → next_at new q ≡ next_at ties q
    same_next q differ = next_parts new q ∙ rw (clippers q, others q differ) (sym (next_parts ties q))

    next_here : next_at new id ≡ parent_at new id
    next_here = next_parts new id ∙ rw (clippers id, free) refl

    leads : (to : Option ℕ) → parent_at new id ≡ to
        → ((parent : ℕ) → to ≡ Some parent → (kind_at ties parent ≡ Some Smart) × ((way : List ℕ) → IsWay (next_at ties) parent way → ¬ Has id (parent ∷ way)))
        → (x : ℕ) (xs : List ℕ) → IsWay (next_at ties) x xs → (ys : List ℕ) × IsWay (next_at new) x ys
    leads None here fit x xs p = ends_cut (next_at ties) (next_at new) id (next_here ∙ here) same_next x xs p
    leads (Some parent) here fit x xs p =
        let above = s.ends parent in
        ends_led (next_at ties) (next_at new) id parent above.0 above.1 ((fit parent refl).1 above.0 above.1) (next_here ∙ here) same_next x xs p

-- A new object without clipper and parent.
pub sound_added : (ties new : ℕ → Option Tie) (id : ℕ) → IsSound ties → ties id ≡ None → clipper_at new id ≡ None → parent_at new id ≡ None → ((q : ℕ) → q ≢ id → new q ≡ ties q) → IsSound new
sound_added ties new id s fresh no_clipper no_parent others = record {
  ends = λ x.
      let way = s.ends x in
      ends_shortened (next_at ties) (next_at new) (λ q. inl (next_parts new q ∙ rw (clippers q, parents q) (sym (next_parts ties q)))) x way.0 way.1;
  clippers = λ q c e. let kind = s.clippers q c (sym (clippers q) ∙ e) in kinds c Rect kind;
  parents = λ q p e. let kind = s.parents q p (sym (parents q) ∙ e) in kinds p Smart kind;
  siblings = λ q c e. parents c ∙ s.siblings q c (sym (clippers q) ∙ e) ∙ sym (parents q);
}
  where
    clippers : (q : ℕ) → clipper_at new q ≡ clipper_at ties q
    clippers q = elim (eqb_tells q id) [ inl same ↦ ap (clipper_at new) same.1 ∙ no_clipper ∙ sym (ap (clipper_at ties) same.1 ∙ ap (option_and_then (λ tie. tie.clipper)) fresh) | inr differ ↦ ap (option_and_then (λ tie. tie.clipper)) (others q differ.1) ]

    parents : (q : ℕ) → parent_at new q ≡ parent_at ties q
    parents q = elim (eqb_tells q id) [ inl same ↦ ap (parent_at new) same.1 ∙ no_parent ∙ sym (ap (parent_at ties) same.1 ∙ ap (option_and_then (λ tie. tie.parent)) fresh) | inr differ ↦ ap (option_and_then (λ tie. tie.parent)) (others q differ.1) ]

    kinds : (q : ℕ) (kind : Kind) → kind_at ties q ≡ Some kind → kind_at new q ≡ Some kind
    kinds q kind e = elim (eqb_tells q id) [ inl same ↦ absurd (let gone = ap (kind_at ties) same.1 ∙ ap (option_and_then (λ tie. Some tie.kind)) fresh in cc) | inr differ ↦ ap (option_and_then (λ tie. Some tie.kind)) (others q differ.1) ∙ e ]

-- An object that clips nobody and has no members is removed.
pub sound_removed : (ties new : ℕ → Option Tie) (id : ℕ) → IsSound ties → new id ≡ None → ((q : ℕ) → q ≢ id → new q ≡ ties q) → ((q : ℕ) → clipper_at ties q ≢ Some id) → ((q : ℕ) → parent_at ties q ≢ Some id) → IsSound new
sound_removed ties new id s gone others clips members = record {
  ends = λ x.
      let way = s.ends x in
      ends_cut (next_at ties) (next_at new) id (ap (option_and_then (λ tie. option_or tie.clipper tie.parent)) gone) (λ q differ. ap (option_and_then (λ tie. option_or tie.clipper tie.parent)) (others q differ)) x way.0 way.1;
  clippers = λ q c e. let at = clipper_was q c e in let that : c ≢ id = λ same. clips q (at.1 ∙ ap Some same) in ap (option_and_then (λ tie. Some tie.kind)) (others c that) ∙ s.clippers q c at.1;
  parents = λ q p e.
      let this : q ≢ id = λ same. let at = ap (parent_at new) same ∙ ap (option_and_then (λ tie. tie.parent)) gone in cc in
      let was : parent_at ties q ≡ Some p = sym (ap (option_and_then (λ tie. tie.parent)) (others q this)) ∙ e in
      let that : p ≢ id = λ same. members q (was ∙ ap Some same) in
      ap (option_and_then (λ tie. Some tie.kind)) (others p that) ∙ s.parents q p was;
  siblings = λ q c e.
      let at = clipper_was q c e in
      let that : c ≢ id = λ same. clips q (at.1 ∙ ap Some same) in
      ap (option_and_then (λ tie. tie.parent)) (others c that) ∙ s.siblings q c at.1 ∙ sym (ap (option_and_then (λ tie. tie.parent)) (others q at.0));
}
  where
    clipper_was : (q c : ℕ) → clipper_at new q ≡ Some c → (q ≢ id) × (clipper_at ties q ≡ Some c)
    clipper_was q c e =
        let this : q ≢ id = λ same. let at = ap (clipper_at new) same ∙ ap (option_and_then (λ tie. tie.clipper)) gone in cc in
        (this, sym (ap (option_and_then (λ tie. tie.clipper)) (others q this)) ∙ e)
