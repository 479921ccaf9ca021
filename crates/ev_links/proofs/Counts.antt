-- How many objects an object clips.
use Rattle.std.proofs.Common.{◌≡◌, ◌≢◌, ℕ, ◌<◌, ◌+◌, ◌-◌, suc, false, List, [], ◌∷◌, Option, Some, None, ◌⊎◌, inl, inr, length, refl, sym, subst, ◌∙◌, ap, arith, if◌then◌else◌, ◌==◌}
use Rattle.std.proofs.lemmas.Bool.Decides.{eqb_tells}
use Rattle.std.specs.Prelude.{nat_eq}
use Rattle.std.specs.Option.{option_eq}
use Rattle.ev_links.specs.Ties.{Has, IsDistinct, Counts}

-- a list without one of its numbers
abbrev without : List ℕ → ℕ → List ℕ
without [] id = []
without (one ∷ rest) id = if one == id then rest else one ∷ without rest id

Has-without : (xs : List ℕ) (id other : ℕ) → Has other (without xs id) → Has other xs
Has-without [] id other h = h
Has-without (one ∷ rest) id other h =
    elim (eqb_tells one id) [
      | inl same ↦ inr (rw same.0 at h)
      | inr differ ↦
          let split : (one ≡ other) ⊎ Has other (without rest id) = rw differ.0 at h in
          elim split [ inl here ↦ inl here | inr later ↦ inr (Has-without rest id other later) ]
    ]

kept_without : (xs : List ℕ) (id other : ℕ) → Has other xs → other ≢ id → Has other (without xs id)
kept_without [] id other h away = h
kept_without (one ∷ rest) id other h away =
    elim (eqb_tells one id) [
      | inl same ↦ rw same.0 (elim h [ inl here ↦ absurd (away (sym here ∙ same.1)) | inr later ↦ later ])
      | inr differ ↦ rw differ.0 (elim h [ inl here ↦ inl here | inr later ↦ inr (kept_without rest id other later away) ])
    ]

IsDistinct-without : (xs : List ℕ) (id : ℕ) → IsDistinct xs → IsDistinct (without xs id)
IsDistinct-without [] id d = tt
IsDistinct-without (one ∷ rest) id d =
    elim (eqb_tells one id) [
      | inl same ↦ rw same.0 d.1
      | inr differ ↦ rw differ.0 (λ h. d.0 (Has-without rest id one h), IsDistinct-without rest id d.1)
    ]

gone_without : (xs : List ℕ) (id : ℕ) → IsDistinct xs → ¬ Has id (without xs id)
gone_without [] id d = λ h. h
gone_without (one ∷ rest) id d =
    elim (eqb_tells one id) [
      | inl same ↦ rw same.0 (λ h. d.0 (subst (λ n. Has n rest) (sym same.1) h))
      | inr differ ↦ rw differ.0 (λ h. elim h [ inl here ↦ differ.1 here | inr later ↦ gone_without rest id d.1 later ])
    ]

length-without : (xs : List ℕ) (id : ℕ) → Has id xs → suc (length (without xs id)) ≡ length xs
length-without [] id h = absurd h
length-without (one ∷ rest) id h =
    elim (eqb_tells one id) [
      | inl same ↦ rw same.0 refl
      | inr differ ↦ rw differ.0 (ap suc (length-without rest id (elim h [ inl here ↦ absurd (differ.1 here) | inr later ↦ later ])))
    ]

-- the same objects have this clipper
pub Counts-same : (clipper new : ℕ → Option ℕ) (id n : ℕ) → Counts clipper id n → ((q : ℕ) → new q ≡ Some id → clipper q ≡ Some id) → ((q : ℕ) → clipper q ≡ Some id → new q ≡ Some id) → Counts new id n
Counts-same clipper new id n c back on = record {
  ids = c.ids;
  distinct = c.distinct;
  clipped = λ other h. on other (c.clipped other h);
  all = λ other e. c.all other (back other e);
  count = c.count;
}

-- one object more
pub Counts-more : (clipper new : ℕ → Option ℕ) (id one n : ℕ) → Counts clipper id n → clipper one ≢ Some id → new one ≡ Some id → ((q : ℕ) → q ≢ one → new q ≡ clipper q) → Counts new id (n + 1)
Counts-more clipper new id one n c before after others = record {
  ids = one ∷ c.ids;
  distinct = (λ h. before (c.clipped one h), c.distinct);
  clipped = λ other h. elim h [
    | inl here ↦ ap new (sym here) ∙ after
    | inr later ↦ others other (λ e. before (ap clipper (sym e) ∙ c.clipped other later)) ∙ c.clipped other later
  ];
  all = λ other e. elim (eqb_tells one other) [
    | inl same ↦ inl same.1
    | inr differ ↦ inr (c.all other (sym (others other (λ e. differ.1 (sym e))) ∙ e))
  ];
  count = let length_is = c.count in omega (arith, length_is);
}

-- one object less
pub Counts-less : (clipper new : ℕ → Option ℕ) (id one n : ℕ) → Counts clipper id n → clipper one ≡ Some id → new one ≢ Some id → ((q : ℕ) → q ≢ one → new q ≡ clipper q) → Counts new id (n - 1)
Counts-less clipper new id one n c before after others = record {
  ids = without c.ids one;
  distinct = IsDistinct-without c.ids one c.distinct;
  clipped = λ other h.
      let this : other ≢ one = λ e. gone_without c.ids one c.distinct (subst (λ n. Has n (without c.ids one)) e h) in
      others other this ∙ c.clipped other (Has-without c.ids one other h);
  all = λ other e.
      let this : other ≢ one = λ same. after (ap new (sym same) ∙ e) in
      kept_without c.ids one other (c.all other (sym (others other this) ∙ e)) this;
  count = let length_is = c.count in let shorter = length-without c.ids one (c.all one before) in omega (arith, length_is, shorter);
}

-- who clips an object counts one at least
pub Counts-some : (clipper : ℕ → Option ℕ) (id one n : ℕ) → Counts clipper id n → clipper one ≡ Some id → 0 < n
Counts-some clipper id one n c is = let length_is = c.count in let shorter = length-without c.ids one (c.all one is) in omega (arith, length_is, shorter)

-- who counts none clips nobody
pub Counts-none : (clipper : ℕ → Option ℕ) (id : ℕ) → Counts clipper id 0 → (q : ℕ) → clipper q ≢ Some id
Counts-none clipper id c q is = let some = Counts-some clipper id q 0 c is in omega (arith, some)

-- another clipper, or none, is not this one
pub option_neq : (a : Option ℕ) (id : ℕ) → a ≢ Some id → option_eq nat_eq a (Some id) ≡ false
option_neq None id differ = refl
option_neq (Some x) id differ = elim (eqb_tells x id) [ inl same ↦ absurd (differ (ap Some same.1)) | inr apart ↦ apart.0 ]
