-- Changes that are put where they are looked up later.
use Rattle.std.proofs.Common.{◌≡◌, ℕ, Bool, false, ◌<◌, ◌||◌, ◌==◌, All, List, [], ◌∷◌, ◌++◌, length, get_or, slice_set, Option, None, inl, inr, refl, sym, ap, ◌∙◌, subst, length-append, arith}
use Rattle.std.proofs.lemmas.Bool.Decides.{eqb_tells, nat_tests}
use Rattle.std.proofs.lemmas.List.{get_or_append_left, get_or-set_other, get_or-set_same, length-set}
use Rattle.std.proofs.lemmas.List.Folds.{list_any-append}
use Rattle.std.proofs.Math.Seq.{get_or-append_seam}
use Rattle.ev_state.specs.Held.{Held}
use Rattle.ev_track.specs.Marked.{is_marked}
use Rattle.ev_track.specs.Tracks.{state_in, IsTracked}
use Rattle.ev_track.specs.Settling.{is_listed, AreNow, AreInside, HasElse}
use Rattle.ev_track.specs.declared.settle.Change.{Change}

-- all but the last, and the last
all_before : {A : Type 0} (P : A → Type 0) (xs : List A) (x : A) → All P (xs ++ x ∷ []) → All P xs
all_before P xs x all = λ k d low. let n = length-append xs (x ∷ []) in subst P (get_or_append_left xs (x ∷ []) d k low) (all k d (omega (arith, n, low)))

all_last : {A : Type 0} (P : A → Type 0) (xs : List A) (x : A) → All P (xs ++ x ∷ []) → P x
all_last P xs x all = let n = length-append xs (x ∷ []) in subst P (get_or-append_seam xs x [] x) (all (length xs) x (omega (arith, n)))

module _ {T : Type 0} (was : List (Option (Held T))) (changes changes' : List (Change T)) (c : Change T) (is : changes ≡ changes' ++ c ∷ []) where
  pub inside_still : AreInside (length was) changes → AreInside (length (slice_set was c.place c.now)) changes'
  inside_still inside =
      subst (λ n. AreInside n changes') (sym (length-set was c.place c.now)) (all_before (λ c. c.place < length was) changes' c (subst (AreInside (length was)) is inside))

  apart : (p : ℕ) → is_listed changes' p ≡ false → (c.place == p) ≡ false → is_listed changes p ≡ false
  apart p none differ =
      ap (λ changes. is_listed changes p) is ∙ list_any-append (λ c. c.place == p) changes' (c ∷ []) ∙ ap (λ b. b || is_listed (c ∷ []) p) none ∙ ap (λ b. b || false) differ

  pub one_put : (now : ℕ → Option (Held T)) → AreInside (length was) changes → AreNow now changes → HasElse now changes was
      → AreNow now changes' × HasElse now changes' (slice_set was c.place c.now)
  one_put now inside are has = (
    all_before (λ c. c.now ≡ now c.place) changes' c are',
    λ p none. elim (eqb_tells p c.place) [
      | inl here ↦ ap (λ p. get_or (slice_set was c.place c.now) p None) here.1 ∙ get_or-set_same was c.place c.now None low ∙ own ∙ ap now (sym here.1)
      | inr differ ↦ get_or-set_other was c.place p c.now None differ.1 ∙ has p (apart p none (let d = differ.1 in grind (arith, nat_tests, d)))
    ],
  ) where
    are' : AreNow now (changes' ++ c ∷ [])
    are' = subst (AreNow now) is are

    own : c.now ≡ now c.place
    own = all_last (λ c. c.now ≡ now c.place) changes' c are'

    low : c.place < length was
    low = all_last (λ c. c.place < length was) changes' c (subst (AreInside (length was)) is inside)

-- all changes are put: each place has what stands in it
module _ {T : Type 0} (slots : List (Option (Held T))) (seats : List (Option ℕ)) (was longer put : List (Option (Held T))) (marks : List Bool) (changes : List (Change T)) where
  pub all_put : IsTracked slots seats was marks → ((place : ℕ) → is_listed changes place ≡ false → is_marked marks place ≡ false) → AreNow (state_in slots seats) changes
      → ((place : ℕ) → get_or longer place None ≡ get_or was place None)
      → ((now : ℕ → Option (Held T)) → AreNow now changes → HasElse now changes longer → HasElse now [] put)
      → (place : ℕ) → state_in slots seats place ≡ get_or put place None
  all_put tracked all are same puts place = sym (puts (state_in slots seats) are (λ p none. same p ∙ sym (tracked.same p (all p none))) place refl)
