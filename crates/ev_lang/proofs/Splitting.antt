-- The words of a line, one after another.
use Rattle.std.proofs.Common.{◌≡◌, ℕ, ◌<◌, List, [], ◌∷◌, Bool, true, false, Option, Some, None, length, refl, ap, ◌==◌, arith}
use Rattle.ev_lang.specs.Words.{onto_first, words, skipped, first_word, after_word, uncons}

-- where a word begins, it comes first
split_at : (t : Bool) (c d : ℕ) (ds : List ℕ) → (c == 32) ≡ false → (d == 32) ≡ t → words (c ∷ d ∷ ds) ≡ first_word (c ∷ d ∷ ds) ∷ words (after_word (c ∷ d ∷ ds))
split_at true c d ds is space = simp (is, space)
split_at false c d [] is word = simp (is, word)
split_at false c d (e ∷ ds) is word = rw (is, word) (ap (onto_first c) (rw word at (split_at (e == 32) d e ds word refl)))

words_split : (c : ℕ) (cs : List ℕ) → (c == 32) ≡ false → words (c ∷ cs) ≡ first_word (c ∷ cs) ∷ words (after_word (c ∷ cs))
words_split c [] is = rw is refl
words_split c (d ∷ ds) is = split_at (d == 32) c d ds is refl

-- the first word and what follows it, in a line that begins with it
abbrev pub next : List ℕ → Option (List ℕ × List (List ℕ))
next [] = None
next (c ∷ cs) = Some (first_word (c ∷ cs), words (after_word (c ∷ cs)))

-- spaces in front don't count
pub next_skipped : (cs : List ℕ) → next (skipped cs) ≡ uncons (words cs)
next_skipped [] = refl
next_skipped (c ∷ cs) = skip (c == 32) refl (next_skipped cs)
  where
    skip : (t : Bool) → (c == 32) ≡ t → next (skipped cs) ≡ uncons (words cs) → next (skipped (c ∷ cs)) ≡ uncons (words (c ∷ cs))
    skip true space behind = rw space behind
    skip false word behind = rw (words_split c cs word) (simp word)

pub next_some : (line : List ℕ) → 0 < length line → Some (first_word line, words (after_word line)) ≡ next line
next_some [] some = absurd (omega arith)
next_some (c ∷ cs) some = refl

pub next_none : (line : List ℕ) → length line ≡ 0 → None ≡ next line
next_none [] none = refl
next_none (c ∷ cs) none = absurd (omega arith)
