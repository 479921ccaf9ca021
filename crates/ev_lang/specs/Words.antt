-- Words of a line, between spaces.
use Rattle.std.specs.Prelude.{ℕ, Bool, false, not, Option, Some, None, List, [], ◌∷◌, ◌==◌, if◌then◌else◌}

-- a byte in front of the first list
abbrev pub onto_first : ℕ → List (List ℕ) → List (List ℕ)
onto_first b [] = (b ∷ []) ∷ []
onto_first b (line ∷ lines) = (b ∷ line) ∷ lines

-- whether a word begins here
abbrev pub begins_word : List ℕ → Bool
begins_word [] = false
begins_word (c ∷ cs) = not (c == 32)

-- the words of a line: a character goes onto the word behind it, or is one by itself
abbrev pub words : List ℕ → List (List ℕ)
words [] = []
words (c ∷ cs) = if c == 32 then words cs else (if begins_word cs then onto_first c (words cs) else (c ∷ []) ∷ words cs)

-- a line from its first word on
abbrev pub skipped : List ℕ → List ℕ
skipped [] = []
skipped (c ∷ cs) = if c == 32 then skipped cs else c ∷ cs

-- the characters up to a space
abbrev pub first_word : List ℕ → List ℕ
first_word [] = []
first_word (c ∷ cs) = if c == 32 then [] else c ∷ first_word cs

-- the characters from the first space on
abbrev pub after_word : List ℕ → List ℕ
after_word [] = []
after_word (c ∷ cs) = if c == 32 then c ∷ cs else after_word cs

-- all but one character
abbrev pub after_one : List ℕ → List ℕ
after_one [] = []
after_one (c ∷ cs) = cs

-- the first word and the words behind it
abbrev pub uncons : List (List ℕ) → Option (List ℕ × List (List ℕ))
uncons [] = None
uncons (word ∷ words) = Some (word, words)
