-- What an object outside holds, where it tells it. What is told when a call ends was told when it began.
use Rattle.std.specs.Prelude.{◌≡◌, ℕ, ◌+◌, ◌-◌, ◌<◌, ◌^◌, min, List, [], ◌++◌, length, take, Option, Some, None, Result, MatchResult}
use Rattle.std.proofs.Common.{refl, sym, ap, ◌∙◌, append_assoc}
use Rattle.std.proofs.lemmas.List.{append-nil}

-- what is told at the end has grown by these
abbrev pub Grown : {A : Type 0} → Option (List A) → Option (List A) → List A → Type 0
Grown old None added = Unit {0}
Grown None (Some now) added = ⊥
Grown (Some before) (Some now) added = now ≡ before ++ added

-- the same as a record, so that lemmas find their arguments in it
pub record GrowsBy {A : Type 0} (old new : Option (List A)) (added : List A) : Type 0 where
  pub grown : Grown old new added

joined : {A : Type 0} (a b c : Option (List A)) (xs ys : List A) → Grown a b xs → Grown b c ys → Grown a c (xs ++ ys)
joined a b None xs ys first second = tt
joined a None (Some c) xs ys first second = absurd second
joined None (Some b) (Some c) xs ys first second = absurd first
joined (Some a) (Some b) (Some c) xs ys first second = second ∙ ap (λ front. front ++ ys) first ∙ append_assoc a xs ys

-- nothing was added
pub grows_by_none : {A : Type 0} (told : Option (List A)) → GrowsBy told told []
grows_by_none None = record { grown = tt }
grows_by_none (Some before) = record { grown = sym (append-nil before) }

-- one growth after another
pub grows_on : {A : Type 0} {a b c : Option (List A)} {xs ys : List A} → GrowsBy a b xs → GrowsBy b c ys → GrowsBy a c (xs ++ ys)
grows_on {a = a} {b = b} {c = c} {xs = xs} {ys = ys} first second = record { grown = joined a b c xs ys first.grown second.grown }

-- what is told at the end has grown by a front of these
pub record GrowsPart {A : Type 0} (old new : Option (List A)) (piece : List A) : Type 0 where
  pub added : List A
  pub left_out : List A
  pub split : piece ≡ added ++ left_out
  pub grows : GrowsBy old new added

-- nothing of a piece was added
pub no_part : {A : Type 0} (told : Option (List A)) (piece : List A) → GrowsPart told told piece
no_part told piece = record { added = []; left_out = piece; split = refl; grows = grows_by_none told }

-- a front of a piece is a front of what the piece begins
pub part_of_front : {A : Type 0} {a b : Option (List A)} {xs : List A} (ys : List A) → GrowsPart a b xs → GrowsPart a b (xs ++ ys)
part_of_front ys part = record {
  added = part.added;
  left_out = part.left_out ++ ys;
  split = ap (λ front. front ++ ys) part.split ∙ append_assoc part.added part.left_out ys;
  grows = part.grows;
}

-- a whole piece, and a front of the next
pub whole_then_part : {A : Type 0} {a b c : Option (List A)} {xs ys : List A} → GrowsBy a b xs → GrowsPart b c ys → GrowsPart a c (xs ++ ys)
whole_then_part {xs = xs} whole part = record {
  added = xs ++ part.added;
  left_out = part.left_out;
  split = ap (λ back. xs ++ back) part.split ∙ sym (append_assoc xs part.added part.left_out);
  grows = grows_on whole part.grows;
}

-- what is told at the end was told with these in front
abbrev pub Shrunk : {A : Type 0} → Option (List A) → Option (List A) → List A → Type 0
Shrunk old None taken = Unit {0}
Shrunk None (Some now) taken = ⊥
Shrunk (Some before) (Some now) taken = before ≡ taken ++ now

-- the same as a record
pub record ShrinksBy {A : Type 0} (old new : Option (List A)) (taken : List A) : Type 0 where
  pub shrunk : Shrunk old new taken

-- nothing is left, where it is told
abbrev pub IsAtEnd : {A : Type 0} → Option (List A) → Type 0
IsAtEnd None = Unit {0}
IsAtEnd (Some left) = left ≡ []

-- a read into buf moved the first bytes that were left, and none only at the end
abbrev pub ReadMoves : {E : Type 0} → Option (List ℕ) → Option (List ℕ) → Result ℕ E → List ℕ → Type 0
ReadMoves old new result buf = MatchResult result
    (λ n. ShrinksBy old new (take n buf) × (n ≡ 0 → 0 < length buf → IsAtEnd new))
    (λ _. ShrinksBy old new [])

-- a count of bytes after n more, which stays at its type's end
abbrev pub counted : ℕ → ℕ → ℕ
counted before n = min (before + n) (2 ^ 64 - 1)
