-- Lists of numbers are compared by weight: where two lists weigh the same under every f, they have the same numbers, each as often.
use Rattle.std.specs.Prelude.{◌≡◌, ℕ, zero, suc, ◌+◌, ◌==◌, cond, List, [], ◌∷◌, Option, Some, None}

abbrev pub total : {A : Type 0} → (A → ℕ) → List A → ℕ
total f [] = 0
total f (x ∷ xs) = f x + total f xs

-- the weight of the numbers below n
abbrev pub below : (ℕ → ℕ) → ℕ → ℕ
below f zero = 0
below f (suc n) = below f n + f n

-- the list has each number below n, once, and no other number
abbrev pub IsEachBelow : ℕ → List ℕ → Type 0
IsEachBelow n xs = (f : ℕ → ℕ) → total f xs ≡ below f n

-- it counts how often k stands in a list
abbrev pub only : ℕ → ℕ → ℕ
only k x = cond (x == k) 1 0

-- it counts the seats that hold something
abbrev pub is_one : Option ℕ → ℕ
is_one None = 0
is_one (Some held) = 1

-- it counts the seats that hold k
abbrev pub is_of : ℕ → Option ℕ → ℕ
is_of k None = 0
is_of k (Some held) = cond (held == k) 1 0
