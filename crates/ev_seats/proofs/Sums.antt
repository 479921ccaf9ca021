-- Sums over lists that change at one place.
use Rattle.std.proofs.Common.{◌≡◌, ℕ, zero, suc, ◌+◌, ◌<◌, ◌≤◌, ◌≢◌, List, [], ◌∷◌, ◌++◌, set, replicate, sym, refl, ap, arith, cond, map, eq-eqb, ne_eqb}
use mathlib.Core.Logic.{dite}
use native.Mathlib.Decide.{ℕ_discrete}
use mathlib.Core.Option.{some, some-injective, some-ne-none}
use lib.ListN.{get_elem?}
use Rattle.std.specs.Prelude.{Option, Some, None}
use Rattle.ev_seats.specs.Weights.{total, below, only, is_of}

module _ {A : Type 0} where
  module _ (g : A → ℕ) where
    pub total-append : (l m : List A) → total g (l ++ m) ≡ total g l + total g m
    total-append [] m = omega arith
    total-append (x ∷ xs) m = omega (arith, total-append xs m)

    pub total-set : (l : List A) (j : ℕ) (v w : A) → get_elem? l j ≡ some v → total g (set l j w) + g v ≡ total g l + g w
    total-set [] j v w e = absurd (some-ne-none v (sym e))
    total-set (x ∷ xs) zero v w e = omega (arith, ap g (some-injective x v e))
    total-set (x ∷ xs) (suc j) v w e = omega (arith, total-set xs j v w e)

    pub term_le : (l : List A) (j : ℕ) (v : A) → get_elem? l j ≡ some v → g v ≤ total g l
    term_le [] j v e = absurd (some-ne-none v (sym e))
    term_le (x ∷ xs) zero v e = omega (arith, ap g (some-injective x v e))
    term_le (x ∷ xs) (suc j) v e = omega (arith, term_le xs j v e)

    pub terms_le : (l : List A) (j k : ℕ) (v u : A) → k ≢ j → get_elem? l j ≡ some v → get_elem? l k ≡ some u → g v + g u ≤ total g l
    terms_le [] j k v u n e d = absurd (some-ne-none v (sym e))
    terms_le (x ∷ xs) zero zero v u n e d = absurd (n refl)
    terms_le (x ∷ xs) zero (suc k) v u n e d = omega (arith, ap g (some-injective x v e), term_le xs k u d)
    terms_le (x ∷ xs) (suc j) zero v u n e d = omega (arith, ap g (some-injective x u d), term_le xs j v e)
    terms_le (x ∷ xs) (suc j) (suc k) v u n e d = omega (arith, terms_le xs j k v u (λ h. n (ap suc h)) e d)

    pub total-none : (l : List A) → ((k : ℕ) (u : A) → get_elem? l k ≡ some u → g u ≡ 0) → total g l ≡ 0
    total-none [] z = refl
    total-none (x ∷ xs) z = omega (arith, z zero x refl, total-none xs (λ k u d. z (suc k) u d))

    -- where all terms but the one at j are 0, it is the whole sum
    pub total-lone : (l : List A) (j : ℕ) (v : A) → get_elem? l j ≡ some v → ((k : ℕ) (u : A) → k ≢ j → get_elem? l k ≡ some u → g u ≡ 0) → total g l ≡ g v
    total-lone [] j v e z = absurd (some-ne-none v (sym e))
    total-lone (x ∷ xs) zero v e z = omega (arith, ap g (some-injective x v e), total-none xs (λ k u d. z (suc k) u (λ h. omega arith) d))
    total-lone (x ∷ xs) (suc j) v e z = omega (arith, z zero x (λ h. omega arith) refl, total-lone xs j v e (λ k u n d. z (suc k) u (λ h. n (omega arith)) d))

    pub total-replicate : (n : ℕ) (a : A) → g a ≡ 0 → total g (replicate n a) ≡ 0
    total-replicate zero a z = refl
    total-replicate (suc n) a z = omega (arith, z, total-replicate n a z)

pub below_more : (f : ℕ → ℕ) (n : ℕ) → below f (n + 1) ≡ below f n + f n
below_more f n = let e : n + 1 ≡ suc n = omega arith in ap (below f) e

pub only-same : (k : ℕ) → only k k ≡ 1
only-same k = ap (λ b. cond b 1 0) (eq-eqb k k refl)

pub only-other : (k x : ℕ) → x ≢ k → only k x ≡ 0
only-other k x n = ap (λ b. cond b 1 0) (ne_eqb x k n)

below-only : (k n : ℕ) → (below (only k) n ≤ 1) × (n ≤ k → below (only k) n ≡ 0)
below-only k zero = (omega arith, λ _. refl)
below-only k (suc n) =
    let before = below-only k n in
    dite (ℕ_discrete n k)
    (λ e. let none-yet = before.1 (omega arith) in let one : only k n ≡ 1 = ap (λ b. cond b 1 0) (eq-eqb n k e) in (omega arith, λ h. absurd (omega arith)))
    (λ ne. let zero-here = only-other k n ne in (omega (arith, before.0), λ h. omega (arith, before.1 (omega arith))))

-- each number below n stands there once, and no other
pub below-in : (k n : ℕ) → k < n → below (only k) n ≡ 1
below-in k zero lt = absurd (omega arith)
below-in k (suc n) lt = dite (ℕ_discrete n k)
    (λ e. let none-yet = (below-only k n).1 (omega arith) in let one : only k n ≡ 1 = ap (λ b. cond b 1 0) (eq-eqb n k e) in omega arith)
    (λ ne. let zero-here = only-other k n ne in omega (arith, below-in k n (omega arith)))

pub below-out : (k n : ℕ) → n ≤ k → below (only k) n ≡ 0
below-out k n le = (below-only k n).1 le

pub below-once : (k n : ℕ) → below (only k) n ≤ 1
below-once k n = (below-only k n).0

module _ {A B : Type 0} where
  pub total-map : (g : B → ℕ) (f : A → B) (l : List A) → total g (map f l) ≡ total (λ x. g (f x)) l
  total-map g f [] = refl
  total-map g f (x ∷ xs) = omega (arith, total-map g f xs)

module _ {A : Type 0} where
  pub total-le : (g h : A → ℕ) → ((x : A) → g x ≤ h x) → (l : List A) → total g l ≤ total h l
  total-le g h le [] = omega arith
  total-le g h le (x ∷ xs) = omega (arith, le x, total-le g h le xs)

-- who holds a number
pub is_of-same : (n : ℕ) → is_of n (Some n) ≡ 1
is_of-same n = ap (λ b. cond b 1 0) (eq-eqb n n refl)

pub is_of-other : (n k : ℕ) → k ≢ n → is_of n (Some k) ≡ 0
is_of-other n k other = ap (λ b. cond b 1 0) (ne_eqb k n other)

pub is_of-none : (n : ℕ) (held : Option ℕ) → ((k : ℕ) → held ≡ Some k → ⊥) → is_of n held ≡ 0
is_of-none n None free = refl
is_of-none n (Some k) free = absurd (free k refl)
