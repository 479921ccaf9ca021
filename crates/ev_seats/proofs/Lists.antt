-- What stands at a place of a list.
use Rattle.std.proofs.Common.{◌≡◌, ℕ, zero, suc, ◌<◌, List, [], ◌∷◌, map, set, get_or, length, replicate, sym, refl, ap, ◌∙◌, arith}
use mathlib.Core.Option.{some, some-injective, some-ne-none}
use lib.ListN.{get_elem?}
use Rattle.atomic_table.specs.Table.{rest}

module _ {A : Type 0} where
  pub inside : (l : List A) (i : ℕ) (d : A) → i < length l → get_elem? l i ≡ some (get_or l i d)
  inside [] i d lt = absurd (omega arith)
  inside (x ∷ xs) zero d lt = refl
  inside (x ∷ xs) (suc i) d lt = inside xs i d (omega arith)

  pub set_at : (l : List A) (i : ℕ) (a b : A) → get_elem? l i ≡ some b → get_elem? (set l i a) i ≡ some a
  set_at [] i a b e = absurd (some-ne-none b (sym e))
  set_at (x ∷ xs) zero a b e = refl
  set_at (x ∷ xs) (suc i) a b e = set_at xs i a b e

  pub at_replicate : (n i : ℕ) (a x : A) → get_elem? (replicate n a) i ≡ some x → a ≡ x
  at_replicate zero i a x e = absurd (some-ne-none x (sym e))
  at_replicate (suc n) zero a x e = some-injective a x e
  at_replicate (suc n) (suc i) a x e = at_replicate n i a x e

  -- each slot of a new table is at home
  pub at_home : (n i : ℕ) (a : A) → i < n → get_elem? (map some (replicate n a)) i ≡ some (some a)
  at_home zero i a lt = absurd (omega arith)
  at_home (suc n) zero a lt = refl
  at_home (suc n) (suc i) a lt = at_home n i a (omega arith)

  -- the list has this one element
  pub lone : (a x : A) (i : ℕ) → get_elem? (a ∷ []) i ≡ some x → a ≡ x
  lone a x zero e = some-injective a x e
  lone a x (suc i) e = absurd (some-ne-none x (sym e))

  -- the slot that a seat took last, by its index in the code
  pub first_slot : (cs more : List (ℕ × A)) (i k : ℕ) (y : A) → cs ≡ (k, y) ∷ more → i ≡ k → cs ≡ (i, y) ∷ rest cs
  first_slot cs more i k y e is = e ∙ (λ n. (sym is n, y) ∷ sym (ap rest e) n)
