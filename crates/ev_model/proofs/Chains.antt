-- Going on from one thing to the next.
use Rattle.std.proofs.Common.{◌≡◌, ℕ, suc, zero, ◌+◌, true, [], ◌∷◌, Option, Some, None, refl, ap}
use Rattle.std.proofs.Math.Nat.{suc-add}
use Rattle.ev_model.specs.Chain.{chain, ends}

none : {A : Type 0} (n : ℕ) (next : A → Option A) → chain n next None ≡ []
none zero next = refl
none (suc n) next = refl

-- where the way comes to an end, more steps lead no further
pub chain_whole : {A : Type 0} (n m : ℕ) (next : A → Option A) (a : Option A) → ends n next a ≡ true → chain (n + m) next a ≡ chain n next a
chain_whole zero m next None h = none (0 + m) next
chain_whole zero m next (Some a) h = cc
chain_whole (suc n) m next None h = rw suc-add refl
chain_whole (suc n) m next (Some a) h = rw suc-add (ap (λ more. a ∷ more) (chain_whole n m next (next a) h))
