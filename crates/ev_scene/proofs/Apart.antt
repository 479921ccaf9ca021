-- Ids that no sibling has.
use Rattle.std.proofs.Common.{◌≡◌, ℕ, ℤ, List, [], ◌∷◌, Some, None, inl, inr}
use Rattle.std.proofs.lemmas.Bool.Decides.{eqb_tells}
use Rattle.ev_stack.specs.LayerOrder.{layer_in, IsApart}

-- who isn't in the list is apart from it
pub apart_absent : (xs : List (ℕ × ℤ)) (id : ℕ) → layer_in xs id ≡ None → IsApart id xs
apart_absent [] id none = tt
apart_absent (one ∷ rest) id none =
    elim (eqb_tells one.0 id) [
      | inl here ↦ absurd (let found : Some one.1 ≡ None = rw here.0 at none in cc)
      | inr away ↦ (away.1, apart_absent rest id (rw away.0 at none))
    ]
