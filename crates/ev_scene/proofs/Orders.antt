-- That all who stand together are an order, as it is told group by group.
use Rattle.std.proofs.Common.{◌≡◌, ℕ, zero, suc, ℤ, ◌+◌, ◌<◌, ◌≤◌, List, [], ◌∷◌, length, get_or, Option, None, Some, inl, inr, sym, subst, arith}
use Rattle.std.proofs.lemmas.Bool.Decides.{eqb_tells, leb_tells}
use Rattle.std.proofs.lemmas.List.{length-map}
use Rattle.ev_state.specs.Held.{Held}
use Rattle.ev_model.specs.declared.object.Object.{Object}
use Rattle.ev_stack.specs.LayerOrder.{IsOrder}
use Rattle.ev_groups.specs.Groups.{group}
use Rattle.ev_scene.specs.Board.{values_of}

-- those below a place are
abbrev pub AreOrdersBelow : List (List (ℕ × ℤ)) → ℕ → Type 0
AreOrdersBelow groups n = (at : ℕ) → at < n → IsOrder (get_or groups at [])

module _ (groups : List (List (ℕ × ℤ))) where
  pub first_order : IsOrder (group groups None) → AreOrdersBelow groups 1
  first_order top zero low = top
  first_order top (suc at) low = absurd (omega (arith, low))

  pub next_order : (n : ℕ) → AreOrdersBelow groups n → IsOrder (group groups (Some n)) → AreOrdersBelow groups (n + 1)
  next_order n below here at low =
      elim (eqb_tells at n) [
        | inl same ↦ subst (λ at. IsOrder (get_or groups at [])) (sym same.1) here
        | inr differ ↦ let other = differ.1 in below at (grind (arith, low, other))
      ]

past_all : (groups : List (List (ℕ × ℤ))) (at : ℕ) → length groups ≤ at → IsOrder (get_or groups at [])
past_all [] at high = record { layered = tt; distinct = tt }
past_all (one ∷ groups) zero high = absurd (omega (arith, high))
past_all (one ∷ groups) (suc at) high = past_all groups at (omega (arith, high))

pub each_order : (groups : List (List (ℕ × ℤ))) (n : ℕ) → AreOrdersBelow groups n → length groups ≤ n → (at : ℕ) → IsOrder (get_or groups at [])
each_order groups n below high at =
    elim (leb_tells n at) [
      | inl later ↦ (let after = later.1 in past_all groups at (omega (arith, high, after)))
      | inr before ↦ below at before.1
    ]

-- each group lies below the next id
pub all_groups : (states : List (Option (Held Object))) (groups : List (List (ℕ × ℤ))) (next n : ℕ) → length groups ≡ length (values_of states) + 1 → next ≡ length states + 1 → next ≤ n → length groups ≤ n
all_groups states groups next n grouped e past = let same : length (values_of states) ≡ length states = length-map states _ in omega (arith, grouped, e, past, same)
