-- Fewer than two words that are left.
use Rattle.std.proofs.Common.{ℕ, ◌≡◌, ◌<◌, ◌==◌, List, [], ◌∷◌, length, None, Bor, refl, arith}
use Rattle.ev_script.specs.Status.{texts}
use Rattle.ev_script.specs.Options.{are_pairs, value_of}

-- they give an option no value
pub no_value : (option : List ℕ) (words : List (Bor (List ℕ))) → length words < 2 → value_of option (texts words) ≡ None
no_value option [] few = refl
no_value option (word ∷ []) few = refl
no_value option (word ∷ (value ∷ words)) few = absurd (omega (arith, few))

-- they are pairs where there is none
pub none_left : (words : List (Bor (List ℕ))) → length words < 2 → (length words == 0) ≡ are_pairs (texts words)
none_left [] few = refl
none_left (word ∷ []) few = refl
none_left (word ∷ (value ∷ words)) few = absurd (omega (arith, few))
