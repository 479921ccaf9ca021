-- How long a way can be.
use Rattle.std.proofs.Common.{◌≡◌, ℕ, ◌<◌, ◌≤◌, true, false, List, [], ◌∷◌, Option, Some, inl, inr, length, sym, subst, arith}
use Rattle.std.proofs.lemmas.Bool.Decides.{eqb_tells}
use Rattle.std.proofs.lemmas.Cmp.{nat_eq_equiv}
use Rattle.std.proofs.lemmas.Map.Steps.{length-le_from_keys}
use Rattle.std.specs.Prelude.{nat_eq, IsSome}
use Rattle.std.specs.List as list
use Rattle.std.specs.Map.{lookup}
use Rattle.ev_links.specs.Ties.{IsWay, Has, IsDistinct}
use Rattle.ev_links.proofs.Ways.{no_repeats}

std_distinct : (xs : List ℕ) → IsDistinct xs → list.IsDistinct nat_eq xs
unfolding list.IsDistinct
std_distinct [] d = tt
std_distinct (x ∷ xs) d = (apart xs d.0, std_distinct xs d.1)
  where
    apart : (xs : List ℕ) → ¬ Has x xs → list.AllByRecursion (λ y. nat_eq x y ≡ false) xs
    apart [] away = tt
    apart (y ∷ ys) away = (elim (eqb_tells x y) [ inl same ↦ absurd (away (inl (sym same.1))) | inr differ ↦ differ.0 ], apart ys (λ h. away (inr h)))

is_member_Has : (xs : List ℕ) (q : ℕ) → list.list_any (nat_eq q) xs ≡ true → Has q xs
is_member_Has [] q e = cc
is_member_Has (x ∷ xs) q e = elim (eqb_tells q x) [ inl same ↦ inl (sym same.1) | inr differ ↦ inr (is_member_Has xs q (rw differ.0 at e)) ]

-- a list without repeats of ids that have an entry is no longer than the entries
pub few : {X : Type 0} (entries : List (ℕ × X)) (xs : List ℕ) → IsDistinct xs → ((q : ℕ) → Has q xs → IsSome (lookup (nat_eq q) entries)) → length xs ≤ length entries
few entries xs d there = length-le_from_keys nat_eq_equiv xs entries (std_distinct xs d) (λ q e. there q (is_member_Has xs q e))

-- a way of ids that have an entry is shorter than the entries
pub way_within : {X : Type 0} (entries : List (ℕ × X)) (next : ℕ → Option ℕ) (id : ℕ) (way : List ℕ) → IsSome (lookup (nat_eq id) entries) → ((q to : ℕ) → next q ≡ Some to → IsSome (lookup (nat_eq to) entries)) → IsWay next id way → length way < length entries
way_within entries next id way there known p =
    let most = few entries (id ∷ way) (no_repeats next id way p) (λ q h. elim h [ inl here ↦ subst (λ n. IsSome (lookup (nat_eq n) entries)) here there | inr later ↦ along id way p q later ]) in
    omega (arith, most)
  where
    along : (id : ℕ) (way : List ℕ) → IsWay next id way → (q : ℕ) → Has q way → IsSome (lookup (nat_eq q) entries)
    along id [] p q h = absurd h
    along id (x ∷ xs) p q h = elim h [ inl here ↦ subst (λ n. IsSome (lookup (nat_eq n) entries)) here (known id x p.0) | inr later ↦ along x xs p.1 q later ]
