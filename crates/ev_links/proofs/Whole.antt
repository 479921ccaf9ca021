-- Walks of as many steps as there are objects.
use Rattle.std.proofs.Common.{◌≡◌, ℕ, ◌<◌, ◌≤◌, true, false, List, [], ◌∷◌, Option, Some, length, cond, refl, sym, subst, ◌∙◌, ap, arith, is_some, ◌==◌}
use Rattle.std.specs.Prelude.{nat_eq}
use Rattle.std.specs.Ordering.{nat_cmp}
use Rattle.std.specs.Map.{lookup}
use Rattle.std.specs.FinMap as fin
use Rattle.ev_links.specs.Ties.{Ties, IsWay, walk}
use Rattle.ev_links.proofs.Fits.{way_within}
use Rattle.ev_links.proofs.Views.{same_test}
use Rattle.ev_links.proofs.Ways.{walk-IsWay}

find_lookup : {X : Type 0} (entries : List (ℕ × X)) (id : ℕ) → fin.find nat_cmp id entries ≡ lookup (nat_eq id) entries
find_lookup [] id = refl
find_lookup {X} (one ∷ rest) id =
    rw (same_test id one.0) (elim (id == one.0) as (λ b. cond b (Some one.1) (fin.find nat_cmp id rest) ≡ cond b (Some one.1) (lookup (nat_eq id) rest)) [
      | true ↦ refl
      | false ↦ find_lookup rest id
    ])

get_lookup : (ties : Ties) (id : ℕ) → fin.get ties id ≡ lookup (nat_eq id) (fin.entries ties)
get_lookup ties id = fin.get-entries ties id ∙ find_lookup (fin.entries ties) id

-- such a walk, or a longer one, is the object and its whole way
pub walk_whole : (ties : Ties) (next : ℕ → Option ℕ) (id : ℕ) (way : List ℕ) (steps : ℕ) → fin.len ties ≤ steps → is_some (fin.get ties id) ≡ true → ((q to : ℕ) → next q ≡ Some to → is_some (fin.get ties to) ≡ true) → IsWay next id way → walk next steps (Some id) ≡ id ∷ way
walk_whole ties next id way steps enough there known p =
    let few : length way < fin.len ties = subst (λ n. length way < n) (sym (fin.len-entries ties)) within in
    walk-IsWay next id way steps p (omega (arith, few, enough))
  where
    within : length way < length (fin.entries ties)
    within = way_within (fin.entries ties) next id way (sym (ap is_some (get_lookup ties id)) ∙ there) (λ q to e. sym (ap is_some (get_lookup ties to)) ∙ known q to e) p
