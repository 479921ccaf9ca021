use Rattle.std.proofs.Common.{◌≡◌, ℕ, Bool, true, false, Option, Some, None, cond, refl, sym, ◌∙◌, ap}
use Rattle.std.specs.Option.{option_and_then}
use Rattle.std.specs.Ordering.{nat_cmp, eq_by_cmp}
use Rattle.std.specs.Cmp.{nat_cmp_total}
use Rattle.std.specs.FinMap.{get, get-empty, get-insert, insert, empty}
use Rattle.std.proofs.lemmas.Option.{none-some}
use Rattle.ev_model.specs.declared.content.Kind.TheVariants.{Smart}
use Rattle.ev_links.specs.Ties.{Tie, Ties, alone}
use Rattle.ev_links.proofs.tests.removal_of_many.Goals as goal

pub add-requires : goal.add-requires
add-requires g c = rw c.new-links.ensures (get-empty nat_cmp 1)

-- one object alone has neither parent nor clipper
no_part : (part : Tie → Option ℕ) → part (alone Smart) ≡ None → (ties before : Ties) → ties ≡ insert before 1 (alone Smart) → before ≡ empty → (q p : ℕ) → option_and_then part (get ties q) ≡ Some p → ⊥
no_part part free ties before is none q p e =
    go (eq_by_cmp nat_cmp q 1)
    (sym (ap (λ (m : Ties). option_and_then part (get m q)) (is ∙ ap (λ (m : Ties). insert m 1 (alone Smart)) none)
    ∙ ap (option_and_then part) (get-insert nat_cmp_total empty 1 (alone Smart) q ∙ ap (cond (eq_by_cmp nat_cmp q 1) (Some (alone Smart))) (get-empty nat_cmp q))) ∙ e)
  where
    go : (b : Bool) → option_and_then part (cond b (Some (alone Smart)) None) ≡ Some p → ⊥
    go true e = none-some p (sym free ∙ e)
    go false e = none-some p e

pub drop_all-requires-clause-members : goal.drop_all-requires-clause-members
drop_all-requires-clause-members g c = λ q p e goes. absurd (no_part (λ tie. tie.parent) refl c.add.new.self c.new-links.result c.in_ok-add.ensures.ok c.new-links.ensures q p e)

pub drop_all-requires-clause-clipped : goal.drop_all-requires-clause-clipped
drop_all-requires-clause-clipped g c = λ q p e goes. absurd (no_part (λ tie. tie.clipper) refl c.add.new.self c.new-links.result c.in_ok-add.ensures.ok c.new-links.ensures q p e)
