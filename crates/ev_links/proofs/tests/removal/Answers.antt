use Rattle.std.proofs.Common.{◌≡◌, ◌≢◌, ℕ, Bool, true, false, Some, None, cond, sym, subst, ◌∙◌, ap}
use Rattle.std.specs.Option.{option_and_then}
use Rattle.std.specs.Ordering.{nat_cmp, eq_by_cmp}
use Rattle.std.specs.Cmp.{nat_cmp_total}
use Rattle.std.specs.FinMap.{get, get-empty, get-insert, insert, empty}
use Rattle.std.proofs.lemmas.Option.{none-some}
use Rattle.ev_model.specs.declared.content.Kind.TheVariants.{Rect}
use Rattle.ev_links.specs.Ties.{Tie, Ties, alone, parent_at}
use Rattle.ev_links.proofs.tests.removal.Goals as goal

pub add-requires : goal.add-requires
add-requires g c = rw c.new-links.ensures (get-empty nat_cmp 1)

-- one object alone has no parent
no_parent : (ties before : Ties) → ties ≡ insert before 1 (alone Rect) → before ≡ empty → (other : ℕ) → parent_at (get ties) other ≢ Some 1
no_parent ties before is none other e =
    go (eq_by_cmp nat_cmp other 1) (sym (ap (λ (m : Ties). parent_at (get m) other) (is ∙ ap (λ (m : Ties). insert m 1 (alone Rect)) none) ∙ ap (option_and_then (λ (tie : Tie). tie.parent)) (get-insert nat_cmp_total empty 1 (alone Rect) other ∙ ap (cond (eq_by_cmp nat_cmp other 1) (Some (alone Rect))) (get-empty nat_cmp other))) ∙ e)
  where
    go : (b : Bool) → option_and_then (λ (tie : Tie). tie.parent) (cond b (Some (alone Rect)) None) ≡ Some 1 → ⊥
    go true e = none-some 1 e
    go false e = none-some 1 e

pub drop_id-requires : goal.drop_id-requires
drop_id-requires g c = no_parent c.add.new.self c.new-links.result c.in_ok-add.ensures.ok c.new-links.ensures
