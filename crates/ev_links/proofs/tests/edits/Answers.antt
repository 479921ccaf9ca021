use Rattle.std.proofs.Common.{◌≡◌, ℕ, false, None, refl, ap, ◌∙◌}
use Rattle.std.specs.Ordering.{nat_cmp, eq_by_cmp}
use Rattle.std.specs.Cmp.{nat_cmp_total}
use Rattle.std.specs.FinMap.{get, get-empty, get-insert, insert, empty}
use Rattle.ev_model.specs.declared.content.Kind.{Kind}
use Rattle.ev_links.specs.Ties.{Ties, alone}
use Rattle.ev_links.proofs.tests.edits.Goals as goal

-- an id that isn't there still isn't after another was added
still : (ties before : Ties) (kind : Kind) (id q : ℕ) → ties ≡ insert before id (alone kind) → eq_by_cmp nat_cmp q id ≡ false → get before q ≡ None → get ties q ≡ None
still ties before kind id q is differ none = ap (λ (m : Ties). get m q) is ∙ get-insert nat_cmp_total before id (alone kind) q ∙ rw differ none

-- nor before any was
none_yet : (ties : Ties) (q : ℕ) → ties ≡ empty → get ties q ≡ None
none_yet ties q is = ap (λ (m : Ties). get m q) is ∙ get-empty nat_cmp q

pub add-requires : goal.add-requires
add-requires g c = none_yet _ 1 c.new-links.ensures

pub add-requires-2 : goal.add-requires-2
add-requires-2 g c = still _ _ _ 1 2 c.in_ok-add.ensures.ok refl (none_yet _ 2 c.new-links.ensures)

pub add-requires-3 : goal.add-requires-3
add-requires-3 g c = still _ _ _ 2 3 c.in_ok-add-2.ensures.ok refl (still _ _ _ 1 3 c.in_ok-add.ensures.ok refl (none_yet _ 3 c.new-links.ensures))

pub add-requires-4 : goal.add-requires-4
add-requires-4 g c = still _ _ _ 3 4 c.in_ok-add-3.ensures.ok refl (still _ _ _ 2 4 c.in_ok-add-2.ensures.ok refl (still _ _ _ 1 4 c.in_ok-add.ensures.ok refl (none_yet _ 4 c.new-links.ensures)))

pub add-requires-5 : goal.add-requires-5
add-requires-5 g c =
    still _ _ _ 4 5 c.in_ok-add-4.ensures.ok refl (still _ _ _ 3 5 c.in_ok-add-3.ensures.ok refl (still _ _ _ 2 5 c.in_ok-add-2.ensures.ok refl (still _ _ _ 1 5 c.in_ok-add.ensures.ok refl (none_yet _ 5 c.new-links.ensures))))
