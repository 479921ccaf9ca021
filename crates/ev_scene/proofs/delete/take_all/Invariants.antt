use Rattle.std.proofs.Common.{◌≡◌, ℕ, None, if◌then◌else◌, length, drop}
use Rattle.ev_links.specs.Ties.{has}
use Rattle.ev_scene.specs.Ids.{of_id}
use Rattle.ev_scene.proofs.delete.take_all.Given as goal

-- once those that are left are gone, all are
abbrev pub invariant-ids : goal.invariant-ids
invariant-ids l = record {
  gone : (q : ℕ) → (if has (drop l.id-index l.ids) q then None else of_id l.roll.states q) ≡ (if has l.ids q then None else of_id l.initial.roll.states q);
  size : length l.roll.states ≡ length l.initial.roll.states;
  made : l.roll.made ≡ l.initial.roll.made;
}
