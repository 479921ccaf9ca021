use Rattle.std.proofs.Common.{◌≡◌, ℕ, if◌then◌else◌, None, drop}
use Rattle.ev_links.specs.Ties.{has}
use Rattle.ev_links.specs.Tables.{tie_in, clips_in}
use Rattle.ev_links.proofs.edits.remove_all.Given as goal

-- once those that are left are gone, all are
abbrev pub invariant-ids : goal.invariant-ids
invariant-ids l =
    ((q : ℕ) → (if has (drop l.id-index l.ids) q then None else tie_in l.table q) ≡ (if has l.ids q then None else tie_in l.initial.table q))
    × ((q : ℕ) → (if has (drop l.id-index l.ids) q then None else clips_in l.table q) ≡ (if has l.ids q then None else clips_in l.initial.table q))
