use Rattle.std.proofs.Common.{◌≡◌, ℕ, if◌then◌else◌, None, drop}
use Rattle.std.specs.Option.{option_map}
use Rattle.ev_links.specs.Ties.{has}
use Rattle.ev_links.specs.Tables.{tie_in, with_clipper}
use Rattle.ev_links.specs.KeptTable.{IsKept}
use Rattle.ev_links.proofs.edits.unbind_all.Given as goal

-- once those that are left have lost their clipper, all have
abbrev pub invariant-ids : goal.invariant-ids
invariant-ids l =
    IsKept l.table
    × ((q : ℕ) → (if has (drop l.id-index l.ids) q then option_map (with_clipper None) (tie_in l.table q) else tie_in l.table q)
    ≡ (if has l.ids q then option_map (with_clipper None) (tie_in l.initial.table q) else tie_in l.initial.table q))
