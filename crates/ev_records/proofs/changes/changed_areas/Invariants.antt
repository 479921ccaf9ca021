use Rattle.std.proofs.Common.{◌≡◌, ◌++◌, drop}
use Rattle.ev_records.specs.Cells.{shown, places_of}
use Rattle.ev_records.specs.Changes.{changes}
use Rattle.ev_records.proofs.changes.changed_areas.Given as goal

abbrev pub invariant-loop-i : goal.invariant-loop-i
invariant-loop-i l = l.areas.items ++ changes (shown l.formers l.cells) (places_of (drop l.i l.formers)) ≡ changes (shown l.formers l.cells) (places_of l.formers)
