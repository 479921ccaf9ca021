use Rattle.std.proofs.Common.{◌≡◌, drop}
use Rattle.ev_scene.specs.Edits.{emptied}
use Rattle.ev_scene.proofs.delete.clear_all.Given as goal

-- once those that are left are empty, all are
abbrev pub invariant-ids : goal.invariant-ids
invariant-ids l = emptied (drop l.id-index l.ids) l.groups ≡ emptied l.ids l.initial.groups
