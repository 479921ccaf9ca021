use Rattle.std.proofs.Common.{◌≡◌, ◌++◌, drop, map}
use Rattle.ev_model.specs.Look.{look_of}
use Rattle.ev_damage.specs.Step.{changes}
use Rattle.ev_damage.proofs.in_step.changed_areas.Given as goal

abbrev pub invariant-loop-i : goal.invariant-loop-i
invariant-loop-i l = l.areas.items ++ changes (map look_of (drop l.i l.old)) (map look_of (drop l.i l.new)) ≡ changes (map look_of l.old) (map look_of l.new)
