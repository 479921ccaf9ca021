use Rattle.std.proofs.Common.{◌≡◌, take, map}
use Rattle.ev_model.specs.Look.{look_of}
use Rattle.ev_damage.specs.Places.{look_ids}
use Rattle.ev_damage.proofs.in_step.have_same_ids.Given as goal

abbrev pub invariant-loop-i : goal.invariant-loop-i
invariant-loop-i l = look_ids (map look_of (take l.i l.old)) ≡ look_ids (map look_of (take l.i l.new))
