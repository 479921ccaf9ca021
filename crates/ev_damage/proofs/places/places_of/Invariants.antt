use Rattle.std.proofs.Common.{◌≡◌, take, map}
use Rattle.ev_model.specs.Look.{look_of}
use Rattle.ev_damage.specs.Places.{place_of}
use Rattle.ev_damage.proofs.places.places_of.Given as goal

abbrev pub invariant-loop-one : goal.invariant-loop-one
invariant-loop-one l = l.places.items ≡ map (place_of (map look_of l.others)) (map look_of (take l.one-index l.records))
