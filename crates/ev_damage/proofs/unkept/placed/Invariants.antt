use Rattle.std.proofs.Common.{◌≡◌, take, map, filter_map, List}
use Rattle.ev_model.specs.Look.{Look, look_of}
use Rattle.ev_damage.specs.Places.{place_of, placed}
use Rattle.ev_damage.proofs.unkept.placed.Given as goal

abbrev pub invariant-loop-i : goal.invariant-loop-i
invariant-loop-i l = (others : List Look) → l.places ≡ map (place_of others) (map look_of l.records) → l.placed.items ≡ filter_map (placed others) (map look_of (take l.i l.records))
