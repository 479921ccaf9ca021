use Rattle.std.proofs.Common.{◌≡◌, take, map, List}
use Rattle.ev_model.specs.Look.{Look, look_of}
use Rattle.ev_damage.specs.Damage.{in_unkept}
use Rattle.ev_damage.specs.Places.{place_of, Adds}
use Rattle.ev_damage.proofs.unkept.add_unkept.Given as goal

abbrev pub invariant-loop-i : goal.invariant-loop-i
invariant-loop-i l = (others : List Look) → l.places ≡ map (place_of others) (map look_of l.records) → Adds (in_unkept others (map look_of (take l.i l.records))) l.initial.region l.region
