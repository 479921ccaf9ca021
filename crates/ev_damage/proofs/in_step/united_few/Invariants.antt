use Rattle.std.proofs.Common.{take}
use Rattle.ev_geom.specs.Bands.{has_pixel, IsBandsOf}
use Rattle.ev_damage.proofs.in_step.united_few.Given as goal

abbrev pub invariant-loop-area : goal.invariant-loop-area
invariant-loop-area l = IsBandsOf (has_pixel (take l.area-index l.areas)) l.region
