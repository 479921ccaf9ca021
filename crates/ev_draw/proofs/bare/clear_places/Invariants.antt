use Rattle.ev_draw.specs.Making.{Paints, above, whole, cleared_at, rows_count}
use Rattle.ev_draw.proofs.bare.clear_places.Given as goal

abbrev pub invariant-loop-y : goal.invariant-loop-y
invariant-loop-y l = Paints (above whole l.y) (cleared_at l.bare) (rows_count l.bare l.y) l.initial.plane l.plane
