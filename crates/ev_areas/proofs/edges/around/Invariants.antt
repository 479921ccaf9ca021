use Rattle.std.proofs.Common.{◌≤◌, take}
use Rattle.ev_areas.proofs.Edging.{AreAround}
use Rattle.ev_areas.proofs.edges.around.Given as goal

abbrev pub invariant-loop-rect : goal.invariant-loop-rect
invariant-loop-rect l = (l.bounds.right ≤ l.w) × (l.bounds.bottom ≤ l.h) × AreAround (take l.rect-index l.rects) l.w l.h l.bounds
