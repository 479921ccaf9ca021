use Rattle.std.proofs.Common.{◌≡◌, map, take}
use Rattle.ev_canvas.proofs.begun.references.Given as goal

abbrev pub invariant-loop-record : goal.invariant-loop-record
invariant-loop-record l = map (λ r. r.now) l.all.items ≡ take l.record-index l.records
