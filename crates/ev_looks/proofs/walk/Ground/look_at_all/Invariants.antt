use Rattle.std.proofs.Common.{◌<◌, ℕ}
use Rattle.ev_looks.specs.Refreshes.{IsRight, LooksAt}
use Rattle.ev_looks.proofs.walk.Ground.look_at_all.Given as goal

-- the places so far show what is seen
abbrev pub invariant-loop-place : goal.invariant-loop-place
invariant-loop-place l = record {
  looks : LooksAt l.self l.fn.records l.records;
  done : (place : ℕ) → place < l.place → IsRight l.self l.records place;
}
