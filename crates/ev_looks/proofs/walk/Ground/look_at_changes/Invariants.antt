use Rattle.std.proofs.Common.{◌<◌, ◌≤◌, ◌-◌, ◌⊎◌, ℕ}
use Rattle.ev_looks.specs.Refreshes.{IsStill, IsLookedAt, LooksAt}
use Rattle.ev_looks.proofs.walk.Ground.look_at_changes.Given as goal

-- of the places so far, those that changed were looked at
abbrev pub invariant-loop-place : goal.invariant-loop-place
invariant-loop-place l = record {
  low : l.from ≤ l.len;
  looks : LooksAt l.self l.fn.records l.records;
  done : (place : ℕ) → place < l.from → IsStill l.self.objects.now place ⊎ IsLookedAt l.self l.records place;
}

abbrev pub decreases-loop-place : goal.decreases-loop-place
decreases-loop-place l = l.len - l.from
