use Rattle.std.proofs.Common.{◌<◌, ◌≤◌, ◌-◌, ◌⊎◌, ℕ}
use Rattle.ev_looks.specs.Refreshes.{IsStill, IsShallow}
use Rattle.ev_looks.proofs.walk.Ground.reaches.Given as goal

-- of the places so far, none that changed is deep
abbrev pub invariant-loop-place : goal.invariant-loop-place
invariant-loop-place l = record {
  low : l.from ≤ l.fn.len;
  done : (place : ℕ) → place < l.from → IsStill l.self.objects.now place ⊎ IsShallow l.self.objects.now place;
}

abbrev pub decreases-loop-place : goal.decreases-loop-place
decreases-loop-place l = l.fn.len - l.from
