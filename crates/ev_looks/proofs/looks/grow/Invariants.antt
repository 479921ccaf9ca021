use Rattle.std.proofs.Common.{◌≡◌, ◌≤◌, ◌-◌, ℕ, length}
use Rattle.ev_records.specs.Showing.{showing}
use Rattle.ev_looks.proofs.looks.grow.Given as goal

-- the places of before show what they showed
abbrev pub invariant-loop-records : goal.invariant-loop-records
invariant-loop-records l = record {
  same : (place : ℕ) → showing l.records place ≡ showing l.fn.records place;
  grown : length l.fn.records ≤ length l.records;
}

abbrev pub decreases-loop-records : goal.decreases-loop-records
decreases-loop-records l = l.places - length l.records
