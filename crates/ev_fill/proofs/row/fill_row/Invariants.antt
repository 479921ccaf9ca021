use Rattle.std.proofs.Common.{◌≡◌, ◌+◌, ◌-◌, ◌%◌, ◌≤◌, ◌<◌, map, take, length}
use Rattle.std.specs.List.{range_with_len}
use Rattle.ev_fill.specs.Parts.{place_sample}
use Rattle.ev_fill.proofs.row.fill_row.Given as goal

abbrev pub invariant-loop-done : goal.invariant-loop-done
invariant-loop-done g l = record {
  so_far : take l.done l.into ≡ map (λ u. g.T.Form.form (place_sample l.row l.columns l.hidden (u % l.columns.len))) (range_with_len l.phase l.done);
  ahead : (l.phase + l.done) % l.columns.len ≡ l.u;
  place : l.u < l.columns.len;
  within : l.done ≤ length l.into;
}

abbrev pub decreases-loop-done : goal.decreases-loop-done
decreases-loop-done g l = length l.initial.into - l.done
