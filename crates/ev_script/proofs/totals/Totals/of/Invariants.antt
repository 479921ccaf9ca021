use Rattle.std.proofs.Common.{◌≡◌, ◌*◌, fold}
use Rattle.std.specs.List.{flat_map, range_with_len}
use Rattle.ev_script.specs.Dumps.{place_row}
use Rattle.ev_script.specs.PixelTotals.{none, with_place}
use Rattle.ev_script.proofs.totals.Totals.of.Given as goal

abbrev pub invariant-loop-y : goal.invariant-loop-y
invariant-loop-y l = record {
  counted : l.totals ≡ fold with_place none (flat_map (place_row l.hidden l.picture) (range_with_len 0 l.y));
  count : l.totals.count ≡ l.y * l.picture.w;
}
