use Rattle.std.proofs.Common.{◌≡◌, ◌+◌, fold, take}
use Rattle.ev_script.specs.PixelTotals.{with_place}
use Rattle.ev_script.proofs.totals.Totals.add_row.Given as goal

abbrev pub invariant-loop-pixel : goal.invariant-loop-pixel
invariant-loop-pixel l = record {
  counted : l.self ≡ fold with_place l.initial.self (take l.pixel-index l.places);
  count : l.self.count ≡ l.initial.self.count + l.pixel-index;
}
