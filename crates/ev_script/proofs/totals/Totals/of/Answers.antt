use Rattle.std.proofs.Common.{◌≡◌, ◌+◌, fold, length, ap, ◌∙◌, arith}
use Rattle.std.specs.List.{flat_map, range_with_len}
use Rattle.std.proofs.lemmas.List.FromFn.{length-map-range_with_len}
use Rattle.ev_argb.specs.Grid.{pixel_at}
use Rattle.ev_script.specs.Dumps.{unhidden, place_row}
use Rattle.ev_script.specs.PixelTotals.{Counts, with_place, none, told}
use Rattle.ev_script.proofs.Counting.{counts, counted_row, tells_all}
use Rattle.ev_script.proofs.totals.Totals.of.Goals as goal

pub loop-y-preserved : goal.loop-y-preserved
loop-y-preserved c =
    let grid = c.args.picture.now in
    let hidden = c.args.hidden.now in
    let y = c.loop-y.y in
    let wide : length (place_row hidden grid y) ≡ grid.w = length-map-range_with_len (λ x. unhidden hidden x y (pixel_at grid x y)) 0 grid.w in
    let added = c.add_row.ensures ∙ ap (fold with_place c.loop-y.totals) c.show_row.ensures in
    let more : c.add_row.new.self.count ≡ c.loop-y.totals.count + length (place_row hidden grid y) = ap (λ (t : Counts). t.count) added ∙ counts c.loop-y.totals (place_row hidden grid y) in
    record {
      counted = added ∙ ap (λ t. fold with_place t (place_row hidden grid y)) c.loop-y.invariant.counted ∙ counted_row (place_row hidden grid) y;
      count = omega (arith, more, wide, c.loop-y.invariant.count);
    }

pub returns : goal.returns
returns c =
    let grid = c.args.picture.now in
    let hidden = c.args.hidden.now in
    let end : c.loop-y.y ≡ grid.h = omega (arith, c.height-y-end.ensures.height, c.loop-y-test.false, c.loop-y.auto.y-end) in
    ap told c.loop-y.invariant.counted
    ∙ ap (λ n. told (fold with_place none (flat_map (place_row hidden grid) (range_with_len 0 n)))) end
    ∙ tells_all (flat_map (place_row hidden grid) (range_with_len 0 grid.h))
