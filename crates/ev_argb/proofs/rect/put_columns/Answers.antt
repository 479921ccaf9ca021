use Rattle.std.proofs.Common.{◌+◌, ◌-◌, ◌*◌, ◌≡◌, ◌≤◌, length, drop, arith, slice_range}
use Rattle.std.proofs.lemmas.Grind.{common_steps}
use Rattle.std.proofs.lemmas.List.{length-map, length-take, length-drop}
use Rattle.std.proofs.Math.Nat.{mul-le-mul_right}
use Rattle.ev_argb.specs.Tile.{made}
use Rattle.ev_argb.proofs.Rects.{more_row}
use Rattle.ev_argb.proofs.rect.put_columns.Goals as goal

pub loop-j-preserved : goal.loop-j-preserved
loop-j-preserved c =
    let a = c.args.across in
    let j = c.loop-j.j in
    let at = j * a + c.args.x in
    let next : j + 1 ≤ c.args.y + c.args.h = omega arith in
    let below = mul-le-mul_right a next in
    let size = c.loop-j.invariant.size in
    let fits : (j + 1) * a ≤ length c.loop-j.to = omega (arith, size) in
    let there = slice_range c.loop-j.to at (at + c.args.w) in
    let short = length-take (at + c.args.w - at) (drop at c.loop-j.to) in
    let rest = length-drop at c.loop-j.to in
    let n : length there ≡ c.args.w = omega (arith, short, rest) in
    let m = length-map there (made c.args.way c.args.pixel) in
    more_row a c.args.x c.args.y c.args.w (j - c.args.y) j (j + 1 - c.args.y) (made c.args.way c.args.pixel) c.args.to.now c.loop-j.to _ (omega arith) (omega arith) c.requires.columns fits
    c.loop-j.invariant (grind (arith, common_steps, n, m))
