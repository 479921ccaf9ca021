use Rattle.std.proofs.Common.{◌+◌, ◌*◌, ◌≤◌, get_or, sym, ◌∙◌, arith}
use Rattle.ev_image.proofs.Four.{none_bad, rest_short, goes_on, found, is_pixel_from, no_pixel_from}
use Rattle.ev_image.proofs.pixels.bad_pixel.Goals as goal
use Rattle.ev_image.proofs.pixels.bad_pixel.Goals.{then-bytes-i-via-then-bytes-i, then-bytes-i-via-else-bytes-i+then-bytes-i-2, then-bytes-i-via-else-bytes-i+else-bytes-i-2+then-bytes-i-3}

pub returns-then-bytes-i : goal.returns-then-bytes-i
returns-then-bytes-i c =
    let bytes = c.args.bytes.now in
    let i = c.loop-i.i in
    let alpha = get_or bytes (4 * i) 0 in
    let red = get_or bytes (4 * i + 1) 0 in
    let green = get_or bytes (4 * i + 2) 0 in
    let blue = get_or bytes (4 * i + 3) 0 in
    let refuted : red ≤ alpha → green ≤ alpha → blue ≤ alpha → ⊥ = λ r g b. elim c.then-bytes-i.branch [
      | then-bytes-i-via-then-bytes-i w ↦ omega arith
      | then-bytes-i-via-else-bytes-i+then-bytes-i-2 w ↦ omega arith
      | then-bytes-i-via-else-bytes-i+else-bytes-i-2+then-bytes-i-3 w ↦ omega arith
    ] in
    sym (c.loop-i.invariant ∙ found c.args.at i bytes c.loop-i-test.true (no_pixel_from alpha red green blue refuted))

pub loop-i-preserved : goal.loop-i-preserved
loop-i-preserved c =
    c.loop-i.invariant ∙ goes_on c.args.at c.loop-i.i c.args.bytes.now c.loop-i-test.true (is_pixel_from _ _ _ _ c.if-bytes-i.false c.if-bytes-i-2.false c.if-bytes-i-3.false)

pub returns : goal.returns
returns c = sym (c.loop-i.invariant ∙ none_bad _ _ (rest_short c.args.bytes.now c.loop-i.i c.loop-i-test.false))
