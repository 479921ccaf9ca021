use Rattle.std.proofs.Common.{◌≤◌}
use Rattle.ev_argb.proofs.Channels.{mul_below, joined_premultiplied}
use Rattle.ev_argb.proofs.pixel.tint.Goals as goal

pub invariant_of-result : goal.invariant_of-result
invariant_of-result c =
    let r : c.product-r.result ≤ c.product-a.result = rw (c.product-r.ensures.value, c.product-a.ensures.value) (mul_below _ _ _ _ c.p.invariant.red c.c.invariant.red) in
    let g : c.product-g.result ≤ c.product-a.result = rw (c.product-g.ensures.value, c.product-a.ensures.value) (mul_below _ _ _ _ c.p.invariant.green c.c.invariant.green) in
    let b : c.product-b.result ≤ c.product-a.result = rw (c.product-b.ensures.value, c.product-a.ensures.value) (mul_below _ _ _ _ c.p.invariant.blue c.c.invariant.blue) in
    joined_premultiplied _ _ _ _ c.product-a.ensures.byte r g b
