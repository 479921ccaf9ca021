use Rattle.std.proofs.Common.{◌∙◌, map, ap, sym}
use Rattle.ev_argb.specs.Argb.{Argb, tint}
use Rattle.ev_draw.proofs.Patching.{white_stays}
use Rattle.ev_draw.proofs.span.tint_row.Goals as goal

pub returns-then-is_white : goal.returns-then-is_white
returns-then-is_white c =
    let row = c.args.row.now in
    sym (ap (λ (q : Argb). map (λ (p : Argb). tint p q) row) (c.is_white.ensures c.if-is_white.true) ∙ white_stays row c.are_opaque.ensures.premultiplied)
