use Rattle.std.proofs.Common.{◌/◌, ◌<◌, ◌∙◌, sym, refl, length, arith}
use Rattle.std.proofs.lemmas.Bool.{and_parts}
use Rattle.ev_image.proofs.Four.{one_more, none_bad, rest_short, finished}
use Rattle.ev_image.proofs.pixels.fill.Goals as goal

pub loop-i-init : goal.loop-i-init
loop-i-init c = λ good. record { good = refl; value = refl }

pub loop-i-preserved : goal.loop-i-preserved
loop-i-preserved c = λ good.
    let both = and_parts c.loop-i.good c.is_some-good.result good in
    let within : c.loop-i.i < length c.args.bytes.now / 4 = omega (arith, c.requires) in
    rw c.unwrap_or.ensures (one_more c.loop-i.into c.args.bytes.now c.loop-i.i c.pixel-found.result (omega arith) within c.pixel-found.ensures (sym c.is_some-good.ensures ∙ both.1) (c.loop-i.invariant both.0))

pub returns-clause-good : goal.returns-clause-good
returns-clause-good c = λ good. (c.loop-i.invariant good).good ∙ none_bad _ _ (rest_short c.args.bytes.now c.loop-i.i (omega (arith, c.requires)))

pub returns-clause-value : goal.returns-clause-value
returns-clause-value c = λ good. finished c.loop-i.into c.args.bytes.now c.loop-i.i (omega arith) (omega (arith, c.requires)) (c.loop-i.invariant good).value
