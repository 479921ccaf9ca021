use Rattle.std.proofs.Common.{◌≡◌, ◌<◌, ◌∙◌, length, ap, of_z, to_z, rules}
use Rattle.std.specs.Int.{w32}
use Rattle.std.specs.Int.RustNames.{FitsSigned}
use Rattle.std.proofs.lemmas.Int.{to_z-of_z}
use Rattle.ev_stack.proofs.Fronts.{with_top-at_end, with_top-new, with_top-kept, with_top-replaced}
use Rattle.ev_stack.proofs.layers.Layers.enter.Goals as goal

pub returns-then-at-len-clause-tops : goal.returns-then-at-len-clause-tops
returns-then-at-len-clause-tops c =
    let fits : FitsSigned w32 c.args.layer = search rules in
    let all : c.below_len-at.result ≡ length c.args.self.now.tops.items = search rules in
    (simp to_z-of_z at c.insert.ensures.tops)
    ∙ with_top-at_end c.args.self.now.tops.items c.args.id c.args.layer c.args.place c.below_len-at.result (simp to_z-of_z at c.below_len-at.ensures.len) all

pub returns-then-own-layer-clause-tops : goal.returns-then-own-layer-clause-tops
returns-then-own-layer-clause-tops c =
    let fits : FitsSigned w32 c.args.layer = search rules in
    let inside : c.below_len-at.result < length c.args.self.now.tops.items = search rules in
    (simp to_z-of_z at c.insert-then-own-layer.ensures.tops)
    ∙ with_top-new c.args.self.now.tops.items c.args.id c.args.layer c.args.place c.below_len-at.result c.index.result.now (simp to_z-of_z at c.below_len-at.ensures.len) inside c.index.ensures (λ e. c.if-own-layer.true (ap (of_z w32) e))

pub returns-then-top-place-clause-tops : goal.returns-then-top-place-clause-tops
returns-then-top-place-clause-tops c =
    let fits : FitsSigned w32 c.args.layer = search rules in
    let own_fits : FitsSigned w32 c.index.result.now.1 = search rules in
    let same : c.index.result.now.1 ≡ c.args.layer = simp to_z-of_z at (ap (to_z w32) c.if-own-layer.false) in
    let inside : c.below_len-at.result < length c.args.self.now.tops.items = search rules in
    simp to_z-of_z (with_top-replaced c.args.self.now.tops.items c.args.id c.args.layer c.args.place c.below_len-at.result c.index.result.now (simp to_z-of_z at c.below_len-at.ensures.len) inside c.index.ensures same c.if-top-place.true)

pub returns-else-top-place-clause-tops : goal.returns-else-top-place-clause-tops
returns-else-top-place-clause-tops c =
    let fits : FitsSigned w32 c.args.layer = search rules in
    let own_fits : FitsSigned w32 c.index.result.now.1 = search rules in
    let same : c.index.result.now.1 ≡ c.args.layer = simp to_z-of_z at (ap (to_z w32) c.if-own-layer.false) in
    let inside : c.below_len-at.result < length c.args.self.now.tops.items = search rules in
    with_top-kept c.args.self.now.tops.items c.args.id c.args.layer c.args.place c.below_len-at.result c.index.result.now (simp to_z-of_z at c.below_len-at.ensures.len) inside c.index.ensures same c.if-top-place.false
