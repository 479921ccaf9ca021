use Rattle.std.proofs.Common.{◌≡◌, ◌<◌, ◌∙◌, length, rules}
use Rattle.std.specs.Int.{w32}
use Rattle.std.specs.Int.RustNames.{FitsSigned}
use Rattle.std.proofs.lemmas.Int.{to_z-of_z}
use Rattle.ev_stack.proofs.Fronts.{without_top-at_end, without_top-kept, without_top-replaced, without_top-removed}
use Rattle.ev_stack.proofs.layers.Layers.leave.Goals as goal

pub returns-then-at-len-clause-tops : goal.returns-then-at-len-clause-tops
returns-then-at-len-clause-tops c =
    let fits : FitsSigned w32 c.args.layer = search rules in
    let all : c.below_len-at.result ≡ length c.args.self.now.tops.items = search rules in
    without_top-at_end c.args.self.now.tops.items c.args.id c.args.layer c.args.instead c.below_len-at.result (simp to_z-of_z at c.below_len-at.ensures.len) all

pub returns-then-top-id-clause-tops : goal.returns-then-top-id-clause-tops
returns-then-top-id-clause-tops c =
    let fits : FitsSigned w32 c.args.layer = search rules in
    let inside : c.below_len-at.result < length c.args.self.now.tops.items = search rules in
    without_top-kept c.args.self.now.tops.items c.args.id c.args.layer c.args.instead c.below_len-at.result c.index.result.now (simp to_z-of_z at c.below_len-at.ensures.len) inside c.index.ensures c.if-top-id.true

pub returns-in-Some-clause-tops : goal.returns-in-Some-clause-tops
returns-in-Some-clause-tops c =
    let fits : FitsSigned w32 c.args.layer = search rules in
    let inside : c.below_len-at.result < length c.args.self.now.tops.items = search rules in
    simp to_z-of_z (rw c.in-Some.is (without_top-replaced c.args.self.now.tops.items c.args.id c.args.layer c.in-Some.below c.below_len-at.result c.index.result.now (simp to_z-of_z at c.below_len-at.ensures.len) inside c.index.ensures c.if-top-id.false))

pub returns-in-None-clause-tops : goal.returns-in-None-clause-tops
returns-in-None-clause-tops c =
    let fits : FitsSigned w32 c.args.layer = search rules in
    let inside : c.below_len-at.result < length c.args.self.now.tops.items = search rules in
    c.remove.ensures.items ∙ rw c.in-None.is (without_top-removed c.args.self.now.tops.items c.args.id c.args.layer c.below_len-at.result c.index.result.now (simp to_z-of_z at c.below_len-at.ensures.len) inside c.index.ensures c.if-top-id.false)
