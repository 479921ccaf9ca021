use Rattle.std.proofs.Common.{arith, rules, ◌+ℤ◌, ◌∙◌, ◌-ℤ◌, ap₂}
use Rattle.std.proofs.lemmas.Int.{ints, clamps, to_z-of_z}
use mir.Val.{SFits, to_z, of_z}
use mir.Syntax.{w32}
use Rattle.ev_geom.proofs.Meeting.{common_of, none_common, length_fits}
use Rattle.ev_geom.proofs.stretch.common.Goals as goal

pub overflow_sub-result : goal.overflow_sub-result
overflow_sub-result c =
    let a = c.requires.first in
    let b = c.requires.second in
    omega (arith, ints, clamps, c.later-from.ensures, c.sooner-to.ensures, a.place.low, a.place.high, a.side.low, a.side.high, b.place.low, b.place.high, b.side.low, b.side.high)

pub returns-then-from-to : goal.returns-then-from-to
returns-then-from-to c =
    let a = c.requires.first in
    let b = c.requires.second in
    let a_fits : SFits w32 c.args.a = search rules in
    let a_len_fits : SFits w32 c.args.a_len = search rules in
    let b_fits : SFits w32 c.args.b = search rules in
    let b_len_fits : SFits w32 c.args.b_len = search rules in
    let a_end : SFits w32 (c.args.a +ℤ c.args.a_len) = omega (arith, ints, a.place.low, a.place.high, a.side.low, a.side.high) in
    let b_end : SFits w32 (c.args.b +ℤ c.args.b_len) = omega (arith, ints, b.place.low, b.place.high, b.side.low, b.side.high) in
    let from_fits : SFits w32 c.later-from.result = search rules in
    let to_fits : SFits w32 c.sooner-to.result = search rules in
    let f = simp to_z-of_z at c.later-from.ensures in
    let t = simp to_z-of_z at c.sooner-to.ensures in
    let h = simp to_z-of_z at c.if-from-to.true in
    ap₂ (λ t f. to_z w32 (of_z w32 (t -ℤ f))) (to_z-of_z w32 _ to_fits) (to_z-of_z w32 _ from_fits)
    ∙ to_z-of_z w32 _ (length_fits c.args.a c.args.a_len c.args.b c.args.b_len _ _ a b f t h) ∙ common_of c.args.a c.args.a_len c.args.b c.args.b_len _ _ f t h

pub returns-else-from-to : goal.returns-else-from-to
returns-else-from-to c =
    let a = c.requires.first in
    let b = c.requires.second in
    let a_fits : SFits w32 c.args.a = search rules in
    let a_len_fits : SFits w32 c.args.a_len = search rules in
    let b_fits : SFits w32 c.args.b = search rules in
    let b_len_fits : SFits w32 c.args.b_len = search rules in
    let a_end : SFits w32 (c.args.a +ℤ c.args.a_len) = omega (arith, ints, a.place.low, a.place.high, a.side.low, a.side.high) in
    let b_end : SFits w32 (c.args.b +ℤ c.args.b_len) = omega (arith, ints, b.place.low, b.place.high, b.side.low, b.side.high) in
    let from_fits : SFits w32 c.later-from.result = search rules in
    let to_fits : SFits w32 c.sooner-to.result = search rules in
    let f = simp to_z-of_z at c.later-from.ensures in
    let t = simp to_z-of_z at c.sooner-to.ensures in
    let h = simp to_z-of_z at c.if-from-to.false in
    none_common c.args.a c.args.a_len c.args.b c.args.b_len _ _ f t h
