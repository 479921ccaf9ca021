use Rattle.std.proofs.Common.{◌≡◌, ◌+◌, ◌-◌, ◌<◌, arith, sym, subst, drop, length, List}
use Rattle.std.proofs.lemmas.List.{drop_all}
use Rattle.ev_cmds.specs.declared.sheet.Command.{Command}
use Rattle.ev_draw.specs.Making.{CarriesOutAll}
use Rattle.ev_draw.proofs.Sheeting.{none_carried, carried_more, total_rest, rest_is}
use Rattle.ev_draw.proofs.sheet.carry_out_all.Goals as goal

pub loop-i-init : goal.loop-i-init
loop-i-init c =
    (omega arith, subst (λ (cs : List Command). CarriesOutAll cs c.args.left c.args.top c.args.plane.now c.args.plane.now) (sym (drop_all (length c.args.commands.now) c.args.commands.now (omega arith))) (none_carried c.args.left c.args.top c.args.plane.now))

pub carry_out-requires-clause-count : goal.carry_out-requires-clause-count
carry_out-requires-clause-count c =
    let cs = c.args.commands.now in
    let i = c.loop-i.i in
    let one_more : i ≡ i - 1 + 1 = omega arith in
    let low : i - 1 < length cs = (let w = c.loop-i.invariant.0 in omega arith) in
    let rest = total_rest cs (i - 1) i c.index-commands-i.result one_more low in
    let count = c.loop-i.invariant.1.count in
    let is = c.index-commands-i.is in
    omega (arith, count, (rw (← c.index-commands-i.is) at rest))

pub loop-i-preserved : goal.loop-i-preserved
loop-i-preserved c =
    let cs = c.args.commands.now in
    let i = c.loop-i.i in
    let one_more : i ≡ i - 1 + 1 = omega arith in
    let low : i - 1 < length cs = (let w = c.loop-i.invariant.0 in omega arith) in (
      omega arith,
      subst (λ (xs : List Command). CarriesOutAll xs c.args.left c.args.top c.args.plane.now c.carry_out.new.plane) (sym (rest_is cs (i - 1) i c.index-commands-i.result one_more low c.index-commands-i.is))
          (carried_more c.index-commands-i.result (drop i cs) c.args.left c.args.top c.args.plane.now c.loop-i.plane c.carry_out.new.plane c.loop-i.invariant.1 c.carry_out.ensures),
    )
