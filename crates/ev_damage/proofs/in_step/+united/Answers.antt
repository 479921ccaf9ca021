use Rattle.std.proofs.Common.{arith}
use Rattle.ev_damage.proofs.Stepping.{areas_halved, fit_behind}
use Rattle.ev_damage.proofs.in_step.+united.Goals as goal

pub united-requires-2 : goal.united-requires-2
united-requires-2 t c = (omega (arith, c.split_at.ensures.back_len, c.if-areas-le-FEW.false), fit_behind c.args.areas.now c.split_at.result.1.now _ c.split_at.ensures.back c.requires)

pub returns : goal.returns
returns t c =
    areas_halved c.args.areas.now c.split_at.result.0.now c.split_at.result.1.now _ _ _ _ c.split_at.ensures.front c.split_at.ensures.back c.in_ok-region.ensures c.in_ok-rest.ensures c.in_ok-unite.ensures.ok
