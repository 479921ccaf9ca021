use Rattle.std.proofs.Common.{arith}
use Rattle.ev_damage.proofs.Gathering.{halves, fit_above, places_front, places_back}
use Rattle.ev_damage.proofs.unkept.+unkept.Goals as goal

pub unkept-requires-2 : goal.unkept-requires-2
unkept-requires-2 t c = (
  omega (arith, c.split_at.ensures.back_len, c.if-records-le-FEW.false),
  (omega (arith, c.requires.same, c.split_at.ensures.back_len, c.split_at-2.ensures.back_len), fit_above c.args.records.now c.split_at.result.1.now _ c.split_at.ensures.back c.requires.areas),
)

pub returns : goal.returns
returns t c = λ others all.
    halves others c.args.records.now c.split_at.result.0.now c.split_at.result.1.now _ _ _ _ c.split_at.ensures.front c.split_at.ensures.back
    (c.in_ok-region.ensures others (places_front others c.args.records.now c.split_at.result.0.now c.args.places.now c.split_at-2.result.0.now _ c.split_at.ensures.front c.split_at-2.ensures.front all))
    (c.in_ok-rest.ensures others (places_back others c.args.records.now c.split_at.result.1.now c.args.places.now c.split_at-2.result.1.now _ c.split_at.ensures.back c.split_at-2.ensures.back all))
    c.in_ok-unite.ensures.ok
