use Rattle.ev_fill.proofs.Stretched.{scaled_fits, scaled_is, stretched_below}
use Rattle.ev_fill.proofs.run.stretched.Goals as goal

pub overflow_mul-result-2 : goal.overflow_mul-result-2
overflow_mul-result-2 c = rw (c.from.ensures) record { fits = scaled_fits c.args.u c.args.part c.args.source c.args.inverse c.requires.place c.requires.part c.requires.source.0 c.requires.source.1 c.requires.inverse }

pub returns-clause-value : goal.returns-clause-value
returns-clause-value c = rw (c.from.ensures) (scaled_is c.args.u c.args.part c.args.source c.args.inverse c.requires.place c.requires.part c.requires.source.0 c.requires.source.1 c.requires.inverse)

pub returns-clause-within : goal.returns-clause-within
returns-clause-within c =
    rw (c.from.ensures, scaled_is c.args.u c.args.part c.args.source c.args.inverse c.requires.place c.requires.part c.requires.source.0 c.requires.source.1 c.requires.inverse)
    (stretched_below c.args.u c.args.part c.args.source c.requires.place c.requires.source.0)
