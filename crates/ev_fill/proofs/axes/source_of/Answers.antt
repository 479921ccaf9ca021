use Rattle.std.proofs.Common.{sym}
use Rattle.ev_fill.proofs.Places.{same_place}
use Rattle.ev_fill.proofs.axes.source_of.Goals as goal

pub returns-then-axis-clause-value : goal.returns-then-axis-clause-value
returns-then-axis-clause-value c = sym (same_place c.args.axis.now c.args.u c.if-axis.true c.requires.place)
