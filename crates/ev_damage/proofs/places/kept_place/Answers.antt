use Rattle.std.proofs.Common.{map}
use Rattle.ev_model.specs.Look.{look_of}
use Rattle.ev_damage.proofs.Placing.{none_kept}
use Rattle.ev_damage.proofs.places.kept_place.Goals as goal

pub returns-in-None : goal.returns-in-None
returns-in-None c = none_kept (map look_of c.args.others.now) (look_of c.args.one.now) (rw c.in-None.is at c.requires.place)
