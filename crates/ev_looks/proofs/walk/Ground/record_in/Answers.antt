use Rattle.std.proofs.Common.{sym}
use Rattle.ev_looks.specs.PlacedStates.{states_now}
use Rattle.ev_looks.proofs.Placing.{finds, now_apart}
use Rattle.ev_looks.proofs.walk.Ground.record_in.Goals as goal

pub record-requires-clause-there : goal.record-requires-clause-there
record-requires-clause-there c =
    let t = c.args.self.now.objects.now in
    finds (states_now t) (now_apart t c.args.self.now.links.now c.requires.ground.laws c.requires.ground.tied) c.args.place c.in-Some.state.now (sym c.in-Some.ensures)
