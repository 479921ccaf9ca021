use Rattle.ev_cmds.proofs.Taking.{on_ok_both, sees_none, sees_some}
use Rattle.ev_cmds.proofs.tile.TileCommands.take.Goals as goal

pub returns-in-Some : goal.returns-in-Some
returns-in-Some c =
    on_ok_both c.take.result (λ shows fits. sees_some c.args.one.now c.args.seen.now c.args.self.now c.in-Some.area c.take.new.self c.in-Some.ensures shows fits) c.take.ensures.shows c.take.ensures.fits

pub returns-in-None : goal.returns-in-None
returns-in-None c = sees_none c.args.one.now c.args.seen.now c.args.self.now c.in-None.ensures
