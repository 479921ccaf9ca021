use Rattle.std.proofs.lemmas.Result.{on_ok_weaker}
use Rattle.ev_cmds.proofs.Framing.{none_opened, push_opens}
use Rattle.ev_cmds.proofs.frame.Frame.open_tile.Goals as goal

pub returns-in-Some : goal.returns-in-Some
returns-in-Some c =
    on_ok_weaker c.push_job.result
    (λ pushed. push_opens c.args.near.now c.args.row c.args.column c.in-Some.bare c.args.self.now _ c.requires.sized c.requires.row c.requires.column c.in-Some.ensures pushed)
    c.push_job.ensures

pub returns-in-None : goal.returns-in-None
returns-in-None c = none_opened c.args.near.now c.args.row c.args.column c.args.self.now c.requires.column c.in-None.ensures
