use Rattle.std.proofs.Common.{rules}
use Rattle.ev_cmds.proofs.Framing.{left_row}
use Rattle.ev_cmds.proofs.frame.Frame.open_row.Goals as goal

pub returns-then-is_empty : goal.returns-then-is_empty
returns-then-is_empty c = left_row c.args.near.now c.args.row c.args.self.now (search rules)
