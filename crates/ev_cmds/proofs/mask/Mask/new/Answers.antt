use Rattle.ev_cmds.proofs.Masking.{none_set}
use Rattle.ev_cmds.proofs.mask.Mask.new.Goals as goal

pub returns : goal.returns
returns c = record { none = none_set }
