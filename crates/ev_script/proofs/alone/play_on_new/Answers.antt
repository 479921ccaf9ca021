use Rattle.ev_script.proofs.Orders.{none_in_order}
use Rattle.ev_script.proofs.alone.play_on_new.Goals as goal

pub returns-in_default-clause-in_order : goal.returns-in_default-clause-in_order
returns-in_default-clause-in_order g c = none_in_order _
