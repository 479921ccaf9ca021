use Rattle.ev_script.proofs.Orders.{none_in_order}
use Rattle.ev_script.proofs.alone.run_alone.Goals as goal

pub returns-then-not-are_pairs-clause-in_order : goal.returns-then-not-are_pairs-clause-in_order
returns-then-not-are_pairs-clause-in_order g c = none_in_order _

pub returns-in-Err-Failed-clause-in_order : goal.returns-in-Err-Failed-clause-in_order
returns-in-Err-Failed-clause-in_order g c = none_in_order _

pub returns-in-Err-TooLong-clause-in_order : goal.returns-in-Err-TooLong-clause-in_order
returns-in-Err-TooLong-clause-in_order g c = none_in_order _

pub returns-in-Err-NoMemory-clause-in_order : goal.returns-in-Err-NoMemory-clause-in_order
returns-in-Err-NoMemory-clause-in_order g c = none_in_order _
