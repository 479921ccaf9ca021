use Rattle.ev_desk.specs.DeskSeen.{asker_view}
use Rattle.ev_desk.proofs.Stages.{only_asked}
use Rattle.ev_desk.proofs.tests.ask_for.Goals as goal

pub returns-clause-asked : goal.returns-clause-asked
returns-clause-asked c = let is = c.in-Placed.ensures.answer in only_asked (asker_view c.args.asker.now) (asker_view c.ask.new.self) c.in-Placed.place _ c.requires is.1 is.2
