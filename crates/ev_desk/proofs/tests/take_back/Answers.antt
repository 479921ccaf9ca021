use Rattle.ev_desk.specs.DeskSeen.{asker_view}
use Rattle.ev_desk.proofs.Stages.{late_same, only_still, idle_back}
use Rattle.ev_desk.proofs.tests.take_back.Goals as goal

pub returns-in-Back-clause-stages : goal.returns-in-Back-clause-stages
returns-in-Back-clause-stages c = idle_back (asker_view c.args.asker.now) (asker_view c.withdraw.new.self) c.args.place c.requires c.in-Back.ensures.answer.1

pub returns-in-Late-clause-stages : goal.returns-in-Late-clause-stages
returns-in-Late-clause-stages c = only_still (asker_view c.args.asker.now) (asker_view c.withdraw.new.self) c.args.place c.requires (λ q. late_same (asker_view c.args.asker.now) (asker_view c.withdraw.new.self) c.args.place q _ c.requires.0 c.in-Late.ensures.answer.1)
