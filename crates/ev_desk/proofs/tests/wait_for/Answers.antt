use Rattle.ev_desk.specs.DeskSeen.{asker_view}
use Rattle.std.proofs.Common.{◌∙◌}
use Rattle.ev_desk.proofs.Stages.{busy_same, only_still, idle_collected}
use Rattle.ev_desk.proofs.tests.wait_for.Goals as goal

pub loop-preserved : goal.loop-preserved
loop-preserved g c = let a = c.in-NotYet.ensures.answer in let inv = c.loop.invariant in
    record { desk = c.rest.ensures.asker.0 ∙ (c.collect.ensures.asker.0 ∙ inv.desk); only = only_still (asker_view c.loop.asker) (asker_view c.rest.new.self) c.args.place inv.only (λ q. busy_same (asker_view c.loop.asker) (asker_view c.rest.new.self) c.args.place q _ inv.only.0 (c.rest.ensures.view ∙ a.3)) }

pub returns-in-End-clause-idle : goal.returns-in-End-clause-idle
returns-in-End-clause-idle g c = idle_collected (asker_view c.loop.asker) (asker_view c.collect.new.self) c.args.place _ c.loop.invariant.only c.in-End.ensures.answer.3
