use Rattle.std.proofs.Common.{◌≡◌}
use Rattle.ev_desk.specs.DeskSeen.{asker_view, asker_desk}
use Rattle.ev_desk.specs.DeskSays.{IsOnlyAsked}
use Rattle.ev_desk.proofs.tests.wait_for.Given as goal

abbrev pub invariant-loop : goal.invariant-loop
invariant-loop g l = record { desk : asker_desk l.asker ≡ asker_desk l.initial.asker; only : IsOnlyAsked l.place (asker_view l.asker) }
