use Rattle.std.proofs.Common.{◌≡◌, ◌≤◌}
use Rattle.ev_desk.specs.DeskSeen.{asker_view, asker_desk}
use Rattle.ev_desk.specs.DeskSays.{IsIdle}
use Rattle.ev_desk.proofs.tests.ask_until_done.Given as goal

abbrev pub invariant-loop-i : goal.invariant-loop-i
invariant-loop-i g l = record { desk : asker_desk l.asker ≡ asker_desk l.initial.asker; idle : IsIdle (asker_view l.asker); points : l.points ≤ l.i }
